-- Bytes on their way to a UART, in it and sent, in their order.
use Rattle.std.proofs.Common.{◌≡◌, ◌≤◌, ℕ, zero, suc, Bool, true, false, eqb, List, [], ◌∷◌, ◌++◌, length, map, Option, None, Some, refl, ap, sym, ◌∙◌, arith, append_assoc, append-nil}
use Rattle.std.specs.Prelude.{option_to_list, if◌then◌else◌}
use Rattle.std.proofs.lemmas.List.{map-append}
use Rattle.chip_base.specs.Messages.{reset_in}
use Rattle.chip_base.specs.declared.event.Event.{Event}
use Rattle.chip_base.specs.declared.message.Down.{Down}
use Rattle.chip_base.specs.declared.message.Down.TheVariants.{Reset, Set}
use Rattle.delay_line.specs.Queue.{empty_link}
use Rattle.soc_words.proofs.Links.{all_more}
use Rattle.soc_words.specs.Link.{link_first, link_moved}
use Rattle.uart_lane.specs.Counts.{bytes_in, bytes_out}
use Rattle.uart_lane.specs.Cycle.{uart_cycle}
use Rattle.uart_lane.specs.State.{UartState}
use Rattle.chip_whole.specs.Asked.{events_at}
use Rattle.chip_whole.specs.Credits.{UartLosesNone}
use Rattle.chip_whole.specs.Joined.{Joined, event_of, joined_after}
use Rattle.chip_whole.specs.Sent.{Fate, Lost, Went, byte_in, bytes_on, fates_in, lost_by, told_by, went}
use Rattle.chip_whole.proofs.Events.{at_more}

bytes_more : (line : List (Option Down)) (d : Option Down) → bytes_on (line ++ d ∷ []) ≡ bytes_on line ++ bytes_in d
bytes_more line d = all_more bytes_in line d

-- the bytes of a cycle change places and keep their order
in_order : (sent told fifo here later more out left : List ℕ) → sent ≡ told ++ fifo ++ (here ++ later) → fifo ++ here ≡ out ++ left
    → sent ++ more ≡ told ++ out ++ left ++ (later ++ more)
in_order sent told fifo here later more out left all step =
    ap (λ bytes. bytes ++ more) all ∙ append_assoc (told ++ fifo) (here ++ later) more ∙ append_assoc told fifo ((here ++ later) ++ more)
    ∙ ap (λ rest. told ++ (fifo ++ rest)) (append_assoc here later more) ∙ ap (λ rest. told ++ rest) (sym (append_assoc fifo here (later ++ more)))
    ∙ ap (λ first. told ++ (first ++ (later ++ more))) step ∙ ap (λ rest. told ++ rest) (append_assoc out left (later ++ more))
    ∙ sym (append_assoc told out (left ++ (later ++ more))) ∙ sym (append_assoc (told ++ out) left (later ++ more))

-- the bytes of the line down, of which the first place arrives and the last one is sent
moved_bytes : (sent told fifo out left : List ℕ) (line : List (Option Down)) (d : Option Down) → 1 ≤ length line → fifo ++ bytes_in (link_first line) ≡ out ++ left
    → sent ≡ told ++ fifo ++ bytes_on line → sent ++ bytes_in d ≡ told ++ out ++ left ++ bytes_on (link_moved line d)
moved_bytes sent told fifo out left [] d l step all = absurd (omega (arith, l))
moved_bytes sent told fifo out left (m ∷ rest) d l step all =
    in_order sent told fifo (bytes_in m) (bytes_on rest) (bytes_in d) out left all step ∙ ap (λ later. told ++ out ++ left ++ later) (sym (bytes_more rest d))

-- the bytes of fates

bytes_of_went : (bytes : List ℕ) → map byte_in (map (λ byte. Went byte) bytes) ≡ bytes
bytes_of_went [] = refl
bytes_of_went (b ∷ rest) = ap (λ later. b ∷ later) (bytes_of_went rest)

bytes_of_lost : (bytes : List ℕ) → map byte_in (map (λ byte. Lost byte) bytes) ≡ bytes
bytes_of_lost [] = refl
bytes_of_lost (b ∷ rest) = ap (λ later. b ∷ later) (bytes_of_lost rest)

went_of_went : (bytes : List ℕ) → went (map (λ byte. Went byte) bytes) ≡ bytes
went_of_went [] = refl
went_of_went (b ∷ rest) = ap (λ later. b ∷ later) (went_of_went rest)

went_of_lost : (bytes : List ℕ) → went (map (λ byte. Lost byte) bytes) ≡ []
went_of_lost [] = refl
went_of_lost (b ∷ rest) = went_of_lost rest

went_more : (a b : List Fate) → went (a ++ b) ≡ went a ++ went b
went_more [] b = refl
went_more (Went byte ∷ rest) b = ap (λ later. byte ∷ later) (went_more rest b)
went_more (Lost byte ∷ rest) b = went_more rest b

lost_went : (waiting : List ℕ) (none : Bool) → went (if none then [] else map (λ byte. Lost byte) waiting) ≡ []
lost_went waiting true = refl
lost_went waiting false = went_of_lost waiting

-- those that were sent in a cycle are those that its event tells
went_in : (j : Joined UartState) (now : ℕ) → went (fates_in j now) ≡ bytes_out (event_of uart_cycle j now)
went_in j now =
    went_more (map (λ byte. Went byte) (bytes_out (event_of uart_cycle j now))) (lost_by (reset_in (link_first j.down)) j.unit.fifo)
    ∙ ap (λ first. first ++ went (lost_by (reset_in (link_first j.down)) j.unit.fifo)) (went_of_went (bytes_out (event_of uart_cycle j now)))
    ∙ ap (λ later. bytes_out (event_of uart_cycle j now) ++ later) (lost_went j.unit.fifo (eqb (reset_in (link_first j.down)) 0)) ∙ append-nil _

-- without a Reset
sent_alone : (out left : List ℕ) → out ++ left ≡ map byte_in (map (λ byte. Went byte) out ++ []) ++ left
sent_alone out left = ap (λ bytes. bytes ++ left) (sym (bytes_of_went out) ∙ ap (map byte_in) (sym (append-nil (map (λ byte. Went byte) out))))

-- the bytes that waited in a UART and came are those that it sent, or that a Reset lost, and those that wait
fated : (s : UartState) (now : ℕ) (down : Option Down) → UartLosesNone s now down
    → s.fifo ++ bytes_in down ≡ map byte_in (map (λ byte. Went byte) (bytes_out (uart_cycle s now down).event) ++ lost_by (reset_in down) s.fifo) ++ (uart_cycle s now down).unit.fifo
unfolding uart_cycle
fated s now None loses = loses refl ∙ sent_alone (bytes_out (uart_cycle s now None).event) (uart_cycle s now None).unit.fifo
fated s now (Some Reset) loses = ap (λ bytes. bytes ++ []) (sym (bytes_of_lost s.fifo))
fated s now (Some (Set reg word)) loses = loses refl ∙ sent_alone (bytes_out (uart_cycle s now (Some (Set reg word))).event) (uart_cycle s now (Some (Set reg word))).unit.fifo

-- a cycle of a UART and its line down: what was sent down, and what became of it
pub sends_more : (sent : List ℕ) (so_far : List Fate) (j : Joined UartState) (now : ℕ) (d : Option Down) → 1 ≤ length j.down → UartLosesNone j.unit now (link_first j.down)
    → sent ≡ map byte_in so_far ++ j.unit.fifo ++ bytes_on j.down
    → sent ++ bytes_in d ≡ map byte_in (so_far ++ fates_in j now) ++ (joined_after uart_cycle j now d).unit.fifo ++ bytes_on (joined_after uart_cycle j now d).down
sends_more sent so_far j now d l loses all =
    moved_bytes sent (map byte_in so_far) j.unit.fifo (map byte_in (fates_in j now)) (joined_after uart_cycle j now d).unit.fifo j.down d l (fated j.unit now (link_first j.down) loses) all
    ∙ ap (λ told. told ++ (joined_after uart_cycle j now d).unit.fifo ++ bytes_on (joined_after uart_cycle j now d).down) (sym (map-append byte_in so_far (fates_in j now)))

-- what it told, where this cycle's event is told behind the others
pub told_so_far : (first before after : List ℕ) (so_far : List Fate) (j : Joined UartState) (now : ℕ) → after ≡ before ++ bytes_out (event_of uart_cycle j now)
    → before ≡ first ++ went so_far → after ≡ first ++ went (so_far ++ fates_in j now)
told_so_far first before after so_far j now step all =
    step ∙ ap (λ told. told ++ bytes_out (event_of uart_cycle j now)) all ∙ append_assoc first (went so_far) (bytes_out (event_of uart_cycle j now))
    ∙ ap (λ later. first ++ later) (ap (λ here. went so_far ++ here) (sym (went_in j now)) ∙ sym (went_more so_far (fates_in j now)))

-- an empty line has no byte
pub bytes_empty : (delay : ℕ) → bytes_on (empty_link delay) ≡ []
unfolding empty_link
bytes_empty zero = refl
bytes_empty (suc n) = bytes_empty n

-- the value of an event, if there is one
value_told : (event : Option Event) → map (λ (e : Event). e.value) (option_to_list event) ≡ bytes_out event
value_told None = refl
value_told (Some e) = refl

-- what a unit told, where this is its event among those that come behind the others
pub told_more : (unit : ℕ) (before here : List Event) (event : Option Event) → events_at unit here ≡ option_to_list event
    → told_by unit (before ++ here) ≡ told_by unit before ++ bytes_out event
told_more unit before here event e =
    ap (map (λ (e : Event). e.value)) (at_more unit before here ∙ ap (λ later. events_at unit before ++ later) e)
    ∙ map-append (λ (e : Event). e.value) (events_at unit before) (option_to_list event) ∙ ap (λ later. told_by unit before ++ later) (value_told event)
