-- The events of a cycle, and of all cycles.
use Rattle.std.proofs.Common.{◌≡◌, ◌≤◌, ℕ, suc, ◌⊎◌, inl, inr, Bool, true, false, eqb, ltb, length, List, [], ◌∷◌, ◌++◌, Option, None, Some, refl, ap, subst, sym, ◌∙◌, append-nil, append_assoc}
use Rattle.std.specs.Prelude.{if◌then◌else◌, option_to_list}
use Rattle.bench_parts.specs.Behave.{Behaviour}
use Rattle.board_units.specs.GpioCycle.{gpio_cycle, outputs_after}
use Rattle.board_units.specs.GpioState.{GpioState}
use Rattle.board_units.specs.Messages.{change_event}
use Rattle.board_units.specs.PwmCycle.{outputs_of, pwm_cycle, set_in as pwm_set}
use Rattle.board_units.specs.PwmState.{PwmState}
use Rattle.board_units.specs.WatchdogCycle.{watchdog_cycle}
use Rattle.board_units.specs.WatchdogState.{WatchdogState}
use Rattle.board_units.specs.WatchdogTime.{FiresOnce}
use Rattle.board_units.proofs.Fires.{fires_once}
use Rattle.chip_base.specs.declared.event.Event.{Event}
use Rattle.chip_base.specs.declared.message.Down.{Down}
use Rattle.chip_base.specs.declared.message.Down.TheVariants.{Reset, Set}
use Rattle.chip_base.specs.declared.message.Up.{Up}
use Rattle.chip_base.specs.Given.{Given}
use Rattle.chip_base.specs.Messages.{fire_in}
use Rattle.stream_link.specs.StreamCycle.{next_word, passing, set_in as stream_set, stream_cycle}
use Rattle.stream_link.specs.StreamState.{StreamState}
use Rattle.stream_link.specs.declared.word.StreamWord.{StreamWord}
use Rattle.uart_lane.specs.Cycle.{begun, frame_sent, may_begin, queued, received, sent, set_in, uart_cycle}
use Rattle.uart_lane.specs.State.{UartState}
use Rattle.chip_whole.specs.Asked.{events_at}
use Rattle.chip_whole.specs.Chip.{events_of}
use Rattle.chip_whole.proofs.Orders.{EndBefore, IsAt, comes_next, later_place, next_cycle}

-- an event, if there is one, is of this unit and cycle
abbrev pub ToldAt : ℕ → ℕ → Option Event → Type 0
ToldAt = IsAt (λ (e : Event). e.cycle) (λ (e : Event). e.unit)

-- events in order, all before this unit's place in this cycle
abbrev pub TellBefore : ℕ → ℕ → List Event → Type 0
TellBefore = EndBefore (λ (e : Event). e.cycle) (λ (e : Event). e.unit)

-- the numbers of the units, each above the one before
abbrev pub Rises : ℕ → List ℕ → Type 0
Rises from [] = Unit {0}
Rises from (n ∷ rest) = (from ≤ n) × Rises (suc n) rest

-- each unit tells of itself, by their numbers
abbrev pub AllTold : ℕ → List ℕ → List (Option Event) → Type 0
AllTold now [] [] = Unit {0}
AllTold now [] (e ∷ es) = ⊥
AllTold now (n ∷ ns) [] = ⊥
AllTold now (n ∷ ns) (e ∷ es) = ToldAt n now e × AllTold now ns es

-- the events of a cycle come behind those before it, by unit
pub told_all : (now from : ℕ) (numbers : List ℕ) (told : List (Option Event)) (events : List Event) → Rises from numbers → AllTold now numbers told
    → TellBefore now from events → TellBefore (suc now) 0 (events ++ events_of told)
told_all now from [] [] events r t h = rw append-nil (next_cycle _ _ now from events h)
told_all now from [] (e ∷ es) events r t h = absurd t
told_all now from (n ∷ ns) [] events r t h = absurd t
told_all now from (n ∷ ns) (e ∷ es) events r t h =
    subst (λ all. TellBefore (suc now) 0 all) (append_assoc events (option_to_list e) (events_of es))
    (told_all now (suc n) ns es (events ++ option_to_list e) r.1 t.1 (comes_next _ _ now n events e t.0 (later_place _ _ now from n events r.0 h)))

-- the events of one unit

pub at_more : (unit : ℕ) (a b : List Event) → events_at unit (a ++ b) ≡ events_at unit a ++ events_at unit b
at_more unit [] b = refl
at_more unit (e ∷ rest) b =
    ap (λ later. (if eqb e.unit unit then e ∷ [] else []) ++ later) (at_more unit rest b)
    ∙ sym (append_assoc (if eqb e.unit unit then e ∷ [] else []) (events_at unit rest) (events_at unit b))

-- what the units of these numbers told in a cycle, as far as it is of one of them
abbrev pub told_among : ℕ → List ℕ → List (Option Event) → List Event
told_among unit [] told = []
told_among unit (n ∷ ns) [] = []
told_among unit (n ∷ ns) (e ∷ es) = (if eqb n unit then option_to_list e else []) ++ told_among unit ns es

at_one : (unit n now : ℕ) (e : Option Event) (same : Bool) → eqb n unit ≡ same → ToldAt n now e
    → events_at unit (option_to_list e) ≡ (if eqb n unit then option_to_list e else [])
at_one unit n now None true s t = rw s refl
at_one unit n now None false s t = rw s refl
at_one unit n now (Some e) same s t = let here : eqb e.unit unit ≡ eqb n unit = ap (λ u. eqb u unit) t.1 in rw here (append-nil _)

-- the events of a cycle that are of this unit
pub at_each : (unit now : ℕ) (numbers : List ℕ) (told : List (Option Event)) → AllTold now numbers told
    → events_at unit (events_of told) ≡ told_among unit numbers told
at_each unit now [] [] t = refl
at_each unit now [] (e ∷ es) t = absurd t
at_each unit now (n ∷ ns) [] t = absurd t
at_each unit now (n ∷ ns) (e ∷ es) t =
    at_more unit (option_to_list e) (events_of es) ∙ ap (λ first. first ++ events_at unit (events_of es)) (at_one unit n now e _ refl t.0)
    ∙ ap (λ later. (if eqb n unit then option_to_list e else []) ++ later) (at_each unit now ns es t.1)

-- what a cycle of a UART tells

-- its number stays, and its event is of its number and of this cycle
pub record TellsOfItself (s : UartState) (now : ℕ) (g : Given UartState) : Type 0 where
  pub number : g.unit.number ≡ s.number
  pub event : ToldAt s.number now g.event

frame_sent_tells : (s : UartState) (now : ℕ) (fifo : List ℕ) → TellsOfItself s now (frame_sent s now fifo)
frame_sent_tells s now [] = record { number = refl; event = tt }
frame_sent_tells s now (b ∷ rest) = record { number = refl; event = (refl, refl) }

sent_tells_by : (s : UartState) (now : ℕ) (a b : Bool) → eqb s.left 0 ≡ a → eqb s.left 1 ≡ b → TellsOfItself s now (sent s now)
sent_tells_by s now true b p q = rw p record { number = refl; event = tt }
sent_tells_by s now false true p q = rw (p, q) (frame_sent_tells s now s.fifo)
sent_tells_by s now false false p q = rw (p, q) record { number = refl; event = tt }

sent_tells : (s : UartState) (now : ℕ) → TellsOfItself s now (sent s now)
sent_tells s now = sent_tells_by s now _ _ refl refl

begun_number_by : (s : UartState) (b : Bool) → may_begin s ≡ b → (begun s).number ≡ s.number
begun_number_by s true h = rw h refl
begun_number_by s false h = rw h refl

begun_number : (s : UartState) → (begun s).number ≡ s.number
begun_number s = begun_number_by s _ refl

-- a change before the transmitter that keeps the number
same_number : (s t : UartState) (now : ℕ) → t.number ≡ s.number → TellsOfItself s now (received (sent (begun t) now) now)
same_number s t now e =
    let same : (begun t).number ≡ s.number = begun_number t ∙ e in
    let told : TellsOfItself (begun t) now (sent (begun t) now) = sent_tells (begun t) now in
    record {
      number = told.number ∙ same;
      event = subst (λ number. ToldAt number now (sent (begun t) now).event) same told.event;
    }

queued_number : (s : UartState) (byte : ℕ) (b : Bool) → ltb (length s.fifo) 16 ≡ b → (queued s byte).number ≡ s.number
queued_number s byte true e = rw e refl
queued_number s byte false e = rw e refl

set_number_by : (s : UartState) (reg word : ℕ) (a b : Bool) → eqb reg 0 ≡ a → eqb reg 4 ≡ b → (set_in s reg word).number ≡ s.number
set_number_by s reg word true b p q = rw p refl
set_number_by s reg word false true p q = rw (p, q) (queued_number s _ _ refl)
set_number_by s reg word false false p q = rw (p, q) refl

pub uart_tells : (s : UartState) (now : ℕ) (down : Option Down) → TellsOfItself s now (uart_cycle s now down)
unfolding uart_cycle
uart_tells s now None = same_number s s now refl
uart_tells s now (Some Reset) = record { number = refl; event = tt }
uart_tells s now (Some (Set reg word)) = same_number s (set_in s reg word) now (set_number_by s reg word _ _ refl refl)

-- what the units of the pins, of pulse-width modulation, of the stream link and of the watchdog tell

change_tells : (now unit before after : ℕ) (same : Bool) → eqb before after ≡ same → ToldAt unit now (change_event now unit before after)
change_tells now unit before after true e = rw e tt
change_tells now unit before after false e = rw e (refl, refl)

pub gpio_tells : (s : GpioState) (now : ℕ) (down : Option Down) → ToldAt 4 now (gpio_cycle s now down).event
unfolding gpio_cycle
gpio_tells s now down = change_tells now 4 s.outputs (outputs_after s.outputs down) _ refl

pub pwm_tells : (s : PwmState) (now : ℕ) (down : Option Down) → ToldAt 5 now (pwm_cycle s now down).event
unfolding pwm_cycle
pwm_tells s now None = change_tells now 5 s.mask (outputs_of s) _ refl
pwm_tells s now (Some Reset) = change_tells now 5 s.mask 0 _ refl
pwm_tells s now (Some (Set reg word)) = change_tells now 5 (pwm_set s reg word).mask (outputs_of (pwm_set s reg word)) _ refl

passing_tells : (part : Option Behaviour) (s : StreamState) (now : ℕ) (word : Option StreamWord) → ToldAt 6 now (passing part s now word).event
passing_tells part s now None = tt
passing_tells part s now (Some word) = (refl, refl)

pub stream_tells : (part : Option Behaviour) (s : StreamState) (now : ℕ) (down : Option Down) → ToldAt 6 now (stream_cycle part s now down).event
unfolding stream_cycle
stream_tells part s now None = passing_tells part s now (next_word s.queue)
stream_tells part s now (Some Reset) = tt
stream_tells part s now (Some (Set reg word)) =
    passing_tells part (record s { queue = stream_set s.queue reg word }) now (next_word (stream_set s.queue reg word))

fire_or_not : (up : Option Up) → (fire_in up ≡ 0) ⊎ (fire_in up ≡ 1)
fire_or_not None = inl refl
fire_or_not (Some up) = by_fire up.fire refl
  where
    by_fire : (b : Bool) → up.fire ≡ b → (fire_in (Some up) ≡ 0) ⊎ (fire_in (Some up) ≡ 1)
    by_fire true e = inr (rw e refl)
    by_fire false e = inl (rw e refl)

pub wdt_tells : (s : WatchdogState) (now : ℕ) (down : Option Down) → ToldAt 7 now (watchdog_cycle s now down).event
wdt_tells s now down = by_fire (fire_or_not (watchdog_cycle s now down).up)
  where
    once : FiresOnce now s down (watchdog_cycle s now down).unit (watchdog_cycle s now down).up (watchdog_cycle s now down).event
    once = fires_once now s down _ _ _ refl refl refl

    by_fire : (fire_in (watchdog_cycle s now down).up ≡ 0) ⊎ (fire_in (watchdog_cycle s now down).up ≡ 1) → ToldAt 7 now (watchdog_cycle s now down).event
    by_fire (inl none) = subst (ToldAt 7 now) (sym (once.untold none)) tt
    by_fire (inr one) = subst (ToldAt 7 now) (sym (once.told one)) (refl, refl)
