-- A cycle without a message leaves an idle unit as it is.
use Rattle.std.proofs.Common.{◌≡◌, ℕ, Bool, true, false, List, [], ◌∷◌, length, refl, sym, ap, subst, None, arith}
use Rattle.std.specs.Prelude.{◌==◌, ◌&&◌}
use Rattle.std.proofs.lemmas.Bool.{and_parts, eqb-true}
use Rattle.chip_base.specs.Given.{Given, quiet}
use Rattle.chip_base.specs.declared.script.UartStep.{UartStep}
use Rattle.uart_lane.specs.Cycle.{begun, received, sent}
use Rattle.uart_lane.specs.Idle.{is_idle, is_over}
use Rattle.uart_lane.specs.Receiver.{Receiver}
use Rattle.uart_lane.specs.Receiving.{receive}
use Rattle.uart_lane.specs.State.{UartState}

abbrev receiver_of : List UartStep → List ℕ → ℕ → List ℕ → ℕ → ℕ → Receiver
receiver_of steps image begun_bytes heard left byte = record { steps = steps; image = image; begun_bytes = begun_bytes; heard = heard; left = left; byte = byte }

abbrev state_of : ℕ → Bool → ℕ → List ℕ → ℕ → Receiver → UartState
state_of number enabled bit fifo left receiver = record { number = number; enabled = enabled; bit = bit; fifo = fifo; left = left; receiver = receiver }

rests_at : (number : ℕ) (enabled : Bool) (bit : ℕ) (image : List ℕ) (begun_bytes : ℕ) (heard : List ℕ) (byte now : ℕ)
    → received (sent (begun (state_of number enabled bit [] 0 (receiver_of [] image begun_bytes heard 0 byte))) now) now ≡ quiet (state_of number enabled bit [] 0 (receiver_of [] image begun_bytes heard 0 byte))
unfolding receive
rests_at number true bit image begun_bytes heard byte now = refl
rests_at number false bit image begun_bytes heard byte now = refl

none_of : {X : Type 0} (xs : List X) → length xs ≡ 0 → xs ≡ []
none_of [] e = refl
none_of (x ∷ xs) e = absurd (omega (arith, e))

abbrev Rests : ℕ → Bool → ℕ → List ℕ → ℕ → ℕ → ℕ → ℕ → List ℕ → ℕ → List UartStep → Type 0
Rests number enabled bit image begun_bytes byte now left fifo receiving steps =
    (heard : List ℕ) → received (sent (begun (state_of number enabled bit fifo left (receiver_of steps image begun_bytes heard receiving byte))) now) now
    ≡ quiet (state_of number enabled bit fifo left (receiver_of steps image begun_bytes heard receiving byte))

rests_by : (number : ℕ) (enabled : Bool) (bit : ℕ) (fifo : List ℕ) (left : ℕ) (steps : List UartStep) (image : List ℕ) (begun_bytes : ℕ) (heard : List ℕ) (receiving byte now : ℕ)
    → left ≡ 0 → fifo ≡ [] → receiving ≡ 0 → steps ≡ [] → Rests number enabled bit image begun_bytes byte now left fifo receiving steps
rests_by number enabled bit fifo left steps image begun_bytes heard receiving byte now l f r s =
    subst (λ x. Rests number enabled bit image begun_bytes byte now x fifo receiving steps) (sym l)
    (subst (λ x. Rests number enabled bit image begun_bytes byte now 0 x receiving steps) (sym f)
    (subst (λ x. Rests number enabled bit image begun_bytes byte now 0 [] x steps) (sym r)
    (subst (λ x. Rests number enabled bit image begun_bytes byte now 0 [] 0 x) (sym s) (λ h. rests_at number enabled bit image begun_bytes h byte now))))

-- so the work of an idle unit may be passed over
idle_rests : (s : UartState) (now : ℕ) → is_idle s ≡ true → received (sent (begun s) now) now ≡ quiet s
idle_rests s now e =
    let first = and_parts ((s.left == 0) && (length s.fifo == 0)) (is_over s.receiver) e in
    let sends = and_parts (s.left == 0) (length s.fifo == 0) first.0 in
    let hears = and_parts (s.receiver.left == 0) (length s.receiver.steps == 0) first.1 in
    rests_by s.number s.enabled s.bit s.fifo s.left s.receiver.steps s.receiver.image s.receiver.begun_bytes s.receiver.heard s.receiver.left s.receiver.byte now
    (eqb-true s.left 0 sends.0) (none_of s.fifo (eqb-true (length s.fifo) 0 sends.1)) (eqb-true s.receiver.left 0 hears.0)
    (none_of s.receiver.steps (eqb-true (length s.receiver.steps) 0 hears.1)) s.receiver.heard

pub idle_unit : (s : UartState) (now : ℕ) → is_idle s ≡ true → s ≡ (received (sent (begun s) now) now).unit
idle_unit s now e = sym (ap (λ (g : Given UartState). g.unit) (idle_rests s now e))

pub idle_up : (s : UartState) (now : ℕ) → is_idle s ≡ true → None ≡ (received (sent (begun s) now) now).up
idle_up s now e = sym (ap (λ (g : Given UartState). g.up) (idle_rests s now e))

pub idle_event : (s : UartState) (now : ℕ) → is_idle s ≡ true → None ≡ (received (sent (begun s) now) now).event
idle_event s now e = sym (ap (λ (g : Given UartState). g.event) (idle_rests s now e))
