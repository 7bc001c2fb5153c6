-- A byte of the script goes up in the last cycle of its frame.
use Rattle.std.proofs.Common.{◌≡◌, ◌<◌, ℕ, zero, suc, ◌+◌, ◌-◌, ◌*◌, Bool, true, false, eqb, leb, [], ◌∷◌, length, Option, None, Some, refl, sym, ap, subst, ◌∙◌, arith, add-zero}
use Rattle.std.specs.Prelude.{option_to_list, slice_get}
use Rattle.std.proofs.lemmas.Bool.{false≢true}
use Rattle.std.proofs.lemmas.Bool.Decides.{nat_tests}
use Rattle.std.proofs.lemmas.Option.{slice_get_within}
use Rattle.chip_base.specs.declared.event.Event.{Event}
use Rattle.chip_base.specs.declared.message.Down.{Down}
use Rattle.chip_base.specs.Given.{Given}
use Rattle.chip_base.specs.Messages.{reset_in}
use Rattle.chip_base.specs.Runs.{given_after, unit_after}
use Rattle.chip_base.proofs.Runs.{after_more, after_none}
use Rattle.uart_lane.specs.Cycle.{frame_of, uart_cycle}
use Rattle.uart_lane.specs.Receipt.{received_in, HasNext, LetsReceive, ReceivesInTime}
use Rattle.uart_lane.specs.Receiver.{Receiver}
use Rattle.uart_lane.specs.Receiving.{Received, current, framed, heard_with, is_sent, looked, passes, ready, receive, run, step_bytes}
use Rattle.uart_lane.specs.Script.{byte_up}
use Rattle.uart_lane.specs.State.{UartState}
use Rattle.uart_lane.proofs.Along.{Receives, unit_receives, unit_receives_so}
use Rattle.uart_lane.proofs.Frames.{not_equal}
use Rattle.uart_lane.proofs.Received.{look_sent, ready_off, ready_on}

not_at_most : (a b : ℕ) → b < a → leb a b ≡ false
not_at_most a b h = grind (arith, nat_tests)

is_same : (a b : ℕ) → a ≡ b → eqb a b ≡ true
is_same a b h = grind (arith, nat_tests)

-- a step with a byte left doesn't pass at a look

has_left : (r : Receiver) (byte : ℕ) → slice_get (step_bytes r.image (current r)) r.begun_bytes ≡ Some byte → is_sent r ≡ false
has_left r byte e = not_at_most (length (step_bytes r.image (current r))) r.begun_bytes (slice_get_within (step_bytes r.image (current r)) r.begun_bytes byte e)

stays_by : (r : Receiver) (now : ℕ) (b : Bool) → passes r now (current r) ≡ b → is_sent r ≡ false → passes r now (current r) ≡ false
stays_by r now true p h = absurd (false≢true (sym h ∙ look_sent r now _ refl p))
stays_by r now false p h = p

-- a frame that runs

pub record RunsOn (g : Received) (cycles value : ℕ) : Type 0 where
  pub left : g.receiver.left ≡ cycles
  pub byte : g.receiver.byte ≡ value
  pub none : g.byte ≡ None

run_on : (r : Receiver) → 1 < r.left → RunsOn (run r) (r.left - 1) r.byte
run_on r h =
    let e0 : eqb r.left 0 ≡ false = not_equal r.left 0 (omega (arith, h)) in
    let e1 : eqb r.left 1 ≡ false = not_equal r.left 1 h in
    rw (e0, e1) record { left = refl; byte = refl; none = refl }

run_last : (r : Receiver) → r.left ≡ 1 → (run r).byte ≡ Some r.byte
run_last r h =
    let e0 : eqb r.left 0 ≡ false = not_equal r.left 0 (omega (arith, h)) in
    let e1 : eqb r.left 1 ≡ true = is_same r.left 1 h in
    rw (e0, e1) refl

looked_begins : (r : Receiver) (now frame byte : ℕ) → passes r now (current r) ≡ false
    → slice_get (step_bytes r.image (current r)) r.begun_bytes ≡ Some byte → looked r now true frame ≡ framed r frame (Some byte)
looked_begins r now frame byte p e = rw p (ap (framed r frame) e)

ready_begins : (r : Receiver) (now frame byte : ℕ) → r.left ≡ 0 → slice_get (step_bytes r.image (current r)) r.begun_bytes ≡ Some byte
    → ready r now true frame ≡ framed r frame (Some byte)
ready_begins r now frame byte z e =
    ready_on r now true frame (is_same r.left 0 z) ∙ looked_begins r now frame byte (stays_by r now _ refl (has_left r byte e)) e

begins : (r : Receiver) (now frame byte : ℕ) → r.left ≡ 0 → slice_get (step_bytes r.image (current r)) r.begun_bytes ≡ Some byte → 1 < frame
    → RunsOn (run (ready r now true frame)) (frame - 1) byte
begins r now frame byte z e h =
    subst (λ q. RunsOn (run q) (frame - 1) byte) (sym (ready_begins r now frame byte z e)) (run_on (framed r frame (Some byte)) h)

goes_on : (r : Receiver) (now : ℕ) (enabled : Bool) (frame : ℕ) → 1 < r.left → RunsOn (run (ready r now enabled frame)) (r.left - 1) r.byte
goes_on r now enabled frame h =
    subst (λ q. RunsOn (run q) (r.left - 1) r.byte) (sym (ready_off r now enabled frame (not_equal r.left 0 (omega (arith, h))))) (run_on r h)

gives_up : (r : Receiver) (now : ℕ) (enabled : Bool) (frame : ℕ) → r.left ≡ 1 → (run (ready r now enabled frame)).byte ≡ Some r.byte
gives_up r now enabled frame h =
    ap (λ q. (run q).byte) (ready_off r now enabled frame (not_equal r.left 0 (omega (arith, h)))) ∙ run_last r h

-- whatever is heard in the cycle

receive_begins : (r : Receiver) (now : ℕ) (event : Option Event) (frame byte : ℕ) → r.left ≡ 0
    → slice_get (step_bytes r.image (current r)) r.begun_bytes ≡ Some byte → 1 < frame → RunsOn (receive r now event true frame) (frame - 1) byte
unfolding receive
receive_begins r now None frame byte z e h = begins r now frame byte z e h
receive_begins r now (Some event) frame byte z e h = begins (heard_with r (Some event)) now frame byte z e h

receive_goes_on : (r : Receiver) (now : ℕ) (event : Option Event) (enabled : Bool) (frame : ℕ) → 1 < r.left
    → RunsOn (receive r now event enabled frame) (r.left - 1) r.byte
unfolding receive
receive_goes_on r now None enabled frame h = goes_on r now enabled frame h
receive_goes_on r now (Some event) enabled frame h = goes_on (heard_with r (Some event)) now enabled frame h

receive_gives_up : (r : Receiver) (now : ℕ) (event : Option Event) (enabled : Bool) (frame : ℕ) → r.left ≡ 1
    → (receive r now event enabled frame).byte ≡ Some r.byte
unfolding receive
receive_gives_up r now None enabled frame h = gives_up r now enabled frame h
receive_gives_up r now (Some event) enabled frame h = gives_up (heard_with r (Some event)) now enabled frame h

-- the unit's cycles

record Underway (g : Given UartState) (cycles value : ℕ) : Type 0 where
  left : g.unit.receiver.left ≡ cycles
  byte : g.unit.receiver.byte ≡ value
  none : byte_up g.up ≡ []

under_way : (s : UartState) (now : ℕ) (enabled : Bool) (frame : ℕ) (g : Given UartState) (left byte : ℕ) → Receives s now enabled frame g
    → RunsOn (receive s.receiver now g.event enabled frame) left byte → Underway g left byte
under_way s now enabled frame g left byte a r = record {
  left = ap (λ q. q.left) a.receiver ∙ r.left;
  byte = ap (λ q. q.byte) a.receiver ∙ r.byte;
  none = a.up ∙ ap option_to_list r.none;
}

first_cycle : (s : UartState) (now byte : ℕ) → HasNext s byte → 0 < s.bit → Underway (uart_cycle s now None) (frame_of s - 1) byte
first_cycle s now byte n p =
    under_way s now true (frame_of s) (uart_cycle s now None) (frame_of s - 1) byte
    (subst (λ enabled. Receives s now enabled (frame_of s) (uart_cycle s now None)) n.enabled (unit_receives_so s now))
    (receive_begins s.receiver now (uart_cycle s now None).event (frame_of s) byte n.no_frame n.next (omega (arith, p)))

next_cycle : (s : UartState) (now : ℕ) (down : Option Down) → reset_in down ≡ 0 → 1 < s.receiver.left
    → Underway (uart_cycle s now down) (s.receiver.left - 1) s.receiver.byte
next_cycle s now down h l =
    let a : (enabled : Bool) × (frame : ℕ) × Receives s now enabled frame (uart_cycle s now down) = unit_receives s now down h in
    under_way s now a.0 a.1 (uart_cycle s now down) (s.receiver.left - 1) s.receiver.byte a.2
    (receive_goes_on s.receiver now (uart_cycle s now down).event a.0 a.1 l)

last_cycle : (s : UartState) (now : ℕ) (down : Option Down) → reset_in down ≡ 0 → s.receiver.left ≡ 1
    → byte_up (uart_cycle s now down).up ≡ s.receiver.byte ∷ []
last_cycle s now down h l =
    let a : (enabled : Bool) × (frame : ℕ) × Receives s now enabled frame (uart_cycle s now down) = unit_receives s now down h in
    a.2.up ∙ ap option_to_list (receive_gives_up s.receiver now (uart_cycle s now down).event a.0 a.1 l)

runs_on : (s : UartState) (byte : ℕ) → HasNext s byte → 0 < s.bit → (t : ℕ) (downs : ℕ → Option Down) → LetsReceive (frame_of s) t downs
    → (k : ℕ) → k + 1 < frame_of s → Underway (given_after uart_cycle s t downs k) (frame_of s - (k + 1)) byte
runs_on s byte n p t downs l zero h =
    subst (λ u. Underway (uart_cycle u (t + 0) (downs (t + 0))) (frame_of s - 1) byte) (sym (after_none uart_cycle s t downs))
    (subst (λ down. Underway (uart_cycle s (t + 0) down) (frame_of s - 1) byte) (sym (ap downs (add-zero t) ∙ l.first)) (first_cycle s (t + 0) byte n p))
runs_on s byte n p t downs l (suc k) h =
    let before : Underway (given_after uart_cycle s t downs k) (frame_of s - (k + 1)) byte = runs_on s byte n p t downs l k (omega (arith, h)) in
    let u : UartState = unit_after uart_cycle s t downs (suc k) in
    let left : u.receiver.left ≡ frame_of s - (k + 1) = ap (λ u. u.receiver.left) (after_more uart_cycle s t downs k) ∙ before.left in
    let same : u.receiver.byte ≡ byte = ap (λ u. u.receiver.byte) (after_more uart_cycle s t downs k) ∙ before.byte in
    let next : Underway (given_after uart_cycle s t downs (suc k)) (u.receiver.left - 1) u.receiver.byte
    = next_cycle u (t + suc k) (downs (t + suc k)) (l.no_reset (suc k) (omega (arith, h))) (omega (arith, left, h)) in
    record { left = next.left ∙ omega (arith, left); byte = next.byte ∙ same; none = next.none }

comes_at : (s : UartState) (byte : ℕ) → HasNext s byte → 0 < s.bit → (t : ℕ) (downs : ℕ → Option Down) → LetsReceive (frame_of s) t downs
    → (k : ℕ) → k + 1 ≡ frame_of s → received_in s t downs k ≡ byte ∷ []
comes_at s byte n p t downs l zero h = absurd (omega (arith, p, h))
comes_at s byte n p t downs l (suc k) h =
    let before : Underway (given_after uart_cycle s t downs k) (frame_of s - (k + 1)) byte = runs_on s byte n p t downs l k (omega (arith, h)) in
    let u : UartState = unit_after uart_cycle s t downs (suc k) in
    let left : u.receiver.left ≡ 1 = ap (λ u. u.receiver.left) (after_more uart_cycle s t downs k) ∙ before.left ∙ omega (arith, h) in
    let same : u.receiver.byte ≡ byte = ap (λ u. u.receiver.byte) (after_more uart_cycle s t downs k) ∙ before.byte in
    last_cycle u (t + suc k) (downs (t + suc k)) (l.no_reset (suc k) (omega (arith, h))) left ∙ ap (λ b. b ∷ []) same

-- the next byte of the script goes up in the last cycle of its frame
pub receives_in_time : (s : UartState) (frame : ℕ) → frame ≡ 10 * s.bit → 0 < s.bit → ReceivesInTime s frame
receives_in_time s frame e p byte n t downs l =
    let m : LetsReceive (frame_of s) t downs = subst (λ f. LetsReceive f t downs) e l in record {
      before = λ k h. (runs_on s byte n p t downs m k (omega (arith, e, h))).none;
      at = comes_at s byte n p t downs m (frame - 1) (omega (arith, e, p));
    }
