-- What a cycle does to the bytes in the unit, in their order.
use Rattle.std.proofs.Common.{◌≡◌, ◌≤◌, ℕ, ◌+◌, Bool, true, false, eqb, List, [], ◌∷◌, ◌++◌, length, Option, None, Some, refl, sym, subst, cond, ◌∙◌, arith, append-nil}
use Rattle.chip_base.specs.declared.event.Event.{Event}
use Rattle.chip_base.specs.declared.message.Down.{Down}
use Rattle.chip_base.specs.declared.message.Down.TheVariants.{Reset, Set}
use Rattle.chip_base.specs.Messages.{data_in}
use Rattle.uart_lane.specs.State.{UartState}
use Rattle.chip_base.specs.Given.{Given}
use Rattle.uart_lane.specs.Cycle.{set_in, begun, frame_sent, sent, uart_cycle}
use Rattle.uart_lane.specs.Counts.{bytes_in, bytes_out, KeepsOrder}
use Rattle.uart_lane.proofs.Counts.{begun-fifo, is_less, not_four}

-- what left, and what waits
abbrev pub told : Given UartState → List ℕ
told g = bytes_out g.event ++ g.unit.fifo

frame_sent-told : (s : UartState) (now : ℕ) (fifo : List ℕ) → fifo ≡ s.fifo → told (frame_sent s now fifo) ≡ fifo
frame_sent-told s now [] e = sym e
frame_sent-told s now (b ∷ rest) e = refl

sent-told_by : (s : UartState) (now : ℕ) (a b : Bool) → eqb s.left 0 ≡ a → eqb s.left 1 ≡ b → told (sent s now) ≡ s.fifo
sent-told_by s now true b p q = rw p refl
sent-told_by s now false true p q = rw (p, q) (frame_sent-told s now s.fifo refl)
sent-told_by s now false false p q = rw (p, q) refl

pub sent-told : (s : UartState) (now : ℕ) → told (sent s now) ≡ s.fifo
sent-told s now = sent-told_by s now _ _ refl refl

set-bytes_by : (s : UartState) (reg word : ℕ) (a b : Bool) → eqb reg 0 ≡ a → eqb reg 4 ≡ b → length s.fifo + data_in (Some (Set reg word)) ≤ 16
    → (set_in s reg word).fifo ≡ s.fifo ++ bytes_in (Some (Set reg word))
set-bytes_by s reg word true b p q h = rw (p, not_four reg p) (sym (append-nil s.fifo))
set-bytes_by s reg word false true p q h =
    let room : length s.fifo + 1 ≤ 16 = subst (λ b. length s.fifo + cond b 1 0 ≤ 16) q h in
    rw (p, q) (rw (is_less (length s.fifo) 16 (omega arith)) refl)
set-bytes_by s reg word false false p q h = rw (p, q) (sym (append-nil s.fifo))

pub set-bytes : (s : UartState) (reg word : ℕ) → length s.fifo + data_in (Some (Set reg word)) ≤ 16
    → (set_in s reg word).fifo ≡ s.fifo ++ bytes_in (Some (Set reg word))
set-bytes s reg word h = set-bytes_by s reg word _ _ refl refl h

pub keeps_order : (s : UartState) (now : ℕ) (down : Option Down) → KeepsOrder s down (uart_cycle s now down).unit (uart_cycle s now down).event
unfolding uart_cycle
keeps_order s now None = record {
  bytes = λ r h. append-nil s.fifo ∙ sym (begun-fifo s) ∙ sym (sent-told (begun s) now);
  after_reset = λ r. absurd (omega arith);
}
keeps_order s now (Some Reset) = record {
  bytes = λ r h. absurd (omega arith);
  after_reset = λ r. refl;
}
keeps_order s now (Some (Set reg word)) = record {
  bytes = λ r h. sym (set-bytes s reg word h) ∙ sym (begun-fifo (set_in s reg word)) ∙ sym (sent-told (begun (set_in s reg word)) now);
  after_reset = λ r. absurd (omega arith);
}

-- the same, where the unit after the cycle and its event are known by equations
pub order_kept : (s : UartState) (now : ℕ) (down : Option Down) (new : UartState) (event : Option Event)
    → new ≡ (uart_cycle s now down).unit → event ≡ (uart_cycle s now down).event → KeepsOrder s down new event
order_kept s now down new event e v = rw (e, v) (keeps_order s now down)
