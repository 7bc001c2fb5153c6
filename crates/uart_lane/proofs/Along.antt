-- What the receiver does in a cycle of the unit.
use Rattle.std.proofs.Common.{◌≡◌, ℕ, ◌*◌, Bool, true, false, eqb, List, [], ◌∷◌, Option, None, Some, refl, ap, ◌∙◌, arith}
use Rattle.std.specs.Prelude.{option_to_list}
use Rattle.chip_base.specs.declared.message.Down.{Down}
use Rattle.chip_base.specs.declared.message.Down.TheVariants.{Reset, Set}
use Rattle.chip_base.specs.Given.{Given}
use Rattle.chip_base.specs.Messages.{reset_in}
use Rattle.uart_lane.specs.Cycle.{begun, frame_of, frame_sent, heard_by, may_begin, received, sent, set_in, uart_cycle}
use Rattle.uart_lane.specs.Receiving.{receive}
use Rattle.uart_lane.specs.Script.{byte_up}
use Rattle.uart_lane.specs.State.{UartState}
use Rattle.uart_lane.proofs.Received.{LeavesReceiver, byte_beside, set_receiver, transmitter_leaves}

-- the receiver's part of a cycle
pub record Receives (s : UartState) (now : ℕ) (enabled : Bool) (frame : ℕ) (g : Given UartState) : Type 0 where
  pub receiver : g.unit.receiver ≡ (receive s.receiver now g.event enabled frame).receiver
  pub up : byte_up g.up ≡ option_to_list (receive s.receiver now g.event enabled frame).byte

received_receives : (s : UartState) (g : Given UartState) (now : ℕ) (enabled : Bool) (frame : ℕ) → LeavesReceiver s g → g.unit.enabled ≡ enabled → frame_of g.unit ≡ frame
    → Receives s now enabled frame (received g now)
received_receives s g now enabled frame l p q = record {
  receiver = ap (λ r. (receive r now g.event g.unit.enabled (frame_of g.unit)).receiver) l.receiver
      ∙ ap (λ e. (receive s.receiver now g.event e (frame_of g.unit)).receiver) p
      ∙ ap (λ f. (receive s.receiver now g.event enabled f).receiver) q;
  up = byte_beside g.up (heard_by g now).byte l.up
      ∙ ap (λ r. option_to_list (receive r now g.event g.unit.enabled (frame_of g.unit)).byte) l.receiver
      ∙ ap (λ e. option_to_list (receive s.receiver now g.event e (frame_of g.unit)).byte) p
      ∙ ap (λ f. option_to_list (receive s.receiver now g.event enabled f).byte) q;
}

-- without a Reset, the receiver does what it does alone
pub unit_receives : (s : UartState) (now : ℕ) (down : Option Down) → reset_in down ≡ 0
    → (enabled : Bool) × (frame : ℕ) × Receives s now enabled frame (uart_cycle s now down)
unfolding uart_cycle
unit_receives s now None h = (_, _, received_receives s (sent (begun s) now) now _ _ (transmitter_leaves s now) refl refl)
unit_receives s now (Some Reset) h = absurd (omega (arith, h))
unit_receives s now (Some (Set reg word)) h =
    let l : LeavesReceiver (set_in s reg word) (sent (begun (set_in s reg word)) now) = transmitter_leaves (set_in s reg word) now in
    let m : LeavesReceiver s (sent (begun (set_in s reg word)) now) =
    record { receiver = l.receiver ∙ set_receiver s reg word _ _ refl refl; up = l.up } in
    (_, _, received_receives s (sent (begun (set_in s reg word)) now) now _ _ m refl refl)

-- the transmitter keeps the settings

record SameSettings (s : UartState) (g : UartState) : Type 0 where
  enabled : g.enabled ≡ s.enabled
  bit : g.bit ≡ s.bit

last_settings : (s : UartState) (now : ℕ) (fifo : List ℕ) → SameSettings s (frame_sent s now fifo).unit
last_settings s now [] = record { enabled = refl; bit = refl }
last_settings s now (b ∷ rest) = record { enabled = refl; bit = refl }

sent_settings : (s : UartState) (now : ℕ) (a b : Bool) → eqb s.left 0 ≡ a → eqb s.left 1 ≡ b → SameSettings s (sent s now).unit
sent_settings s now true b p q = rw p record { enabled = refl; bit = refl }
sent_settings s now false true p q = rw (p, q) (last_settings s now s.fifo)
sent_settings s now false false p q = rw (p, q) record { enabled = refl; bit = refl }

begun_settings : (s : UartState) (a : Bool) → may_begin s ≡ a → SameSettings s (begun s)
begun_settings s true h = rw h record { enabled = refl; bit = refl }
begun_settings s false h = rw h record { enabled = refl; bit = refl }

-- without a message, by the settings before the cycle
pub unit_receives_so : (s : UartState) (now : ℕ) → Receives s now s.enabled (frame_of s) (uart_cycle s now None)
unfolding uart_cycle
unit_receives_so s now =
    let a : SameSettings s (begun s) = begun_settings s _ refl in
    let b : SameSettings (begun s) (sent (begun s) now).unit = sent_settings (begun s) now _ _ refl refl in
    received_receives s (sent (begun s) now) now s.enabled (frame_of s) (transmitter_leaves s now) (b.enabled ∙ a.enabled) (ap (λ n. 10 * n) (b.bit ∙ a.bit))
