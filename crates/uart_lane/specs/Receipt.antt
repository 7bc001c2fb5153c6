-- When a byte of the script is received, over many cycles: a law over definitions.
use Rattle.std.specs.Prelude.{◌≡◌, ℕ, ◌+◌, ◌-◌, ◌<◌, true, List, [], ◌∷◌, slice_get, Option, None, Some}
use Rattle.chip_base.specs.Messages.{reset_in}
use Rattle.chip_base.specs.Runs.{given_after}
use Rattle.chip_base.specs.declared.message.Down.{Down}
use Rattle.uart_lane.specs.Cycle.{uart_cycle}
use Rattle.uart_lane.specs.Receiving.{current, step_bytes}
use Rattle.uart_lane.specs.Script.{byte_up}
use Rattle.uart_lane.specs.State.{UartState}

-- the byte that goes up in the cycle t + k, if one does, where the unit is `s` before the cycle t
abbrev pub received_in : UartState → ℕ → (ℕ → Option Down) → ℕ → List ℕ
received_in s t downs k = byte_up (given_after uart_cycle s t downs k).up

-- the unit is enabled and no frame of its receiver runs, and this is the next byte of the current step
pub record HasNext (s : UartState) (byte : ℕ) : Type 0 where
  pub enabled : s.enabled ≡ true
  pub no_frame : s.receiver.left ≡ 0
  pub next : slice_get (step_bytes s.receiver.image (current s.receiver)) s.receiver.begun_bytes ≡ Some byte

-- no message comes in the cycle t, in which the frame begins, and no Reset while it runs
pub record LetsReceive (frame t : ℕ) (downs : ℕ → Option Down) : Type 0 where
  pub first : downs t ≡ None
  pub no_reset : (k : ℕ) → k < frame → reset_in (downs (t + k)) ≡ 0

-- the byte goes up in the cycle t + frame - 1, and none before
pub record ComesInTime (s : UartState) (frame t byte : ℕ) (downs : ℕ → Option Down) : Type 0 where
  pub before : (k : ℕ) → k + 1 < frame → received_in s t downs k ≡ []
  pub at : received_in s t downs (frame - 1) ≡ byte ∷ []

-- a frame that begins is as long as the control word says then, also where another one comes while it runs
abbrev pub ReceivesInTime : UartState → ℕ → Type 0
ReceivesInTime s frame =
    (byte : ℕ) → HasNext s byte → (t : ℕ) (downs : ℕ → Option Down) → LetsReceive frame t downs → ComesInTime s frame t byte downs
