-- When a byte leaves a UART unit, over many cycles: a law over definitions.
use Rattle.std.specs.Prelude.{◌≡◌, ℕ, suc, ◌+◌, ◌-◌, ◌<◌, ◌%◌, true, [], Option, None, Some}
use Rattle.chip_base.specs.Runs.{given_after}
use Rattle.chip_base.specs.declared.event.EventKind.TheVariants.{Tx}
use Rattle.chip_base.specs.declared.message.Down.{Down}
use Rattle.chip_base.specs.declared.message.Down.TheVariants.{Set}
use Rattle.uart_lane.specs.Cycle.{uart_cycle}
use Rattle.uart_lane.specs.State.{UartState}

-- the unit is enabled, and has nothing to send; what it receives doesn't matter
pub record IsIdle (s : UartState) : Type 0 where
  pub enabled : s.enabled ≡ true
  pub no_byte : s.fifo ≡ []
  pub no_frame : s.left ≡ 0

-- a byte comes in the cycle t, and no message in the rest of its frame
pub record BringsByte (frame t word : ℕ) (downs : ℕ → Option Down) : Type 0 where
  pub first : downs t ≡ Some (Set 4 word)
  pub none_later : (k : ℕ) → k + 1 < frame → downs (t + suc k) ≡ None

-- a byte that comes in the cycle t leaves in the cycle t + frame - 1, and nothing leaves before
pub record LeavesInTime (s : UartState) (frame t word : ℕ) (downs : ℕ → Option Down) : Type 0 where
  pub before : (k : ℕ) → k + 1 < frame → (given_after uart_cycle s t downs k).event ≡ None
  pub at : (given_after uart_cycle s t downs (frame - 1)).event
      ≡ Some (record { cycle = t + (frame - 1); unit = s.number; kind = Tx; value = word % 256 })

-- over ten bits, in whatever cycle an idle unit is given a byte
abbrev pub SendsInTime : UartState → ℕ → Type 0
SendsInTime s frame = IsIdle s → (t word : ℕ) (downs : ℕ → Option Down) → BringsByte frame t word downs → LeavesInTime s frame t word downs
