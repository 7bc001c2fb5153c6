-- What a UART unit hears of its own bytes, over a whole run: a law over definitions.
use Rattle.std.specs.Prelude.{◌≡◌, ◌==◌, ◌&&◌, ℕ, zero, suc, true, eqb, List, [], ◌++◌, length, drop, Option, Some, if◌then◌else◌}
use Rattle.std.specs.List.{ends_with, list_all}
use Rattle.chip_base.specs.Messages.{reset_in}
use Rattle.chip_base.specs.Runs.{given_after, unit_after}
use Rattle.chip_base.specs.Steps.{is_step}
use Rattle.chip_base.specs.declared.message.Down.{Down}
use Rattle.chip_base.specs.declared.script.UartStep.{UartStep}
use Rattle.chip_base.specs.declared.script.UartStep.TheVariants.{Expect}
use Rattle.uart_lane.specs.Counts.{bytes_out}
use Rattle.uart_lane.specs.Cycle.{uart_cycle}
use Rattle.uart_lane.specs.Receiving.{current, last_64}
use Rattle.uart_lane.specs.State.{UartState}

-- A run is one from the unit `s` before the cycle 0, with these messages in the cycles.

-- the steps that didn't pass before a cycle
abbrev pub steps_before : UartState → (ℕ → Option Down) → ℕ → List UartStep
steps_before s downs now = (unit_after uart_cycle s 0 downs now).receiver.steps

-- the byte that leaves in a cycle, if one does
abbrev pub sent_in : UartState → (ℕ → Option Down) → ℕ → List ℕ
sent_in s downs now = bytes_out (given_after uart_cycle s 0 downs now).event

-- all bytes that left before a cycle, in cycles after the one in which the step before the current one passed; with each step that
-- passes fewer are left
unfoldable pub sent_since : UartState → (ℕ → Option Down) → ℕ → List ℕ
sent_since s downs zero = []
sent_since s downs (suc now) =
    if length (steps_before s downs (suc now)) == length (steps_before s downs now) then sent_since s downs now ++ sent_in s downs now else []

-- what a unit hears in a run
pub record HearsItself (s : UartState) (downs : ℕ → Option Down) (now : ℕ) : Type 0 where
  -- it keeps the last 64 of all bytes that it sent since the current step became the current one
  pub kept : (unit_after uart_cycle s 0 downs now).receiver.heard ≡ last_64 (sent_since s downs now)
  -- an expect step passes exactly in a cycle, other than one with a Reset, with which all those bytes end with its text
  pub expected : (text : List ℕ) → current (unit_after uart_cycle s 0 downs now).receiver ≡ Some (Expect text)
      → steps_before s downs (suc now)
      ≡ (if (reset_in (downs now) == 0) && ends_with eqb (sent_since s downs now ++ sent_in s downs now) text then drop 1 (steps_before s downs now)
      else steps_before s downs now)

-- from power-on, with a valid script and whatever messages
unfoldable pub HearsAll : UartState → Type 0
HearsAll s = list_all is_step s.receiver.steps ≡ true → (downs : ℕ → Option Down) (now : ℕ) → HearsItself s downs now
