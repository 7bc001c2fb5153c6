-- One cycle of the unit of the general-purpose pins: a definition.
use Rattle.std.specs.Prelude.{◌==◌, ℕ, ◌^◌, nat_lt, List, [], ◌∷◌, Option, None, Some, if◌then◌else◌, bit_and, bit_or}
use Rattle.std.specs.Int.{w32, bit_not}
use Rattle.chip_base.specs.UnitTable.{unit_row}
use Rattle.chip_base.specs.declared.chip_unit.ChipUnit.TheVariants.{Gpio}
use Rattle.chip_base.specs.Given.{Given}
use Rattle.chip_base.specs.declared.message.Down.{Down}
use Rattle.chip_base.specs.declared.message.Down.TheVariants.{Reset, Set}
use Rattle.chip_base.specs.declared.message.Up.{Up}
use Rattle.chip_base.specs.declared.script.PinStep.{PinStep}
use Rattle.board_units.specs.GpioState.{GpioState}
use Rattle.board_units.specs.Messages.{change_event, done_with, word_up}

-- the inputs after one pin change
abbrev pub with_level : ℕ → PinStep → ℕ
with_level inputs p = if p.level then bit_or inputs (2 ^ p.pin) else bit_and inputs (bit_not w32 (2 ^ p.pin))

-- the inputs after the pin changes of a cycle, in their order; those of earlier cycles are passed over, and the list's rest is of later ones
abbrev pub inputs_after : ℕ → List PinStep → ℕ → ℕ
inputs_after now [] inputs = inputs
inputs_after now (p ∷ rest) inputs =
    if nat_lt now p.cycle then inputs else inputs_after now rest (if p.cycle == now then with_level inputs p else inputs)

-- the pin changes of later cycles
abbrev pub still_to_come : ℕ → List PinStep → List PinStep
still_to_come now [] = []
still_to_come now (p ∷ rest) = if nat_lt now p.cycle then p ∷ rest else still_to_come now rest

-- after the script's pin changes of a cycle
abbrev pub moved : GpioState → ℕ → GpioState
moved s now = record s { pins = still_to_come now s.pins; inputs = inputs_after now s.pins s.inputs }

-- the outputs after a message: a Reset makes them low, and the register at 4 gives them
abbrev pub outputs_after : ℕ → Option Down → ℕ
outputs_after outputs None = outputs
outputs_after outputs (Some Reset) = 0
outputs_after outputs (Some (Set reg word)) = if reg == 4 then word else outputs

-- what goes up: the inputs where they changed, and always with the answer to a Reset
abbrev pub input_up : ℕ → ℕ → Option Down → Option Up
input_up before after None = if before == after then None else Some (word_up after)
input_up before after (Some Reset) = Some (done_with after)
input_up before after (Some (Set reg word)) = if before == after then None else Some (word_up after)

-- one cycle: the message gives the outputs, and the script's pins of this cycle change the inputs, also with a Reset
unfoldable pub gpio_cycle : GpioState → ℕ → Option Down → Given GpioState
gpio_cycle s now down = record {
  unit = record (moved s now) { outputs = outputs_after s.outputs down };
  up = input_up s.inputs (moved s now).inputs down;
  event = change_event now (unit_row Gpio).number s.outputs (outputs_after s.outputs down);
}
