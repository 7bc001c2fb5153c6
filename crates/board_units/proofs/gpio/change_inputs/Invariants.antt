use Rattle.std.proofs.Common.{◌≡◌, true, drop}
use Rattle.std.specs.List.{list_all}
use Rattle.chip_base.specs.Steps.{is_pin}
use Rattle.board_units.specs.GpioCycle.{inputs_after, still_to_come}
use Rattle.board_units.proofs.gpio.change_inputs.Given as goal

abbrev pub invariant-loop-step : goal.invariant-loop-step
invariant-loop-step l =
    (l.count ≡ l.step-index)
    × (still_to_come l.now (drop l.step-index l.steps) ≡ still_to_come l.now l.steps)
    × (inputs_after l.now (drop l.step-index l.steps) l.levels ≡ inputs_after l.now l.steps l.fn.inputs)
    × (list_all is_pin (drop l.step-index l.steps) ≡ true)
