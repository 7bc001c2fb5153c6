use Rattle.std.proofs.Common.{◌≡◌, false, take}
use Rattle.std.specs.List.{list_any}
use Rattle.chip_whole.specs.Chip.{is_image}
use Rattle.chip_net.proofs.units.sends_image.Given as goal

abbrev pub invariant-loop-step : goal.invariant-loop-step
invariant-loop-step l = list_any is_image (take l.step-index l.steps) ≡ false
