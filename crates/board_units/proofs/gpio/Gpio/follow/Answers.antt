use Rattle.std.proofs.Common.{◌≡◌, true, sym, subst}
use Rattle.chip_base.specs.Steps.{are_pins}
use Rattle.board_units.proofs.Pins.{part_is_pins}
use Rattle.board_units.proofs.gpio.Gpio.follow.Goals as goal

pub change_inputs-count-requires : goal.change_inputs-count-requires
change_inputs-count-requires c = record {
  pins = part_is_pins _ _ c.as_slice-steps.result.now
      (subst (λ ps. are_pins ps ≡ true) (sym c.as_slice-steps.ensures.value) c.as_slice-steps.ensures.valid);
}
