use Rattle.std.proofs.Common.{arith}
use Rattle.std.proofs.lemmas.Grind.{common_steps}
use Rattle.std.proofs.Common.{◌∙◌, ap, min, ◌-◌}
use Rattle.std.specs.Int.{bit_at}
use Rattle.unit_fronts.proofs.Rises.{cleared_pin}
use Rattle.unit_fronts.proofs.gpio_front.GpioFront.store.Goals as goal

pub returns-in-12-clause-cleared : goal.returns-in-12-clause-cleared
returns-in-12-clause-cleared c is_open is_pending pin within =
    cleared_pin c.self.inside.pending c.args.word pin (grind (arith, common_steps)) within
    ∙ ap (λ s. min (bit_at s.pending pin) (1 - bit_at c.args.word pin)) c.self.view_is
