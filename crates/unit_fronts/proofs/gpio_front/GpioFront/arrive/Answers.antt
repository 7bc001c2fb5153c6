use Rattle.std.proofs.Common.{arith, subst, ◌<◌, ◌^◌}
use Rattle.std.proofs.lemmas.Grind.{common_steps}
use Rattle.unit_fronts.proofs.Rises.{marks_heard}
use Rattle.unit_fronts.proofs.gpio_front.GpioFront.arrive.Goals as goal

pub returns-then-not-up-clause-rises : goal.returns-then-not-up-clause-rises
returns-then-not-up-clause-rises c =
    marks_heard c.args.self.now c.args.up c.hear.new.self (grind (arith, common_steps)) (grind (arith, common_steps)) (grind (arith, common_steps)) (grind (arith, common_steps))
    (subst (λ s. s.inputs < 2 ^ 32) c.self.view_is c.self.invariant)
