use Rattle.unit_fronts.proofs.ClosedFront.{pwm_awaits}
use Rattle.unit_fronts.proofs.pwm_front.PwmFront.close.Goals as goal

pub returns-clause-answers : goal.returns-clause-answers
returns-clause-answers c = pwm_awaits c.close.new.self
