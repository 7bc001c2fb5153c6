use Rattle.unit_fronts.proofs.ClosedFront.{gpio_awaits}
use Rattle.unit_fronts.proofs.gpio_front.GpioFront.close.Goals as goal

pub returns-clause-answers : goal.returns-clause-answers
returns-clause-answers c = gpio_awaits c.close.new.self
