use Rattle.unit_fronts.proofs.ClosedFront.{watchdog_awaits}
use Rattle.unit_fronts.proofs.wdt_front.WdtFront.close.Goals as goal

pub returns-clause-answers : goal.returns-clause-answers
returns-clause-answers c = watchdog_awaits c.close.new.self
