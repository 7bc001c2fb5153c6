use Rattle.std.proofs.Common.{ap, arith}
use Rattle.std.proofs.lemmas.Grind.{common_steps}
use Rattle.unit_fronts.specs.WdtFront.{WatchdogRegisters, watchdog_kept}
use Rattle.unit_fronts.proofs.LoadsAfterStore.{control_of_watchdog, stores_watchdog}
use Rattle.unit_fronts.proofs.wdt_front.WdtFront.store.Goals as goal

pub returns-in-0-clause-words : goal.returns-in-0-clause-words
returns-in-0-clause-words c is_open = stores_watchdog c.args.self.now c.args.reg c.args.word _
    (control_of_watchdog c.args.self.now c.args.reg c.args.word _ is_open c.in-0.is (ap {A = WatchdogRegisters} {B = WatchdogRegisters} (λ s. record s { control = watchdog_kept c.args.word }) c.self.view_is))
    (grind (arith, common_steps)) is_open
