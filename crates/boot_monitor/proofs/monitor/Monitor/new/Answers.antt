use Rattle.std.proofs.Common.{refl}
use Rattle.boot_monitor.specs.Standing.{Stands}
use Rattle.boot_monitor.proofs.monitor.Monitor.new.Goals as goal

pub returns-clause-stands : goal.returns-clause-stands
unfolding Stands
returns-clause-stands c = (refl, refl, refl)
