use Rattle.std.proofs.Common.{◌≡◌, ℕ}
use Rattle.soc_bus.specs.declared.access.Request.{Request}
use Rattle.boot_monitor.specs.Standing.{IsDue}
use Rattle.boot_monitor.specs.declared.exchange.MonitorIn.TheVariants.{Word}
use Rattle.boot_monitor.specs.declared.exchange.MonitorOut.TheVariants.{Bus}
use Rattle.crate_tests.proofs.monitor.act_on.Given as goal

-- what was asked is to be answered
abbrev pub invariant-replies : goal.invariant-replies
invariant-replies l = (request : Request) (word : ℕ) → l.asked ≡ Bus request → IsDue l.monitor (Word word)
