use Rattle.std.proofs.Common.{arith}
use Rattle.std.proofs.lemmas.Grind.{common_steps}
use Rattle.board_units.specs.WatchdogCycle.{watchdog_cycle}
use Rattle.board_units.proofs.Fires.{fires_once, rests_disabled}
use Rattle.board_units.proofs.watchdog.Watchdog.cycle.Goals as goal

pub returns-in_default-clause-unit : goal.returns-in_default-clause-unit
unfolding watchdog_cycle
returns-in_default-clause-unit c = grind (arith, common_steps)

pub returns-in_default-clause-up : goal.returns-in_default-clause-up
unfolding watchdog_cycle
returns-in_default-clause-up c = grind (arith, common_steps)

pub returns-in_default-clause-event : goal.returns-in_default-clause-event
unfolding watchdog_cycle
returns-in_default-clause-event c = grind (arith, common_steps)

pub returns-in_default-clause-once : goal.returns-in_default-clause-once
returns-in_default-clause-once c = fires_once c.args.now c.args.self.now c.args.down _ _ _ (returns-in_default-clause-unit c) (returns-in_default-clause-up c) (returns-in_default-clause-event c)

pub returns-in_default-clause-rests : goal.returns-in_default-clause-rests
returns-in_default-clause-rests c = rests_disabled _

pub returns-in-Some-Set-clause-unit : goal.returns-in-Some-Set-clause-unit
unfolding watchdog_cycle
returns-in-Some-Set-clause-unit c = grind (arith, common_steps)

pub returns-in-Some-Set-clause-up : goal.returns-in-Some-Set-clause-up
unfolding watchdog_cycle
returns-in-Some-Set-clause-up c = grind (arith, common_steps)

pub returns-in-Some-Set-clause-event : goal.returns-in-Some-Set-clause-event
unfolding watchdog_cycle
returns-in-Some-Set-clause-event c = grind (arith, common_steps)

pub returns-in-Some-Set-clause-once : goal.returns-in-Some-Set-clause-once
returns-in-Some-Set-clause-once c = fires_once c.args.now c.args.self.now c.args.down _ _ _ (returns-in-Some-Set-clause-unit c) (returns-in-Some-Set-clause-up c) (returns-in-Some-Set-clause-event c)

pub returns-in-Some-Set-clause-rests : goal.returns-in-Some-Set-clause-rests
returns-in-Some-Set-clause-rests c = rests_disabled _

pub returns-in-None-clause-unit : goal.returns-in-None-clause-unit
unfolding watchdog_cycle
returns-in-None-clause-unit c = grind (arith, common_steps)

pub returns-in-None-clause-up : goal.returns-in-None-clause-up
unfolding watchdog_cycle
returns-in-None-clause-up c = grind (arith, common_steps)

pub returns-in-None-clause-event : goal.returns-in-None-clause-event
unfolding watchdog_cycle
returns-in-None-clause-event c = grind (arith, common_steps)

pub returns-in-None-clause-once : goal.returns-in-None-clause-once
returns-in-None-clause-once c = fires_once c.args.now c.args.self.now c.args.down _ _ _ (returns-in-None-clause-unit c) (returns-in-None-clause-up c) (returns-in-None-clause-event c)

pub returns-in-None-clause-rests : goal.returns-in-None-clause-rests
returns-in-None-clause-rests c = rests_disabled _

pub returns-in-Some-Reset-clause-unit : goal.returns-in-Some-Reset-clause-unit
unfolding watchdog_cycle
returns-in-Some-Reset-clause-unit c = grind (arith, common_steps)

pub returns-in-Some-Reset-clause-up : goal.returns-in-Some-Reset-clause-up
unfolding watchdog_cycle
returns-in-Some-Reset-clause-up c = grind (arith, common_steps)

pub returns-in-Some-Reset-clause-event : goal.returns-in-Some-Reset-clause-event
unfolding watchdog_cycle
returns-in-Some-Reset-clause-event c = grind (arith, common_steps)

pub returns-in-Some-Reset-clause-once : goal.returns-in-Some-Reset-clause-once
returns-in-Some-Reset-clause-once c = fires_once c.args.now c.args.self.now c.args.down _ _ _ (returns-in-Some-Reset-clause-unit c) (returns-in-Some-Reset-clause-up c) (returns-in-Some-Reset-clause-event c)

pub returns-in-Some-Reset-clause-rests : goal.returns-in-Some-Reset-clause-rests
returns-in-Some-Reset-clause-rests c = rests_disabled _
