use Rattle.board_units.proofs.Fires.{fires_once_until_reset}
use Rattle.board_units.proofs.Timeout.{keeps_time}
use Rattle.board_units.proofs.watchdog.Watchdog.new.Goals as goal

pub returns-clause-time : goal.returns-clause-time
returns-clause-time c = keeps_time

pub returns-clause-once : goal.returns-clause-once
returns-clause-once c = fires_once_until_reset
