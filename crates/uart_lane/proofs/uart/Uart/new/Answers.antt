use Rattle.uart_lane.proofs.Heard.{hears_enough}
use Rattle.uart_lane.proofs.Hearing.{hears_all}
use Rattle.uart_lane.proofs.uart.Uart.new.Goals as goal

pub returns-clause-texts : goal.returns-clause-texts
returns-clause-texts c = hears_enough

pub returns-clause-hears : goal.returns-clause-hears
returns-clause-hears c = hears_all _ _ _
