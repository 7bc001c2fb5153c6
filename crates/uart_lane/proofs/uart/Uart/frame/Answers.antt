use Rattle.std.proofs.Common.{◌*◌, ◌<◌, ap, subst}
use Rattle.uart_lane.proofs.Frames.{leaves_in_time}
use Rattle.uart_lane.proofs.Receipt.{receives_in_time}
use Rattle.uart_lane.proofs.uart.Uart.frame.Goals as goal

pub returns-clause-in_time : goal.returns-clause-in_time
returns-clause-in_time c =
    leaves_in_time c.args.self.now _ (ap (λ s. 10 * s.bit) c.self.view_is)
    (subst (λ s. 0 < s.bit) c.self.view_is c.self.invariant.0)

pub returns-clause-receives : goal.returns-clause-receives
returns-clause-receives c =
    receives_in_time c.args.self.now _ (ap (λ s. 10 * s.bit) c.self.view_is)
    (subst (λ s. 0 < s.bit) c.self.view_is c.self.invariant.0)
