use Rattle.std.proofs.Common.{◌∙◌, sym, ap}
use Rattle.boot_monitor.proofs.Judging.{payload-ahead}
use Rattle.boot_monitor.specs.Actions.{Uart, payload_from}
use Rattle.boot_monitor.specs.Phases.{from_of}
use Rattle.boot_monitor.proofs.errands.beginning_payload.Goals as goal

pub returns-in-Uart-clause-same : goal.returns-in-Uart-clause-same
returns-in-Uart-clause-same c = λ ctrl room count size h. payload-ahead Uart room count size h ∙ ap (λ s. payload_from (from_of s) size) (sym c.in-Uart.is)
