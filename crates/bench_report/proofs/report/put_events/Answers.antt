use Rattle.trace_text.specs.Lines.{event_text}
use Rattle.bench_report.proofs.Events.{each_exit}
use Rattle.bench_report.proofs.report.put_events.Goals as goal

pub returns-in_err-event_line : goal.returns-in_err-event_line
returns-in_err-event_line g c =
    each_exit event_text c.args.events.now c.loop-event.event-index _ c.from_residual.result c.loop-event-test.true c.loop-event.invariant
    c.in_err-event_line.ensures c.from_residual.ensures.1
