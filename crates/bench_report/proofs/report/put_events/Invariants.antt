use Rattle.std.proofs.Common.{Ok, take}
use Rattle.bench_shelf.specs.Sink.{Appending}
use Rattle.bench_report.specs.Report.{events_text}
use Rattle.bench_report.proofs.report.put_events.Given as goal

abbrev pub invariant-loop-event : goal.invariant-loop-event
invariant-loop-event g l =
    Appending (g.O.Sink.written l.initial.out) (g.O.Sink.written l.out) (g.O.Sink.faults l.initial.out) (g.O.Sink.faults l.out)
    (events_text (take l.event-index l.events)) (Ok (tt {0}))
