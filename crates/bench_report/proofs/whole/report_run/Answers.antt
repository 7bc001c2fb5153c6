use Rattle.bench_shelf.proofs.Writing.{writes_nothing}
use Rattle.chip_base.specs.Settings.{values_of}
use Rattle.chip_whole.specs.Chip.{start}
use Rattle.chip_whole.proofs.Runs.{start_events}
use Rattle.bench_report.proofs.whole.report_run.Goals as goal

pub returns-in-Ok : goal.returns-in-Ok
returns-in-Ok g c =
    c.report_chip.ensures _ (start (values_of c.args.setup.now) c.args.boot c.args.image.items c.args.script) c.in-Ok.ensures.chip
    (start_events (values_of c.args.setup.now) c.args.boot c.args.image.items c.args.script)

pub returns-in-Err : goal.returns-in-Err
returns-in-Err g c = writes_nothing (g.O.Sink.written c.args.out.now) (g.O.Sink.faults c.args.out.now) _
