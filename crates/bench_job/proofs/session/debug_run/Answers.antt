use Rattle.bench_shelf.proofs.Writing.{writes_nothing}
use Rattle.chip_base.specs.Settings.{values_of}
use Rattle.chip_whole.specs.Chip.{start}
use Rattle.bench_job.proofs.session.debug_run.Goals as goal

pub returns-in-Ok : goal.returns-in-Ok
returns-in-Ok g c =
    c.debug.ensures.text _ (start (values_of c.args.power_on.setup) c.args.power_on.boot c.args.power_on.image.items c.args.power_on.script) c.in-Ok.ensures.chip

pub returns-in-Err : goal.returns-in-Err
returns-in-Err g c = writes_nothing (g.O.Sink.written c.args.out.now) (g.O.Sink.faults c.args.out.now) _
