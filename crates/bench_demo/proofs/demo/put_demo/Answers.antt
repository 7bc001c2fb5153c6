use Rattle.std.proofs.Common.{arith}
use Rattle.bench_shelf.proofs.Writing.{writes_nothing}
use Rattle.chip_base.specs.Settings.{values_of}
use Rattle.chip_base.specs.declared.boot.Boot.TheVariants.{Monitor}
use Rattle.chip_whole.proofs.Runs.{start_events}
use Rattle.bench_demo.specs.Demo.{bare_board}
use Rattle.bench_demo.proofs.Shown.{shown_from}
use Rattle.bench_demo.proofs.demo.put_demo.Goals as goal

pub returns-in_default-demo_script : goal.returns-in_default-demo_script
returns-in_default-demo_script g c = writes_nothing (g.O.Sink.written c.args.out.now) (g.O.Sink.faults c.args.out.now) _

pub returns-in-Ok-new : goal.returns-in-Ok-new
returns-in-Ok-new g c =
    shown_from c.args.number c.len-size.result (values_of c.demo_settings-setup.result) c.in-Ok.image.items c.in-Ok-demo_script.script
    c.demo_settings-setup.ensures c.in-Ok.ensures c.in-Ok-demo_script.ensures (omega (arith, c.len-size.ensures, c.in-Ok.image.ok))
    (c.put_shown.ensures bare_board _ c.in-Ok-new.ensures.chip
    (start_events (values_of c.demo_settings-setup.result) Monitor c.in-Ok.image.items c.in-Ok-demo_script.script))

pub returns-in-Err : goal.returns-in-Err
returns-in-Err g c = writes_nothing (g.O.Sink.written c.args.out.now) (g.O.Sink.faults c.args.out.now) _
