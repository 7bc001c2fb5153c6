use Rattle.std.proofs.Common.{◌≡◌, ◌+◌, ◌∙◌}
use Rattle.chip_whole.proofs.Runs.{cycle_after}
use Rattle.bench_debug.specs.Session.{first_stop}
use Rattle.bench_debug.proofs.session.put_cont.Goals as goal

pub returns-in-Ok-clause-text : goal.returns-in-Ok-clause-text
returns-in-Ok-clause-text g c board s n h =
    let cycle : c.now.result ≡ s.cycle + (first_stop board s c.args.bound c.args.earlier.now n).cycles
    = c.now.ensures.state board _ (c.in-Ok.ensures.state board s n h) ∙ cycle_after board s (first_stop board s c.args.bound c.args.earlier.now n).cycles in
    rw (c.stop_line.ensures, cycle, ← c.in-Ok.ensures.stop board s n h) at c.put_line.ensures
