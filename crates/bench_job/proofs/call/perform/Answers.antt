use Rattle.bench_plan.proofs.Keeping.{keeps_done, keeps_stopped}
use Rattle.bench_job.proofs.call.perform.Goals as goal

pub returns-in-Ok : goal.returns-in-Ok
returns-in-Ok g c =
    let decided = rw c.deref.ensures.value at c.in-Ok.ensures in
    keeps_done _ (g.S.Shelf.held c.args.shelf.now) _ _ (decided _) c.tell.ensures

pub returns-in-Err : goal.returns-in-Err
returns-in-Err g c =
    let decided = rw c.deref.ensures.value at c.in-Err.ensures in
    keeps_stopped _ (g.S.Shelf.held c.args.shelf.now) (g.S.Shelf.held c.decide.new.shelf) _ _ _ _ _ c.in-Err.stop (decided _) c.stopped.ensures
