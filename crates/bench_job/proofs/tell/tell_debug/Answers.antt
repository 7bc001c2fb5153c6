use Rattle.bench_job.proofs.tell.tell_debug.Goals as goal

pub returns : goal.returns
returns g c = c.said.ensures _ _ _ _ _ c.debug_run.ensures
