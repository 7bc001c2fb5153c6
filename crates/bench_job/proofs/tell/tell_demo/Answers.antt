use Rattle.bench_job.proofs.tell.tell_demo.Goals as goal

pub returns : goal.returns
returns g c = c.said.ensures _ _ _ _ _ c.put_demo.ensures
