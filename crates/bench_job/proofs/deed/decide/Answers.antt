use Rattle.bench_job.proofs.deed.decide.Goals as goal

pub returns-in-Ok-Some : goal.returns-in-Ok-Some
returns-in-Ok-Some g c = λ handed. let same = rw c.in-Ok-Some.field-0-is at c.in-Ok-Some.ensures in rw (← same) (c.decide_job.ensures handed)
