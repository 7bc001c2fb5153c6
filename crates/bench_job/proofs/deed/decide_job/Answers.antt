use Rattle.bench_job.proofs.deed.decide_job.Goals as goal

pub returns-in-Run : goal.returns-in-Run
returns-in-Run g c = λ handed. rw c.in-Run.is (c.decide_run.ensures handed)

pub returns-in-Debug : goal.returns-in-Debug
returns-in-Debug g c = λ handed. rw c.in-Debug.is (c.decide_debug.ensures handed)

pub returns-in-Image : goal.returns-in-Image
returns-in-Image g c = λ handed. rw c.in-Image.is (c.decide_image.ensures handed)

pub returns-in-Check : goal.returns-in-Check
returns-in-Check g c = λ handed. rw c.in-Check.is (c.decide_check.ensures handed)
