use Rattle.bench_job.proofs.tell.tell.Goals as goal

pub returns-in-Line : goal.returns-in-Line
returns-in-Line g c = rw c.in-Line.is (c.said.ensures _ _ _ _ _ (rw c.as_slice.ensures.text at c.put.ensures) _)

pub returns-in-Report : goal.returns-in-Report
returns-in-Report g c = rw (c.in-Report.is, ← c.attach-part.ensures) (c.tell_run.ensures _)

pub returns-in-Debug : goal.returns-in-Debug
returns-in-Debug g c = rw (c.in-Debug.is, ← c.attach-part-in-Debug.ensures) (c.tell_debug.ensures _)

pub returns-in-Demo : goal.returns-in-Demo
returns-in-Demo g c = rw c.in-Demo.is (c.tell_demo.ensures _)
