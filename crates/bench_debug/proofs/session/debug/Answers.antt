use Rattle.bench_shelf.proofs.Writing.{writes_exit, writes_then}
use Rattle.trace_text.specs.Lines.{end_text}
use Rattle.bench_debug.specs.Session.{debug_text}
use Rattle.bench_debug.proofs.session.debug.Goals as goal

pub returns-in_err-obey_all-clause-text : goal.returns-in_err-obey_all-clause-text
unfolding debug_text
returns-in_err-obey_all-clause-text g c board s h =
    writes_exit end_text _ c.from_residual.ensures.1 (rw c.as_slice.ensures.value at (c.in_err-obey_all.ensures.text board s h))

pub returns-clause-text : goal.returns-clause-text
unfolding debug_text
returns-clause-text g c board s h =
    writes_then _ (rw c.as_slice.ensures.value at (c.in_ok-obey_all.ensures.text board s h)) (rw c.end_line.ensures at c.put_line.ensures)
