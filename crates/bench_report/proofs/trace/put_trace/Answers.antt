use Rattle.std.proofs.Common.{◌≡◌, arith}
use Rattle.soc_words.proofs.Texts.{joined_below-zero, joined_below-more}
use Rattle.bench_shelf.proofs.Writing.{writes_begin, writes_then, loop_exit}
use Rattle.bench_report.proofs.Traces.{oldest_first, all_shown}
use Rattle.bench_report.proofs.trace.put_trace.Goals as goal

pub loop-number-init : goal.loop-number-init
loop-number-init g c board s h = rw joined_below-zero (writes_begin _ _ _)

pub loop-number-preserved : goal.loop-number-preserved
loop-number-preserved g c board s h = rw joined_below-more (writes_then _ (c.loop-number.invariant board s h) (c.in_ok-put_issue.ensures board s h))

pub returns-in_err-put_issue : goal.returns-in_err-put_issue
returns-in_err-put_issue g c board s h =
    let count = c.min-count.ensures in
    rw (← count, ← all_shown s.issues c.min-count.result (omega (arith, count)))
    (loop_exit (oldest_first c.min-count.result s.issues) c.loop-number.number c.min-count.result c.from_residual.result (omega arith)
    (c.loop-number.invariant board s h) (c.in_err-put_issue.ensures board s h) c.from_residual.ensures.1)

pub returns : goal.returns
returns g c board s h =
    let count = c.min-count.ensures in
    let all : c.loop-number.number ≡ c.min-count.result = omega (arith, c.loop-number-test.false, c.loop-number.auto.number-end) in
    rw (← count, ← all_shown s.issues c.min-count.result (omega (arith, count))) (rw all at (c.loop-number.invariant board s h))
