use Rattle.std.proofs.Common.{◌≡◌, ◌≤◌, ◌+◌, ◌*◌, ℕ, List, length, arith}
use Rattle.soc_words.proofs.Texts.{joined_below-zero, joined_below-more}
use Rattle.bench_shelf.proofs.Writing.{writes_begin, writes_then, loop_exit}
use Rattle.bench_report.specs.Bank.{base_of, bytes_of}
use Rattle.bench_report.specs.Report.{memory_row_in}
use Rattle.bench_report.proofs.report.put_memory.Goals as goal

pub loop-number-init : goal.loop-number-init
loop-number-init g c board s h = rw joined_below-zero (writes_begin _ _ _)

pub loop-number-preserved : goal.loop-number-preserved
loop-number-preserved g c board s h =
    let rows = c.rows-rows.ensures.value board s h in
    let room : 16 * c.loop-number.number + 16 ≤ length (bytes_of s.hub c.args.bank) = omega (arith, rows, c.loop-number-test.true) in
    let next : List ℕ = memory_row_in (base_of c.args.bank) (bytes_of s.hub c.args.bank) c.loop-number.number in
    rw joined_below-more (writes_then {second = next} _ (c.loop-number.invariant board s h) (rw (c.row-row.ensures board s h room, c.base.ensures) at c.in_ok-put_row.ensures))

pub returns-in_err-put_row : goal.returns-in_err-put_row
returns-in_err-put_row g c board s h =
    let rows = c.rows-rows.ensures.value board s h in
    let room : 16 * c.loop-number.number + 16 ≤ length (bytes_of s.hub c.args.bank) = omega (arith, rows, c.loop-number-test.true) in
    rw (← rows) (loop_exit (memory_row_in (base_of c.args.bank) (bytes_of s.hub c.args.bank)) c.loop-number.number c.rows-rows.result c.from_residual.result (omega arith)
    (c.loop-number.invariant board s h) (rw (c.row-row.ensures board s h room, c.base.ensures) at c.in_err-put_row.ensures) c.from_residual.ensures.1)

pub returns : goal.returns
returns g c board s h =
    let rows = c.rows-rows.ensures.value board s h in
    let all : c.loop-number.number ≡ c.rows-rows.result = omega (arith, c.loop-number-test.false, c.loop-number.auto.number-end) in
    rw (← rows, ← all) (c.loop-number.invariant board s h)
