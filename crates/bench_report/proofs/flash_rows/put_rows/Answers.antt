use Rattle.std.proofs.Common.{◌≡◌, ◌+◌, ◌/◌, arith}
use Rattle.soc_words.proofs.Texts.{joined_below-zero, joined_below-more}
use Rattle.bench_shelf.proofs.Writing.{loop_exit, writes_begin, writes_then}
use Rattle.bench_report.specs.Report.{flash_row_in}
use Rattle.bench_report.proofs.FlashRows.{rows_below}
use Rattle.bench_report.proofs.flash_rows.put_rows.Goals as goal

pub loop-number-init : goal.loop-number-init
loop-number-init g c board s h f = rw joined_below-zero (writes_begin _ _ _)

pub loop-number-preserved : goal.loop-number-preserved
loop-number-preserved g c board s h f =
    rw joined_below-more (writes_then _ (c.loop-number.invariant board s h f) (rw (c.row-row.ensures board s h f) at c.in_ok-put_row.ensures))

pub returns-in_err-put_row : goal.returns-in_err-put_row
returns-in_err-put_row g c board s h f =
    rw (rows_below s.units.spi.unit.flash.cells c.flash_end.result ((c.flash_end.result + 15) / 16) (c.flash_end.ensures.bytes board s h) (omega arith) (omega (arith, c.flash_end.ensures.to)))
    (loop_exit (flash_row_in s.units.spi.unit.flash.cells) c.loop-number.number ((c.flash_end.result + 15) / 16) c.from_residual.result (omega (arith, c.loop-number-test.true))
    (c.loop-number.invariant board s h f) (rw (c.row-row.ensures board s h f) at c.in_err-put_row.ensures) c.from_residual.ensures.1)

pub returns : goal.returns
returns g c board s h f =
    let all : c.loop-number.number ≡ (c.flash_end.result + 15) / 16 = omega (arith, c.loop-number-test.false, c.loop-number.auto.number-end) in
    rw (rows_below s.units.spi.unit.flash.cells c.flash_end.result ((c.flash_end.result + 15) / 16) (c.flash_end.ensures.bytes board s h) (omega arith) (omega (arith, c.flash_end.ensures.to)), ← all)
    (c.loop-number.invariant board s h f)
