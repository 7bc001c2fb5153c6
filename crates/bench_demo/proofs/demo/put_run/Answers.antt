use Rattle.trace_text.specs.Lines.{boot_text, end_text}
use Rattle.bench_shelf.proofs.Writing.{writes_exit, writes_stop, writes_then}
use Rattle.bench_demo.specs.Demo.{sum_text}
use Rattle.bench_demo.proofs.demo.put_run.Goals as goal

pub returns-in_err-put_line : goal.returns-in_err-put_line
returns-in_err-put_line g c =
    writes_exit end_text _ c.from_residual.ensures.1
    (writes_stop (boot_text c.args.boot) (writes_stop (sum_text c.args.sum) (rw c.serial_line.ensures at c.in_err-put_line.ensures)))

pub returns-in_err-put_line-2 : goal.returns-in_err-put_line-2
returns-in_err-put_line-2 g c =
    writes_exit end_text _ c.from_residual-in_err-put_line-2.ensures.1
    (writes_stop (boot_text c.args.boot)
    (writes_then _ (rw c.serial_line.ensures at c.in_ok-put_line.ensures) (rw c.sum_line.ensures at c.in_err-put_line-2.ensures)))

pub returns-in_err-put_line-3 : goal.returns-in_err-put_line-3
returns-in_err-put_line-3 g c =
    writes_exit end_text _ c.from_residual-in_err-put_line-3.ensures.1
    (writes_then _ (writes_then _ (rw c.serial_line.ensures at c.in_ok-put_line.ensures) (rw c.sum_line.ensures at c.in_ok-put_line-2.ensures))
    (rw c.boot_line.ensures at c.in_err-put_line-3.ensures))

pub returns : goal.returns
returns g c =
    writes_then _
    (writes_then _ (writes_then _ (rw c.serial_line.ensures at c.in_ok-put_line.ensures) (rw c.sum_line.ensures at c.in_ok-put_line-2.ensures))
    (rw c.boot_line.ensures at c.in_ok-put_line-3.ensures)) (rw c.end_line.ensures at c.put_line-4.ensures)
