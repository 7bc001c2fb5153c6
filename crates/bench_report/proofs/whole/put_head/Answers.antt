use Rattle.bench_shelf.proofs.Writing.{writes_then, writes_stop, writes_exit}
use Rattle.chip_hub.specs.Views.{boot_view}
use Rattle.chip_whole.specs.Chip.{after}
use Rattle.chip_whole.specs.Next.{next_events}
use Rattle.bench_report.specs.Report.{events_text}
use Rattle.trace_text.specs.Lines.{boot_text}
use Rattle.bench_report.proofs.whole.put_head.Goals as goal

pub returns-in_err-put_line-clause-writes : goal.returns-in_err-put_line-clause-writes
returns-in_err-put_line-clause-writes g c board s h =
    writes_exit (boot_text (boot_view (after board s c.args.cycles).seat)) _ c.from_residual.ensures.1
    (writes_stop (events_text (next_events board s c.args.cycles)) (rw c.cycles_line.ensures at c.in_err-put_line.ensures))

pub returns-in_err-put_run-clause-writes : goal.returns-in_err-put_run-clause-writes
returns-in_err-put_run-clause-writes g c board s h =
    writes_exit (boot_text (boot_view (after board s c.args.cycles).seat)) _ c.from_residual-in_err-put_run.ensures.1
    (writes_then _ (rw c.cycles_line.ensures at c.in_ok-put_line.ensures) (c.in_err-put_run.ensures.writes board s h))

pub returns-clause-writes : goal.returns-clause-writes
returns-clause-writes g c board s h =
    writes_then _ (writes_then _ (rw c.cycles_line.ensures at c.in_ok-put_line.ensures) (c.in_ok-put_run.ensures.writes board s h))
    (rw (c.boot_line.ensures, c.boot.ensures board _ (c.in_ok-put_run.ensures.state board s h)) at c.put_line-2.ensures)
