use Rattle.bench_shelf.proofs.Writing.{writes_then, writes_stop, writes_exit}
use Rattle.trace_text.specs.Lines.{end_text}
use Rattle.bench_report.specs.Report.{memory_text, flash_text, latest, shown_flash, trace_lines_text}
use Rattle.bench_report.proofs.report.put_tail.Goals as goal

pub returns-in_err-put_memory : goal.returns-in_err-put_memory
returns-in_err-put_memory g c board s h =
    writes_exit end_text _ c.from_residual.ensures.1
    (writes_stop (trace_lines_text (latest c.args.trace s.issues)) (writes_stop (flash_text (shown_flash s.units.spi.unit.flash))
    (writes_stop (memory_text 2147483648 s.hub.memory.dmem) (c.in_err-put_memory.ensures board s h))))

pub returns-in_err-put_memory-2 : goal.returns-in_err-put_memory-2
returns-in_err-put_memory-2 g c board s h =
    writes_exit end_text _ c.from_residual-in_err-put_memory-2.ensures.1
    (writes_stop (trace_lines_text (latest c.args.trace s.issues)) (writes_stop (flash_text (shown_flash s.units.spi.unit.flash))
    (writes_then _ (c.in_ok-put_memory.ensures board s h) (c.in_err-put_memory-2.ensures board s h))))

pub returns-in_err-put_flash : goal.returns-in_err-put_flash
returns-in_err-put_flash g c board s h =
    writes_exit end_text _ c.from_residual-in_err-put_flash.ensures.1
    (writes_stop (trace_lines_text (latest c.args.trace s.issues))
    (writes_then _ (writes_then _ (c.in_ok-put_memory.ensures board s h) (c.in_ok-put_memory-2.ensures board s h)) (c.in_err-put_flash.ensures board s h)))

pub returns-in_err-put_trace : goal.returns-in_err-put_trace
returns-in_err-put_trace g c board s h =
    writes_exit end_text _ c.from_residual-in_err-put_trace.ensures.1
    (writes_then _ (writes_then _ (writes_then _ (c.in_ok-put_memory.ensures board s h) (c.in_ok-put_memory-2.ensures board s h)) (c.in_ok-put_flash.ensures board s h))
    (c.in_err-put_trace.ensures board s h))

pub returns : goal.returns
returns g c board s h =
    writes_then _
    (writes_then _ (writes_then _ (writes_then _ (c.in_ok-put_memory.ensures board s h) (c.in_ok-put_memory-2.ensures board s h)) (c.in_ok-put_flash.ensures board s h))
    (c.in_ok-put_trace.ensures board s h)) (rw c.end_line.ensures at c.put_line.ensures)
