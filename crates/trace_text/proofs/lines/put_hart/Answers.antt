use Rattle.soc_words.specs.Text.{joined_below}
use Rattle.bench_shelf.proofs.Writing.{writes_then, writes_exit}
use Rattle.trace_text.specs.Lines.{register_text_in}
use Rattle.trace_text.proofs.lines.put_hart.Goals as goal

pub returns-in_err-put_line : goal.returns-in_err-put_line
returns-in_err-put_line g c =
    writes_exit (joined_below (register_text_in c.args.view.now.regs) 32) _ c.from_residual.ensures.1 (rw c.line_of_hart.ensures at c.in_err-put_line.ensures)

pub returns : goal.returns
returns g c = writes_then _ (rw c.line_of_hart.ensures at c.in_ok-put_line.ensures) c.put_registers.ensures
