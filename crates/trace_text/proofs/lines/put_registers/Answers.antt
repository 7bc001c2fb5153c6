use Rattle.std.proofs.Common.{arith}
use Rattle.soc_words.proofs.Texts.{joined_below-zero, joined_below-more}
use Rattle.bench_shelf.proofs.Writing.{writes_begin, writes_then, loop_exit}
use Rattle.trace_text.specs.Lines.{register_text_in}
use Rattle.trace_text.proofs.lines.put_registers.Goals as goal

pub loop-number-init : goal.loop-number-init
loop-number-init g c = rw joined_below-zero (writes_begin _ _ _)

pub loop-number-preserved : goal.loop-number-preserved
loop-number-preserved g c = rw joined_below-more (writes_then _ c.loop-number.invariant c.in_ok-put_register.ensures)

pub returns-in_err-put_register : goal.returns-in_err-put_register
returns-in_err-put_register g c =
    loop_exit (register_text_in c.args.regs.now) c.loop-number.number 32 c.from_residual.result (omega arith) c.loop-number.invariant c.in_err-put_register.ensures c.from_residual.ensures.1
