use Rattle.std.proofs.Common.{Ok}
use Rattle.soc_words.specs.Text.{joined_below}
use Rattle.bench_shelf.specs.Sink.{Appending}
use Rattle.trace_text.specs.Lines.{register_text_in}
use Rattle.trace_text.proofs.lines.put_registers.Given as goal

abbrev pub invariant-loop-number : goal.invariant-loop-number
invariant-loop-number g l = Appending (g.O.Sink.written l.initial.out) (g.O.Sink.written l.out) (g.O.Sink.faults l.initial.out) (g.O.Sink.faults l.out) (joined_below (register_text_in l.regs) l.number) (Ok (tt {0}))
