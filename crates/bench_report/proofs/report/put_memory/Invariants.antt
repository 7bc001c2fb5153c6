use Rattle.std.proofs.Common.{Ok}
use Rattle.soc_words.specs.Text.{joined_below}
use Rattle.bench_shelf.specs.Sink.{Appending}
use Rattle.chip_net.specs.contracts.chip.ChipStanding.TheImpl.{ghosts}
use Rattle.bench_report.specs.Bank.{base_of, bytes_of}
use Rattle.chip_whole.specs.Stands.{ForEach}
use Rattle.bench_report.specs.Report.{memory_row_in}
use Rattle.bench_report.proofs.report.put_memory.Given as goal

abbrev pub invariant-loop-number : goal.invariant-loop-number
invariant-loop-number g l =
    ForEach (ghosts (g.dyn-1.0, g.dyn-1.1, g.dyn-1.2)).stands l.chip (λ _ s. Appending (g.O.Sink.written l.initial.out) (g.O.Sink.written l.out) (g.O.Sink.faults l.initial.out) (g.O.Sink.faults l.out)
    (joined_below (memory_row_in (base_of l.bank) (bytes_of s.hub l.bank)) l.number) (Ok (tt {0})))
