use Rattle.std.proofs.Common.{Ok}
use Rattle.soc_words.specs.Text.{joined_below}
use Rattle.bench_shelf.specs.Sink.{Appending}
use Rattle.chip_net.specs.contracts.chip.ChipStanding.TheImpl.{ghosts}
use Rattle.chip_whole.specs.Stands.{ForEach}
use Rattle.bench_debug.specs.Session.{mem_text_in}
use Rattle.bench_debug.proofs.session.put_words.Given as goal

abbrev pub invariant-loop-k : goal.invariant-loop-k
invariant-loop-k g l =
    ForEach (ghosts (g.dyn-1.0, g.dyn-1.1, g.dyn-1.2)).stands l.chip (λ _ s. Appending (g.O.Sink.written l.initial.out) (g.O.Sink.written l.out)
    (g.O.Sink.faults l.initial.out)
    (g.O.Sink.faults l.out) (joined_below (mem_text_in s.hub l.at) l.k) (Ok (tt {0})))
