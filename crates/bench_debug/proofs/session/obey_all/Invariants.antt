use Rattle.std.proofs.Common.{◌≤◌, [], take, Ok}
use Rattle.bench_shelf.specs.Sink.{Appending}
use Rattle.chip_net.specs.contracts.chip.ChipStanding.TheImpl.{ghosts}
use Rattle.chip_whole.specs.Chip.{after}
use Rattle.chip_whole.specs.Stands.{ForEach}
use Rattle.bench_debug.specs.Session.{cycles_by, text_by}
use Rattle.bench_debug.proofs.session.obey_all.Given as goal

abbrev pub invariant-loop-i : goal.invariant-loop-i
invariant-loop-i g l = record {
  state : ForEach (ghosts (g.dyn-1.0, g.dyn-1.1, g.dyn-1.2)).stands l.fn.chip (λ board s.
      (ghosts (g.dyn-1.0, g.dyn-1.1, g.dyn-1.2)).stands board l.chip (after board s (cycles_by board s l.bound [] 0 (take l.i l.commands))));
  bound : (ghosts (g.dyn-1.0, g.dyn-1.1, g.dyn-1.2)).now l.chip ≤ l.bound;
  writes : ForEach (ghosts (g.dyn-1.0, g.dyn-1.1, g.dyn-1.2)).stands l.fn.chip (λ board s. Appending (g.O.Sink.written l.fn.out) (g.O.Sink.written l.out)
      (g.O.Sink.faults l.fn.out)
      (g.O.Sink.faults l.out) (text_by board s l.bound [] 0 (take l.i l.commands)) (Ok (tt {0})));
}
