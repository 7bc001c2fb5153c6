use Rattle.std.proofs.Common.{◌≡◌, ◌+◌}
use Rattle.chip_net.specs.contracts.chip.ChipStanding.TheImpl.{ghosts}
use Rattle.chip_whole.specs.Chip.{after}
use Rattle.bench_debug.specs.Running.{InSession}
use Rattle.bench_debug.specs.Session.{first_stop}
use Rattle.bench_debug.proofs.session.seek.Given as goal

abbrev pub invariant-loop : goal.invariant-loop
invariant-loop g l = record {
  state : InSession (ghosts (g.dyn-1.0, g.dyn-1.1, g.dyn-1.2)).stands l.fn.chip (λ board s n. (ghosts (g.dyn-1.0, g.dyn-1.1, g.dyn-1.2)).stands board l.chip
      (after board s (n + l.counter)));
  now : (ghosts (g.dyn-1.0, g.dyn-1.1, g.dyn-1.2)).now l.chip ≡ (ghosts (g.dyn-1.0, g.dyn-1.1, g.dyn-1.2)).now l.fn.chip + l.counter;
  first : InSession (ghosts (g.dyn-1.0, g.dyn-1.1, g.dyn-1.2)).stands l.fn.chip (λ board s n.
      first_stop board s l.bound l.earlier n ≡ first_stop board s l.bound l.earlier (n + l.counter));
}
