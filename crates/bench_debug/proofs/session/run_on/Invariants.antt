use Rattle.std.proofs.Common.{◌≡◌, ◌+◌, ◌*◌}
use Rattle.chip_net.specs.contracts.chip.ChipStanding.TheImpl.{ghosts}
use Rattle.chip_whole.specs.Stands.{IsStepped}
use Rattle.bench_debug.proofs.session.run_on.Given as goal

abbrev pub invariant-loop : goal.invariant-loop
invariant-loop g l = record {
  state : IsStepped (ghosts (g.dyn-1.0, g.dyn-1.1, g.dyn-1.2)).stands l.fn.chip (4096 * l.counter) l.chip;
  now : (ghosts (g.dyn-1.0, g.dyn-1.1, g.dyn-1.2)).now l.chip ≡ (ghosts (g.dyn-1.0, g.dyn-1.1, g.dyn-1.2)).now l.fn.chip + 4096 * l.counter;
}
