use Rattle.std.proofs.Common.{◌≡◌, ◌*◌}
use Rattle.chip_net.specs.contracts.chip.ChipStanding.TheImpl.{ghosts}
use Rattle.chip_whole.specs.Next.{next_events}
use Rattle.chip_whole.specs.Stands.{ForEach, IsStepped}
use Rattle.bench_demo.specs.Demo.{serial_count}
use Rattle.bench_demo.proofs.run.run.Given as goal

abbrev pub invariant-loop : goal.invariant-loop
invariant-loop g l = record {
  state : IsStepped (ghosts (g.dyn-1.0, g.dyn-1.1, g.dyn-1.2)).stands l.fn.chip (4000 * l.counter) l.chip;
  now : (ghosts (g.dyn-1.0, g.dyn-1.1, g.dyn-1.2)).now l.chip ≡ 4000 * l.counter;
  count : ForEach (ghosts (g.dyn-1.0, g.dyn-1.1, g.dyn-1.2)).stands l.fn.chip (λ board s. l.count ≡ serial_count (next_events board s (4000 * l.counter)));
}
