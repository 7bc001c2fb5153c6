use Rattle.std.proofs.Common.{◌≡◌, ◌+◌, ◌++◌}
use Rattle.chip_whole.specs.Chip.{Board, ChipState, after}
use Rattle.chip_net.specs.contracts.chip.ChipStanding.TheImpl.{ghosts}
use Rattle.chip_net.proofs.chip.Chip.run.Given as goal

abbrev pub invariant-loop : goal.invariant-loop
invariant-loop g l = record {
  state : (board : Board) (s : ChipState) → (ghosts (g.dyn-1.0, g.dyn-1.1, g.dyn-1.2)).stands board l.fn.self s
      → (ghosts (g.dyn-1.0, g.dyn-1.1, g.dyn-1.2)).stands board l.self (after board s l.counter);
  events : (board : Board) (s : ChipState) → (ghosts (g.dyn-1.0, g.dyn-1.1, g.dyn-1.2)).stands board l.fn.self s
      → (after board s l.counter).events ≡ s.events ++ l.self.events.items;
  now : (ghosts (g.dyn-1.0, g.dyn-1.1, g.dyn-1.2)).now l.self ≡ (ghosts (g.dyn-1.0, g.dyn-1.1, g.dyn-1.2)).now l.fn.self + l.counter;
}
