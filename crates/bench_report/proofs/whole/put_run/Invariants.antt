use Rattle.std.proofs.Common.{◌≡◌, ◌*◌, Ok}
use Rattle.bench_shelf.specs.Sink.{Appending}
use Rattle.chip_net.specs.contracts.chip.ChipStanding.TheImpl.{ghosts}
use Rattle.chip_whole.specs.Chip.{Board, ChipState, after}
use Rattle.chip_whole.specs.Next.{next_events}
use Rattle.bench_report.specs.Report.{events_text}
use Rattle.bench_report.proofs.whole.put_run.Given as goal

abbrev pub invariant-loop : goal.invariant-loop
invariant-loop g l = record {
  state : (board : Board) (s : ChipState) → (ghosts (g.dyn-1.0, g.dyn-1.1, g.dyn-1.2)).stands board l.fn.chip s → (ghosts (g.dyn-1.0, g.dyn-1.1, g.dyn-1.2)).stands board l.chip (after board s (4096 * l.counter));
  now : (ghosts (g.dyn-1.0, g.dyn-1.1, g.dyn-1.2)).now l.chip ≡ 4096 * l.counter;
  writes : (board : Board) (s : ChipState) → (ghosts (g.dyn-1.0, g.dyn-1.1, g.dyn-1.2)).stands board l.fn.chip s
      → Appending (g.O.Sink.written l.fn.out) (g.O.Sink.written l.out) (g.O.Sink.faults l.fn.out) (g.O.Sink.faults l.out) (events_text (next_events board s (4096 * l.counter))) (Ok (tt {0}));
}
