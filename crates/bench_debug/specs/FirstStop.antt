-- A law over definitions: what is the first stop of a run.
use Rattle.std.specs.Prelude.{◌≡◌, ℕ, ◌<◌, ◌≤◌, List, Some, None}
use Rattle.chip_whole.specs.Chip.{Board, ChipState, after}
use Rattle.bench_debug.specs.Stops.{Found, stop_in}
use Rattle.command_text.specs.declared.command.Command.{Command}
use Rattle.bench_debug.specs.declared.stop.Stop.{Stop}
use Rattle.bench_debug.specs.declared.stop.Stop.TheVariants as stop

-- a run that goes on from a count ends at a later one: at the last one, where no stop holds either, or by the stop that holds there
abbrev pub EndsBy : Board → ChipState → List Command → (from last at : ℕ) → Stop → Type 0
EndsBy board s earlier from last at stop.Bound = (at ≡ last) × (from < last → stop_in earlier (after board s last) ≡ None)
EndsBy board s earlier from last at why = (from < at) × (stop_in earlier (after board s at) ≡ Some why)

-- of the counts above `from`, and at most `last`, the first one at which a stop holds, with the stop that goes first there; or the last
-- one, where none holds at any of them
pub record IsFirstStop (board : Board) (s : ChipState) (earlier : List Command) (from last : ℕ) (found : Found) : Type 0 where
  pub within : found.cycles ≤ last
  pub ends : EndsBy board s earlier from last found.cycles found.stop
  pub none_between : (count : ℕ) → from < count → count < found.cycles → stop_in earlier (after board s count) ≡ None
