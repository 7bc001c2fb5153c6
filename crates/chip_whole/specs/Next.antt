-- A definition: what happens in the cycles that come.
use Rattle.std.specs.Prelude.{ℕ, List, drop, length}
use Rattle.chip_base.specs.declared.event.Event.{Event}
use Rattle.chip_whole.specs.Chip.{Board, ChipState, after}

-- the events of the next n cycles
unfoldable pub next_events : Board → ChipState → ℕ → List Event
next_events board s n = drop (length s.events) (after board s n).events
