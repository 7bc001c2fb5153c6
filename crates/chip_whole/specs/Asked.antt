-- A law over definitions: what the part on the stream link is called with over a run.
use Rattle.std.specs.Prelude.{◌≡◌, ◌==◌, ℕ, List, [], ◌∷◌, ◌++◌, map, if◌then◌else◌}
use Rattle.chip_base.specs.UnitTable.{unit_row}
use Rattle.chip_base.specs.declared.chip_unit.ChipUnit.TheVariants.{Slink}
use Rattle.chip_base.specs.declared.event.Event.{Event}
use Rattle.stream_link.specs.Laws.{asked_by}
use Rattle.chip_whole.specs.Chip.{ChipState}

-- the events of a unit, in their order
abbrev pub events_at : ℕ → List Event → List Event
events_at unit [] = []
events_at unit (e ∷ rest) = (if e.unit == unit then e ∷ [] else []) ++ events_at unit rest

-- the part was called once with each word that the stream link told, in their order, and with nothing else
abbrev pub AsksOnce : ChipState → Type 0
AsksOnce c = c.slink.unit.passed ≡ map asked_by (events_at (unit_row Slink).number c.events)
