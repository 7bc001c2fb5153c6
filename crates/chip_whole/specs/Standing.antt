-- A definition, for the contracts of code: what the code of a chip keeps, and the chips of the definition that it stands for.
use Rattle.std.specs.Prelude.{◌≡◌, ℕ, List, Option}
use Rattle.chip_base.specs.declared.hart.IssueRecord.{IssueRecord}
use Rattle.chip_base.specs.declared.message.Down.{Down}
use Rattle.chip_base.specs.declared.message.Up.{Up}
use Rattle.chip_hub.specs.Kept.{IssuesStand, SeatKept, SeatStands}
use Rattle.chip_hub.specs.State.{HubState}
use Rattle.stream_link.specs.StreamState.{StreamState}
use Rattle.chip_whole.specs.Chip.{ChipState, Units}
use Rattle.chip_whole.specs.Joined.{Joined}

pub record Kept : Type 0 where
  pub hub : HubState
  -- what is kept of core 0's seat
  pub seat : SeatKept
  pub units : Units
  -- the links of the stream link's unit: from the hub to it, and from it to the hub
  pub down : List (Option Down)
  pub up : List (Option Up)
  -- the cycle that is next to be stepped
  pub cycle : ℕ
  -- the latest 1,000 issues, the oldest of them first, and the store that was granted in the last cycle
  pub issues : List IssueRecord
  pub stored : Option (ℕ × ℕ)

-- a unit in code that stands for units of the definition, and its two links, stand for such a unit joined to the hub
pub record JoinedStands {S : Type 0} (stands : S → Type 0) (down : List (Option Down)) (up : List (Option Up)) (j : Joined S) : Type 0 where
  pub of_unit : stands j.unit
  pub of_down : down ≡ j.down
  pub of_up : up ≡ j.up

-- all events since power-on aren't kept, of the issues only the latest are, and neither are the monitor's replies nor the words that a part was called with: what
-- is kept stands for a chip whatever its events and its earlier issues, whatever replies lead to the monitor that is kept, and whatever words lead to the part
-- that is kept, as `slink` says
unfoldable pub ChipStands : (StreamState → Type 0) → Kept → ChipState → Type 0
ChipStands slink k s =
    (k.hub ≡ s.hub) × (k.units ≡ s.units) × JoinedStands slink k.down k.up s.slink × (k.cycle ≡ s.cycle) × SeatStands k.seat s.seat × IssuesStand k.issues s.issues
    × (k.stored ≡ s.stored)
