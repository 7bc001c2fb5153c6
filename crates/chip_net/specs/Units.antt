-- Serves the code alone: the units with their links, the links of the stream link's unit, and their time.
use Rattle.std.specs.Prelude.{ℕ, List, Option}
use Rattle.chip_base.specs.declared.message.Down.{Down}
use Rattle.chip_base.specs.declared.message.Up.{Up}
use Rattle.chip_whole.specs.Chip.{Units}

pub record UnitsState : Type 0 where
  pub units : Units
  -- from the hub to the stream link, and from it to the hub
  pub down : List (Option Down)
  pub up : List (Option Up)
  -- the cycle that is next to be stepped
  pub cycle : ℕ
