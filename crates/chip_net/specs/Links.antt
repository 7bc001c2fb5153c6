-- Serves the code alone: the places of a unit's two links.
use Rattle.std.specs.Prelude.{ℕ, List, Option}
use Rattle.chip_base.specs.declared.message.Down.{Down}
use Rattle.chip_base.specs.declared.message.Up.{Up}

pub record LinkState : Type 0 where
  -- the cycle that is next to be stepped
  pub cycle : ℕ
  -- from the hub to the unit, and from the unit to the hub
  pub down : List (Option Down)
  pub up : List (Option Up)
