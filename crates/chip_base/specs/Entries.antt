-- A law over definitions: what a cycle of a unit does to the number of its entries.
use Rattle.std.specs.Prelude.{◌≡◌, ◌≤◌, ℕ, ◌+◌, Bool, Option}
use Rattle.chip_base.specs.declared.message.Down.{Down}
use Rattle.chip_base.specs.declared.message.Up.{Up}
use Rattle.chip_base.specs.Messages.{entry_in, credit_in, reset_in, done_in}

pub record CountsEntries (takes : ℕ → Bool) (old : ℕ) (down : Option Down) (new : ℕ) (up : Option Up) : Type 0 where
  -- an entry that came is counted in the unit until the cycle that gives its credit back
  pub entries : reset_in down ≡ 0 → old + entry_in takes down ≤ 16 → new + credit_in up ≡ old + entry_in takes down
  -- a Reset leaves no entry, and gives no credit
  pub after_reset : reset_in down ≡ 1 → new + credit_in up ≡ 0
  -- exactly a Reset is answered, in its own cycle
  pub answers : done_in up ≡ reset_in down
