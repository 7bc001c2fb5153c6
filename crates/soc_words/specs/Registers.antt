-- A law over definitions: what a store to a device's registers does to the word that loads of one of them give.
use Rattle.std.specs.Prelude.{◌≡◌, ◌≢◌, ℕ}

-- a store to the register at this offset sets its word to what it keeps of the stored one, and a store elsewhere leaves it
pub record SetsAt (reg offset kept before after : ℕ) : Type 0 where
  pub there : reg ≡ offset → after ≡ kept
  pub elsewhere : reg ≢ offset → after ≡ before
