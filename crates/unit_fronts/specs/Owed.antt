-- A definition, and a law over it: the answers that a front waits for after Resets.
use Rattle.std.specs.Prelude.{◌≡◌, ◌==◌, ℕ, ◌+◌, Bool, true, false, min, Some}
use Rattle.chip_base.specs.declared.message.Up.{Up}
use Rattle.chip_base.specs.Messages.{done_in}

-- a front is open where it waits for no answer
abbrev pub is_open_at : ℕ → Bool
is_open_at owed = owed == 0

-- after one Reset more; the count stops at 8,192
abbrev pub one_more : ℕ → ℕ
one_more owed = min 8192 (owed + 1)

-- what a message from the unit does to the number of answers that are owed
pub record CountsAnswers (before : ℕ) (up : Up) (after : ℕ) : Type 0 where
  pub still : is_open_at before ≡ true → after ≡ before
  pub answers : is_open_at before ≡ false → after + done_in (Some up) ≡ before
