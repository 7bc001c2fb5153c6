-- A law over definitions: a closed front, and when it opens.
use Rattle.std.specs.Prelude.{◌≡◌, ◌<◌, ℕ, ◌+◌, ◌-◌, List, None, Some}
use Rattle.chip_base.specs.declared.message.Up.{Up}
use Rattle.chip_base.specs.Messages.{done_in}
use Rattle.unit_fronts.specs.FrontCalls.{FrontCall, FrontMeaning, UnitSays, after_calls, answers_among}

-- a front that waits for some answers
pub record AwaitsAnswers {F : Type 0} (m : FrontMeaning F) (owed : ℕ) (front : F) : Type 0 where
  -- until the last of them comes, no call does anything but that each answer is counted
  pub stays : (calls : List FrontCall) → answers_among calls < owed
      → after_calls m front calls ≡ m.front_reset (owed - answers_among calls)
  -- loads give the words of a closed front: 0, but for CAUSE of the watchdog
  pub loads : (calls : List FrontCall) → answers_among calls < owed → (reg : ℕ) → m.word (after_calls m front calls) reg ≡ m.closed_word reg
  -- stores send nothing
  pub stores : (calls : List FrontCall) → answers_among calls < owed → (reg word : ℕ) → m.sent (after_calls m front calls) reg word ≡ None
  -- the last answer opens the front
  pub opens : (calls : List FrontCall) (up : Up) → answers_among calls + 1 ≡ owed → done_in (Some up) ≡ 1
      → m.after (after_calls m front calls) (UnitSays up) ≡ m.opened up
