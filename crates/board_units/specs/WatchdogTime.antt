-- When a watchdog fires: laws over definitions.
use Rattle.std.specs.Prelude.{◌≡◌, ◌≤◌, ◌<◌, ◌==◌, ℕ, zero, suc, ◌+◌, Bool, true, false, ◌||◌, length, Option, None, Some, if◌then◌else◌}
use Rattle.chip_base.specs.Given.{Given}
use Rattle.chip_base.specs.Messages.{fire_in, reset_in}
use Rattle.chip_base.specs.Runs.{ran, unit_after, unit_step}
use Rattle.chip_base.specs.declared.event.Event.{Event}
use Rattle.chip_base.specs.declared.message.Down.{Down}
use Rattle.chip_base.specs.declared.message.Down.TheVariants.{Reset, Set}
use Rattle.chip_base.specs.declared.message.Up.{Up}
use Rattle.board_units.specs.WatchdogState.{WatchdogState, watchdog_reset}
use Rattle.board_units.specs.WatchdogCycle.{enables, fire_event, timeout_of, watchdog_cycle}

-- 1 where the unit has fired since the last Reset, and 0 where it hasn't
abbrev pub fires_since_reset : WatchdogState → ℕ
fires_since_reset s = if s.fired then 1 else 0

-- what a cycle does about Fires: one is told until a Reset
pub record FiresOnce (now : ℕ) (old : WatchdogState) (down : Option Down) (new : WatchdogState) (up : Option Up) (event : Option Event) : Type 0 where
  -- without a Reset, a Fire goes up exactly in the cycle in which the unit comes to have fired
  pub counts : reset_in down ≡ 0 → fire_in up + fires_since_reset old ≡ fires_since_reset new
  -- a unit that has fired hears and says nothing but a Reset
  pub waits : old.fired ≡ true → reset_in down ≡ 0 → (new ≡ old) × (up ≡ None)
  -- a Reset disables it, and no Fire goes up with the answer
  pub resets : reset_in down ≡ 1 → (new ≡ watchdog_reset) × (fire_in up ≡ 0)
  -- the event of a Fire comes with it, and no other event
  pub told : fire_in up ≡ 1 → event ≡ Some (fire_event now)
  pub untold : fire_in up ≡ 0 → event ≡ None

-- a disabled unit rests, until a message comes
abbrev pub RestsDisabled : WatchdogState → Type 0
RestsDisabled s = s.enabled ≡ false → (now : ℕ) → watchdog_cycle s now None ≡ record { unit = s; up = None; event = None }

-- in cycles without a Reset one event is told where the unit comes to have fired in them, and else none
unfoldable pub FiresOnceUntilReset : Type 0
FiresOnceUntilReset = (s : WatchdogState) (start : ℕ) (downs : ℕ → Option Down) (n : ℕ) → ((t : ℕ) → start ≤ t → t < start + n → reset_in (downs t) ≡ 0)
    → length (ran (unit_step watchdog_cycle) s start downs n).told + fires_since_reset s ≡ fires_since_reset (unit_after watchdog_cycle s start downs n)

-- the control word after a message: a Reset makes it 0
abbrev pub control_by : ℕ → Option Down → ℕ
control_by control None = control
control_by control (Some Reset) = 0
control_by control (Some (Set reg word)) = if reg == 0 then word else control

-- the last control word that came before the cycle n: 0 at power-on and after a Reset
unfoldable pub control_before : (ℕ → Option Down) → ℕ → ℕ
control_before downs zero = 0
control_before downs (suc n) = control_by (control_before downs n) (downs n)

-- a control word, a feed or a Reset comes
abbrev pub is_heard : Option Down → Bool
is_heard None = false
is_heard (Some Reset) = true
is_heard (Some (Set reg word)) = (reg == 0) || (reg == 4)

-- the unit before a cycle, from power-on before the cycle 0, and what it gives in it
abbrev pub watchdog_before : (ℕ → Option Down) → ℕ → WatchdogState
watchdog_before downs now = unit_after watchdog_cycle watchdog_reset 0 downs now

abbrev pub given_in : (ℕ → Option Down) → ℕ → Given WatchdogState
given_in downs now = watchdog_cycle (watchdog_before downs now) now (downs now)

-- the timeout passes in a cycle: a control word is a feed too, so it begins with the last of them
pub record RunsOut (downs : ℕ → Option Down) (now : ℕ) : Type 0 where
  -- the cycle of the last message that was heard; the unit hasn't fired before it
  pub last : ℕ
  pub waits : (watchdog_before downs last).fired ≡ false
  pub heard : is_heard (downs last) ≡ true
  pub alone : (t : ℕ) → last < t → t ≤ now → is_heard (downs t) ≡ false
  -- the control word since then enables the unit, and its timeout passed, the cycle of the message counted as its first
  pub enabled : enables (control_before downs (suc last)) ≡ true
  pub time : last + timeout_of (control_before downs (suc last)) ≡ suc now

-- the unit fires in a cycle exactly where the timeout of the last control word has then passed since the last feed
pub record FiresInTime (downs : ℕ → Option Down) (now : ℕ) : Type 0 where
  -- it fires where the timeout passes
  pub fires : RunsOut downs now → (given_in downs now).event ≡ Some (fire_event now)
  -- and in no other cycle
  pub only : (event : Event) → (given_in downs now).event ≡ Some event → RunsOut downs now
  -- while the last control word disables it, it never fires
  pub disabled : enables (control_before downs (suc now)) ≡ false → (given_in downs now).event ≡ None

-- from power-on, whatever the messages are
unfoldable pub KeepsTime : Type 0
KeepsTime = (downs : ℕ → Option Down) (now : ℕ) → FiresInTime downs now
