-- The state of the watchdog's unit: a definition.
use Rattle.std.specs.Prelude.{ℕ, Bool, true, false}

pub record WatchdogState : Type 0 where
  pub enabled : Bool
  -- in how many cycles it fires after a feed
  pub timeout : ℕ
  -- in how many cycles it fires, while it is enabled
  pub left : ℕ
  -- it has fired, and waits for a Reset
  pub fired : Bool

-- the reset state: disabled
abbrev pub watchdog_reset : WatchdogState
watchdog_reset = record { enabled = false; timeout = 0; left = 0; fired = false }

-- a unit that has fired counts no more
abbrev pub watchdog_fired : WatchdogState
watchdog_fired = record watchdog_reset { fired = true }
