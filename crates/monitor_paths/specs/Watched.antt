-- Law: where the Fires of the watchdog and the Resets that answer them are, and that none comes while the monitor runs.
use Rattle.std.specs.Prelude.{◌≡◌, ◌≤◌, ◌⊎◌, ℕ, ◌+◌, true, false, length, Option, None, Some}
use Rattle.chip_base.specs.Messages.{fire_in, reset_in}
use Rattle.chip_base.specs.declared.message.Down.{Down}
use Rattle.chip_base.specs.declared.message.Down.TheVariants.{Reset}
use Rattle.soc_words.specs.Link.{link_first, NoneBehind, count_on}
use Rattle.monitor_paths.specs.WatchdogPath.{WatchdogPath, watchdog_after, watchdog_start}

-- how many messages stand in a place
abbrev pub message_in : Option Down → ℕ
message_in None = 0
message_in (Some message) = 1

-- in every state: where the unit has fired, its Fire is on its way up or the Reset for it on its way down, and else there is neither
pub record IsWatched (p : WatchdogPath) : Type 0 where
  pub down_places : 1 ≤ length p.down
  pub up_places : 1 ≤ length p.up
  pub one : p.unit.fired ≡ true → count_on fire_in p.up + count_on reset_in p.down ≡ 1
  pub none : p.unit.fired ≡ false → (count_on fire_in p.up ≡ 0) × (count_on reset_in p.down ≡ 0)

-- the unit has fired, and nothing stands behind the Reset on its link down
pub record WaitsForReset (p : WatchdogPath) : Type 0 where
  pub fired : p.unit.fired ≡ true
  pub last : NoneBehind reset_in message_in p.down

-- the unit is disabled, and its link down is empty
pub record IsOff (p : WatchdogPath) : Type 0 where
  pub off : p.unit.enabled ≡ false
  pub empty : count_on message_in p.down ≡ 0

-- while the monitor runs
pub record IsWatchedByMonitor (p : WatchdogPath) : Type 0 where
  pub no_fire : count_on fire_in p.up ≡ 0
  pub rests : WaitsForReset p ⊎ IsOff p

-- what keeps it
pub record StaysWatched (p : WatchdogPath) : Type 0 where
  -- the hub answers each Fire by a Reset in its cycle, and sends no other Reset
  pub always : (now : ℕ) (sent : Option Down) → reset_in sent ≡ fire_in (link_first p.up) → IsWatched p → IsWatched (watchdog_after p now sent)
  -- after a Fire the monitor runs
  pub fire : (now : ℕ) → fire_in (link_first p.up) ≡ 1 → IsWatched p → IsWatchedByMonitor (watchdog_after p now (Some Reset))
  -- while it runs no Fire comes and it sends nothing to the watchdog
  pub quiet : IsWatched p → IsWatchedByMonitor p → fire_in (link_first p.up) ≡ 0
  pub rests : (now : ℕ) → IsWatched p → IsWatchedByMonitor p → IsWatchedByMonitor (watchdog_after p now None)

-- at power-on
pub record IsAsleep (p : WatchdogPath) : Type 0 where
  pub always : IsWatched p
  pub monitor : IsWatchedByMonitor p

abbrev pub StartsAsleep : ℕ → ℕ → Type 0
StartsAsleep down up = 1 ≤ down → 1 ≤ up → IsAsleep (watchdog_start down up)
