-- A definition: the watchdog's unit and its links, and one cycle of them.
use Rattle.std.specs.Prelude.{ℕ, List, Option, None, replicate}
use Rattle.board_units.specs.WatchdogCycle.{watchdog_cycle}
use Rattle.board_units.specs.WatchdogState.{WatchdogState, watchdog_reset}
use Rattle.chip_base.specs.declared.message.Down.{Down}
use Rattle.chip_base.specs.declared.message.Up.{Up}
use Rattle.soc_words.specs.Link.{link_first, link_moved}

pub record WatchdogPath : Type 0 where
  pub down : List (Option Down)
  pub unit : WatchdogState
  pub up : List (Option Up)

-- after a cycle in which the hub sent this message down
abbrev pub watchdog_after : WatchdogPath → ℕ → Option Down → WatchdogPath
watchdog_after p now sent = record {
  down = link_moved p.down sent;
  unit = (watchdog_cycle p.unit now (link_first p.down)).unit;
  up = link_moved p.up (watchdog_cycle p.unit now (link_first p.down)).up;
}

-- at power-on, with links of these delays
abbrev pub watchdog_start : ℕ → ℕ → WatchdogPath
watchdog_start down up = record { down = replicate down None; unit = watchdog_reset; up = replicate up None }
