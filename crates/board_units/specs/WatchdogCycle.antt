-- One cycle of the watchdog's unit: a definition.
use Rattle.std.specs.Prelude.{◌==◌, ℕ, ◌-◌, ◌*◌, ◌/◌, ◌%◌, Bool, ◌&&◌, nat_lt, Option, None, Some, if◌then◌else◌}
use Rattle.chip_base.specs.UnitTable.{unit_row}
use Rattle.chip_base.specs.declared.chip_unit.ChipUnit.TheVariants.{Wdt}
use Rattle.chip_base.specs.declared.event.Event.{Event}
use Rattle.chip_base.specs.declared.event.EventKind.TheVariants.{Fire}
use Rattle.chip_base.specs.Given.{Given, quiet}
use Rattle.chip_base.specs.declared.message.Down.{Down}
use Rattle.chip_base.specs.declared.message.Down.TheVariants.{Reset, Set}
use Rattle.chip_base.specs.Messages.{done_up, fire_up}
use Rattle.board_units.specs.WatchdogState.{WatchdogState, watchdog_fired, watchdog_reset}

-- the timeout of a control word in cycles: 256 times its bits 8 to 31
abbrev pub timeout_of : ℕ → ℕ
timeout_of control = control / 256 * 256

-- a control word enables the unit by its bit 0, together with a timeout above 0
abbrev pub enables : ℕ → Bool
enables control = control % 2 == 1 && nat_lt 0 (timeout_of control)

-- a new control word, which is a feed too
abbrev pub configured : WatchdogState → ℕ → WatchdogState
configured s control = record s { enabled = enables control; timeout = timeout_of control; left = timeout_of control }

-- a feed begins the timeout anew, where the unit is enabled
abbrev pub fed : WatchdogState → WatchdogState
fed s = if s.enabled then record s { left = s.timeout } else s

-- after a register was set: the control word at 0, and a feed at 4
abbrev pub set_in : WatchdogState → ℕ → ℕ → WatchdogState
set_in s reg word = if reg == 0 then configured s word else if reg == 4 then fed s else s

-- the event of a Fire
abbrev pub fire_event : ℕ → Event
fire_event now = record { cycle = now; unit = (unit_row Wdt).number; kind = Fire; value = 0 }

-- the Fire is told, and goes up
abbrev pub fires : ℕ → Given WatchdogState
fires now = record { unit = watchdog_fired; up = Some fire_up; event = Some (fire_event now) }

-- an enabled unit has one cycle less, and fires where none is left
abbrev pub counted : WatchdogState → ℕ → Given WatchdogState
counted s now =
    if s.enabled then (if s.left - 1 == 0 then fires now else quiet (record s { left = s.left - 1 })) else quiet s

-- one cycle: the message first, then the count; once the unit has fired it hears nothing but a Reset
unfoldable pub watchdog_cycle : WatchdogState → ℕ → Option Down → Given WatchdogState
watchdog_cycle s now None = if s.fired then quiet s else counted s now
watchdog_cycle s now (Some Reset) = record { unit = watchdog_reset; up = Some done_up; event = None }
watchdog_cycle s now (Some (Set reg word)) = if s.fired then quiet s else counted (set_in s reg word) now
