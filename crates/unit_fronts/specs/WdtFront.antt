-- A definition: the front of the watchdog: CTRL at offset 0, FEED at 4, CAUSE at 8.
use Rattle.std.specs.Prelude.{◌==◌, ℕ, ◌-◌, Bool, true, false, not, ◌&&◌, Option, None, Some, if◌then◌else◌, bit_and}
use Rattle.chip_base.specs.Bits.{bit_if}
use Rattle.chip_base.specs.declared.message.Down.{Down}
use Rattle.chip_base.specs.declared.message.Down.TheVariants.{Set}
use Rattle.chip_base.specs.declared.message.Up.{Up}
use Rattle.unit_fronts.specs.FrontCalls.{FrontCall, FrontMeaning, LoadFrom, StoreTo, UnitSays}
use Rattle.unit_fronts.specs.Owed.{is_open_at, one_more}

pub record WatchdogRegisters : Type 0 where
  -- the bits of CTRL that a store writes
  pub control : ℕ
  -- the front was closed since power-on, which a Fire alone does
  pub was_closed : Bool
  -- how many answers to a Reset are still to come
  pub owed : ℕ

-- the front at power-on
abbrev pub watchdog_front_start : WatchdogRegisters
watchdog_front_start = record { control = 0; was_closed = false; owed = 0 }

-- the reset state of a front that was closed and waits for this many answers
abbrev pub watchdog_front_reset : ℕ → WatchdogRegisters
watchdog_front_reset owed = record { control = 0; was_closed = true; owed = owed }

-- CAUSE
abbrev pub watchdog_cause : WatchdogRegisters → ℕ
watchdog_cause s = bit_if 0 s.was_closed

-- what a load of a register gives; a closed front gives 0 but for CAUSE, and FEED reads 0
abbrev pub watchdog_word : WatchdogRegisters → ℕ → ℕ
watchdog_word s reg = if reg == 8 then watchdog_cause s else if is_open_at s.owed && (reg == 0) then s.control else 0

-- the part of a stored word that CTRL keeps: enable (0) and timeout (8 to 31)
abbrev pub watchdog_kept : ℕ → ℕ
watchdog_kept word = bit_and word 0xffffff01

-- the front after a store to a register: FEED keeps nothing, and CAUSE can't be written
abbrev pub watchdog_stored : WatchdogRegisters → ℕ → ℕ → WatchdogRegisters
watchdog_stored s reg word = if is_open_at s.owed && (reg == 0) then record s { control = watchdog_kept word } else s

-- the message that a store to an open front sends to the unit: CTRL the kept word, and FEED the one word that feeds
abbrev pub watchdog_sent_open : ℕ → ℕ → Option Down
watchdog_sent_open reg word =
    if reg == 0 then Some (Set 0 (watchdog_kept word))
    else if (reg == 4) && (word == 0x0000feed) then Some (Set 4 word)
    else None

-- the message that a store sends to the unit
abbrev pub watchdog_sent : WatchdogRegisters → ℕ → ℕ → Option Down
watchdog_sent s reg word = if is_open_at s.owed then watchdog_sent_open reg word else None

-- an open front hears nothing, and a closed one counts the answers
abbrev pub watchdog_arrived : WatchdogRegisters → Up → WatchdogRegisters
watchdog_arrived s up = if up.done && not (is_open_at s.owed) then record s { owed = s.owed - 1 } else s

-- one answer more is owed, CAUSE is set, and all else is reset
abbrev pub watchdog_closed : WatchdogRegisters → WatchdogRegisters
watchdog_closed s = watchdog_front_reset (one_more s.owed)

-- the front after a call
abbrev pub watchdog_after : WatchdogRegisters → FrontCall → WatchdogRegisters
watchdog_after s (LoadFrom reg) = s
watchdog_after s (StoreTo reg word) = watchdog_stored s reg word
watchdog_after s (UnitSays up) = watchdog_arrived s up

-- what the calls do; the last answer opens the front in its reset state
abbrev pub watchdog_front : FrontMeaning WatchdogRegisters
watchdog_front = record {
  word = watchdog_word;
  sent = watchdog_sent;
  after = watchdog_after;
  front_reset = watchdog_front_reset;
  closed_word = λ reg. if reg == 8 then 1 else 0;
  opened = λ up. watchdog_front_reset 0;
}
