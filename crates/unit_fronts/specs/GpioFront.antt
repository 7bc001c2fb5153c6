-- A definition: the front of the general-purpose pins: IN at offset 0, OUT at 4, ENABLE at 8, PENDING at 12.
use Rattle.std.specs.Prelude.{◌==◌, ℕ, ◌-◌, Bool, not, ◌&&◌, Option, None, Some, if◌then◌else◌, bit_and, bit_or}
use Rattle.std.specs.Int.{w32, bit_not}
use Rattle.chip_base.specs.declared.message.Down.{Down}
use Rattle.chip_base.specs.declared.message.Down.TheVariants.{Set}
use Rattle.chip_base.specs.declared.message.Up.{Up}
use Rattle.unit_fronts.specs.FrontCalls.{FrontCall, FrontMeaning, LoadFrom, StoreTo, UnitSays}
use Rattle.unit_fronts.specs.Owed.{is_open_at, one_more}

pub record GpioRegisters : Type 0 where
  -- the word that the unit said last
  pub inputs : ℕ
  -- the word that was stored last
  pub outputs : ℕ
  -- the pins that may interrupt
  pub enable : ℕ
  -- the pins that rose, and weren't cleared since
  pub pending : ℕ
  -- how many answers to a Reset are still to come
  pub owed : ℕ

-- the reset state of a front that waits for this many answers
abbrev pub gpio_front_reset : ℕ → GpioRegisters
gpio_front_reset owed = record { inputs = 0; outputs = 0; enable = 0; pending = 0; owed = owed }

-- the word of a register
abbrev pub gpio_register : GpioRegisters → ℕ → ℕ
gpio_register s reg = if reg == 0 then s.inputs else if reg == 4 then s.outputs else if reg == 8 then s.enable else s.pending

-- what a load of a register gives; a closed front gives 0
abbrev pub gpio_word : GpioRegisters → ℕ → ℕ
gpio_word s reg = if is_open_at s.owed then gpio_register s reg else 0

-- an open front after a store: IN can't be written, and PENDING loses the bits that are stored as 1
abbrev pub gpio_stored_open : GpioRegisters → ℕ → ℕ → GpioRegisters
gpio_stored_open s reg word =
    if reg == 4 then record s { outputs = word }
    else if reg == 8 then record s { enable = word }
    else if reg == 12 then record s { pending = bit_and s.pending (bit_not w32 word) }
    else s

-- the front after a store to a register
abbrev pub gpio_stored : GpioRegisters → ℕ → ℕ → GpioRegisters
gpio_stored s reg word = if is_open_at s.owed then gpio_stored_open s reg word else s

-- the message that a store sends to the unit: OUT alone sends one
abbrev pub gpio_sent : GpioRegisters → ℕ → ℕ → Option Down
gpio_sent s reg word = if is_open_at s.owed && (reg == 4) then Some (Set 4 word) else None

-- the pins that are high in a word and were low before
abbrev pub rises : ℕ → ℕ → ℕ
rises before word = bit_and word (bit_not w32 before)

-- the word becomes IN, and each pin that rose is pending
abbrev pub gpio_heard : GpioRegisters → ℕ → GpioRegisters
gpio_heard s word = record s { inputs = word; pending = bit_or s.pending (rises s.inputs word) }

-- an open front drops a message that says that a Reset was done
abbrev pub gpio_arrived_open : GpioRegisters → Up → GpioRegisters
gpio_arrived_open s up = if up.has && not up.done then gpio_heard s up.word else s

-- an answer to a Reset came; where it opens the front, its word becomes IN, and no pin rises
abbrev pub gpio_answered : GpioRegisters → Up → GpioRegisters
gpio_answered s up =
    if is_open_at (s.owed - 1) && up.has then record s { inputs = up.word; owed = s.owed - 1 } else record s { owed = s.owed - 1 }

-- a closed front hears nothing but that a Reset was done
abbrev pub gpio_arrived_closed : GpioRegisters → Up → GpioRegisters
gpio_arrived_closed s up = if up.done then gpio_answered s up else s

-- the front after a message from the unit
abbrev pub gpio_arrived : GpioRegisters → Up → GpioRegisters
gpio_arrived s up = if is_open_at s.owed then gpio_arrived_open s up else gpio_arrived_closed s up

-- a pin that may interrupt is pending
abbrev pub gpio_line : GpioRegisters → Bool
gpio_line s = not (bit_and s.pending s.enable == 0)

-- one answer more is owed, and all else is reset
abbrev pub gpio_closed : GpioRegisters → GpioRegisters
gpio_closed s = gpio_front_reset (one_more s.owed)

-- the front after a call
abbrev pub gpio_after : GpioRegisters → FrontCall → GpioRegisters
gpio_after s (LoadFrom reg) = s
gpio_after s (StoreTo reg word) = gpio_stored s reg word
gpio_after s (UnitSays up) = gpio_arrived s up

-- what the calls do; the last answer opens the front in its reset state, but for IN, which is the answer's word where it has one
abbrev pub gpio_front : FrontMeaning GpioRegisters
gpio_front = record {
  word = gpio_word;
  sent = gpio_sent;
  after = gpio_after;
  front_reset = gpio_front_reset;
  closed_word = λ reg. 0;
  opened = λ up. record (gpio_front_reset 0) { inputs = if up.has then up.word else 0 };
}
