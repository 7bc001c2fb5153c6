-- Definition: one cycle of the SPI unit.
use Rattle.std.specs.Prelude.{◌==◌, ℕ, ◌+◌, ◌-◌, ◌*◌, ◌/◌, ◌%◌, Bool, false, ◌&&◌, nat_lt, List, [], ◌∷◌, ◌++◌, length, if◌then◌else◌, Option, Some, None}
use Rattle.chip_base.specs.declared.message.Down.{Down}
use Rattle.chip_base.specs.declared.message.Down.TheVariants.{Reset, Set}
use Rattle.chip_base.specs.Given.{Given, quiet}
use Rattle.chip_base.specs.Messages.{credit_up, done_up, with_word}
use Rattle.chip_base.specs.Prescalers.{prescaler_of}
use Rattle.spi_flash.specs.declared.transfer.Entry.{Entry}
use Rattle.spi_flash.specs.declared.transfer.Entry.TheVariants.{Byte, Select}
use Rattle.spi_flash.specs.Flash.{FlashState, broken_off, byte_sent, flash_answer, flash_cycle, flash_start, selected}

pub record SpiState : Type 0 where
  pub enabled : Bool
  -- how many cycles a byte takes
  pub time : ℕ
  -- entries that aren't done, oldest first; the first is the one whose byte runs
  pub queue : List Entry
  -- how many cycles are left of the byte; none runs at 0
  pub left : ℕ
  pub flash : FlashState

-- the cycles of a byte by a control word: eight bits of prescaler times divider + 1
abbrev pub byte_time : ℕ → ℕ
byte_time control = 8 * (prescaler_of control * (control / 64 % 16 + 1))

-- a new control word; a byte that runs keeps its length
abbrev pub configured : SpiState → ℕ → SpiState
configured s control = record s { enabled = control % 2 == 1; time = byte_time control }

-- one entry more; where sixteen wait it is lost
abbrev pub queued : SpiState → Entry → SpiState
queued s entry = if nat_lt (length s.queue) 16 then record s { queue = s.queue ++ entry ∷ [] } else s

-- after a register was set: the control word at 0, a byte at 4, the selection at 8
abbrev pub set_in : SpiState → ℕ → ℕ → SpiState
set_in s reg word =
    if reg == 0 then configured s word
    else if reg == 4 then queued s (Byte (word % 256))
    else if reg == 8 then queued s (Select (word % 2 == 1))
    else s

-- a cycle of a byte that runs: in its last one the byte is exchanged, and the answer goes up with a credit
abbrev pub exchanged : SpiState → ℕ → List Entry → ℕ → Given SpiState
exchanged s byte rest left =
    if left == 1 then record {
      unit = record s { queue = rest; left = 0; flash = byte_sent s.flash byte };
      up = Some (with_word credit_up (flash_answer s.flash));
      event = None;
    }
    else quiet (record s { left = left - 1 })

-- a selection that stands first is done where no byte runs
abbrev pub selecting : SpiState → Bool → List Entry → Given SpiState
selecting s on rest =
    if s.left == 0 && s.enabled then record { unit = record s { queue = rest; flash = selected s.flash on }; up = Some credit_up; event = None }
    else quiet s

-- a byte that stands first begins where none runs, or goes on
abbrev pub running : SpiState → ℕ → List Entry → Given SpiState
running s byte rest = if s.left == 0 then (if s.enabled then exchanged s byte rest s.time else quiet s) else exchanged s byte rest s.left

-- what is done for the first entry that waits
abbrev pub engine_at : SpiState → List Entry → Given SpiState
engine_at s [] = quiet s
engine_at s (Select on ∷ rest) = selecting s on rest
engine_at s (Byte byte ∷ rest) = running s byte rest

-- the flash works, then the engine
abbrev pub engine : SpiState → Given SpiState
engine s = engine_at (record s { flash = flash_cycle s.flash }) s.queue

-- disabled, with the settings of a control word of zero and no entry, and the flash isn't selected
abbrev pub reset_with : FlashState → SpiState
reset_with flash = record { enabled = false; time = 16; queue = []; left = 0; flash = broken_off flash }

abbrev pub reset : SpiState → Given SpiState
reset s = record { unit = reset_with (flash_cycle s.flash); up = Some done_up; event = None }

-- one cycle: the message first, then the flash, then the engine
unfoldable pub spi_cycle : SpiState → ℕ → Option Down → Given SpiState
spi_cycle s now None = engine s
spi_cycle s now (Some Reset) = reset s
spi_cycle s now (Some (Set reg word)) = engine (set_in s reg word)

-- the unit at power-on
abbrev pub spi_start : Bool → SpiState
spi_start fitted = reset_with (flash_start fitted)
