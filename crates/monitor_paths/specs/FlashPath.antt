-- A definition: the path from SPI's front over its links to the unit with the flash, and one cycle of it.
use Rattle.std.specs.Prelude.{ℕ, Bool, List, [], ◌∷◌, ◌++◌, Option, Some, None, replicate}
use Rattle.chip_base.specs.declared.message.Down.{Down}
use Rattle.chip_base.specs.declared.message.Down.TheVariants.{Reset}
use Rattle.chip_base.specs.declared.message.Up.{Up}
use Rattle.soc_words.specs.Link.{link_first, link_moved, all_on}
use Rattle.spi_flash.specs.SpiCounts.{entries_in}
use Rattle.spi_flash.specs.SpiCycle.{SpiState, spi_cycle, spi_start}
use Rattle.spi_flash.specs.declared.transfer.Entry.{Entry}
use Rattle.unit_fronts.specs.SerialFront.{serial_loaded, serial_sent, serial_stored}
use Rattle.unit_fronts.specs.SerialRegisters.{SerialRegisters, serial_arrived, serial_closed, serial_front_reset}
use Rattle.unit_fronts.specs.SpiFront.{spi_kind}

pub record FlashPath : Type 0 where
  pub front : SerialRegisters
  pub down : List (Option Down)
  pub unit : SpiState
  pub up : List (Option Up)

-- a front after what arrives
abbrev pub heard_by : SerialRegisters → Option Up → SerialRegisters
heard_by front None = front
heard_by front (Some up) = serial_arrived front up

-- the front after what arrives in this cycle
abbrev pub heard : FlashPath → SerialRegisters
heard p = heard_by p.front (link_first p.up)

-- the link up once its first message has arrived
abbrev pub emptied : List (Option Up) → List (Option Up)
emptied [] = []
emptied (up ∷ rest) = None ∷ rest

-- the path once the front has heard what arrives in this cycle
abbrev pub path_heard : FlashPath → FlashPath
path_heard p = record { front = heard p; down = p.down; unit = p.unit; up = emptied p.up }

-- the path after a cycle in which the hub left this front and sent this message down
abbrev pub path_after : FlashPath → ℕ → SerialRegisters → Option Down → FlashPath
path_after p now front sent = record {
  front = front;
  down = link_moved p.down sent;
  unit = (spi_cycle p.unit now (link_first p.down)).unit;
  up = link_moved p.up (spi_cycle p.unit now (link_first p.down)).up;
}

-- what the hub does with a front in a cycle
pub data Touch : Type 0 where
  Untouched : Touch
  Loads : (reg : ℕ) → Touch
  Stores : (reg word : ℕ) → Touch
  -- the watchdog has fired
  Closes : Touch

abbrev pub front_after : SerialRegisters → Touch → SerialRegisters
front_after front Untouched = front
front_after front (Loads reg) = serial_loaded front reg
front_after front (Stores reg word) = serial_stored spi_kind front reg word
front_after front Closes = serial_closed front

abbrev pub sent_by : SerialRegisters → Touch → Option Down
sent_by front Untouched = None
sent_by front (Loads reg) = None
sent_by front (Stores reg word) = serial_sent spi_kind front reg word
sent_by front Closes = Some Reset

-- one cycle
abbrev pub after_touch : FlashPath → ℕ → Touch → FlashPath
after_touch p now touch = path_after p now (front_after (heard p) touch) (sent_by (heard p) touch)

-- the entries that are on their way to the flash, oldest first
abbrev pub waiting : FlashPath → List Entry
waiting p = p.unit.queue ++ all_on entries_in p.down

-- the path at power-on, with links of these delays
abbrev pub path_start : Bool → ℕ → ℕ → FlashPath
path_start fitted down up = record { front = serial_front_reset 0; down = replicate down None; unit = spi_start fitted; up = replicate up None }
