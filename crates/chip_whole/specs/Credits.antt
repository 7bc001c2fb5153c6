-- A law over definitions: where the sixteen credits of a front are, and the answers that it waits for.
use Rattle.std.specs.Prelude.{◌≡◌, ◌≤◌, ℕ, ◌+◌, Bool, List, ◌++◌, drop, Option, length, true, false}
use Rattle.chip_base.specs.declared.message.Down.{Down}
use Rattle.chip_base.specs.declared.message.Up.{Up}
use Rattle.chip_base.specs.Messages.{at_data, at_either_data, entry_in, credit_in, reset_in, done_in}
use Rattle.unit_fronts.specs.SerialRegisters.{SerialRegisters, serial_is_open}
use Rattle.spi_flash.specs.SpiCounts.{entries_in}
use Rattle.spi_flash.specs.SpiCycle.{SpiState, spi_cycle}
use Rattle.soc_words.specs.Link.{NoneBehind, count_on, link_first}
use Rattle.stream_link.specs.Laws.{words_in}
use Rattle.stream_link.specs.StreamCycle.{stream_cycle}
use Rattle.stream_link.specs.StreamState.{StreamState}
use Rattle.uart_lane.specs.Counts.{bytes_in, bytes_out}
use Rattle.uart_lane.specs.Cycle.{uart_cycle}
use Rattle.uart_lane.specs.State.{UartState}
use Rattle.chip_whole.specs.Chip.{Board, ChipState}
use Rattle.chip_whole.specs.Joined.{Joined}

-- the answers that a front waits for are as many as the Resets on its line down and their answers on its line up
abbrev pub AnswersComing : ℕ → List (Option Down) → List (Option Up) → Type 0
AnswersComing owed downs ups = owed ≡ count_on reset_in downs + count_on done_in ups

-- the credits of a front, the entries that it sent and its unit holds, and the Resets
pub record HasSixteen (takes : ℕ → Bool) (front : SerialRegisters) (downs : List (Option Down)) (entries : ℕ) (ups : List (Option Up)) : Type 0 where
  -- all credits of an open front are in it, or with an entry on its way down or in the unit, or on their way up
  pub sum : serial_is_open front ≡ true → front.credits + count_on (entry_in takes) downs + entries + count_on credit_in ups ≡ 16
  -- a closed front has all sixteen, whatever is still on its way
  pub all : serial_is_open front ≡ false → front.credits ≡ 16
  -- the unit has room for each entry that comes
  pub room : count_on (entry_in takes) downs + entries + count_on credit_in ups ≤ 16
  pub answers : AnswersComing front.owed downs ups
  pub behind_reset : NoneBehind reset_in (entry_in takes) downs
  pub behind_answer : NoneBehind done_in credit_in ups
  -- behind an answer on its way up, all is as after a reset
  pub none_behind_answer : 1 ≤ count_on done_in ups → (entries ≡ 0) × (count_on (entry_in takes) downs ≡ 0)

-- how many bytes wait in a UART
abbrev pub waiting_in : UartState → ℕ
waiting_in s = length s.fifo

-- a line has a place for each cycle of its delay, which is 1 to 4,096
abbrev pub IsLine : {M : Type 0} → List (Option M) → Type 0
IsLine line = (1 ≤ length line) × (length line ≤ 4096)

-- so has each line of a unit
pub record HasPlaces {S : Type 0} (j : Joined S) : Type 0 where
  pub down : IsLine j.down
  pub up : IsLine j.up

-- a front, and its unit whose entries are counted by `entries`
pub record ServesUnit {S : Type 0} (takes : ℕ → Bool) (front : SerialRegisters) (entries : S → ℕ) (j : Joined S) : Type 0 where
  pub places : HasPlaces j
  pub sixteen : HasSixteen takes front j.down (entries j.unit) j.up

-- a front that waits for this many answers, and its unit, which takes no entries: only Resets are counted
pub record AwaitsUnit {S : Type 0} (owed : ℕ) (j : Joined S) : Type 0 where
  pub places : HasPlaces j
  pub answers : AnswersComing owed j.down j.up

-- how many entries wait in the SPI unit
abbrev pub queued_in : SpiState → ℕ
queued_in s = length s.queue

-- how many words wait in the stream link's unit
abbrev pub words_waiting : StreamState → ℕ
words_waiting s = length s.queue.waiting

-- so it is for each unit
pub record CreditsHold (c : ChipState) : Type 0 where
  pub uart0 : ServesUnit at_data c.hub.fronts.uart0 waiting_in c.units.uart0
  pub uart1 : ServesUnit at_data c.hub.fronts.uart1 waiting_in c.units.uart1
  pub spi : ServesUnit at_either_data c.hub.fronts.spi queued_in c.units.spi
  pub gpio : AwaitsUnit c.hub.fronts.gpio.owed c.units.gpio
  pub pwm : AwaitsUnit c.hub.fronts.pwm.owed c.units.pwm
  pub slink : ServesUnit at_either_data c.hub.fronts.slink words_waiting c.slink
  pub wdt : AwaitsUnit c.hub.fronts.wdt.owed c.units.wdt

-- in a cycle in which no Reset arrives, the bytes that waited and came are those that left and wait, in the same order
abbrev pub UartLosesNone : UartState → ℕ → Option Down → Type 0
UartLosesNone s now down = reset_in down ≡ 0 → s.fifo ++ bytes_in down ≡ bytes_out (uart_cycle s now down).event ++ (uart_cycle s now down).unit.fifo

-- in a cycle in which no Reset arrives, the entries that waited and came wait in the same order, but for the first one where its credit goes up
abbrev pub SpiLosesNone : SpiState → ℕ → Option Down → Type 0
SpiLosesNone s now down = reset_in down ≡ 0 → (spi_cycle s now down).unit.queue ≡ drop (credit_in (spi_cycle s now down).up) (s.queue ++ entries_in down)

-- in a cycle in which no Reset arrives, the words that waited and came wait in the same order, but for the first one where its credit goes up
abbrev pub StreamLosesNone : Board → StreamState → ℕ → Option Down → Type 0
StreamLosesNone board s now down =
    reset_in down ≡ 0 → (stream_cycle board.part s now down).unit.queue.waiting ≡ drop (credit_in (stream_cycle board.part s now down).up) (s.queue.waiting ++ words_in down)

-- no byte and no word is lost in the cycle that comes next
pub record LosesNone (board : Board) (c : ChipState) : Type 0 where
  pub uart0 : UartLosesNone c.units.uart0.unit c.cycle (link_first c.units.uart0.down)
  pub uart1 : UartLosesNone c.units.uart1.unit c.cycle (link_first c.units.uart1.down)
  pub spi : SpiLosesNone c.units.spi.unit c.cycle (link_first c.units.spi.down)
  pub slink : StreamLosesNone board c.slink.unit c.cycle (link_first c.slink.down)
