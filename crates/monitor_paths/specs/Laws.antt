-- Law: what a cycle does to the path to the flash, and what the monitor's requests do and are answered over it.
use Rattle.std.specs.Prelude.{◌≡◌, ◌≤◌, ◌⊎◌, ℕ, Bool, true, false, [], ◌∷◌, Option, Some, None}
use Rattle.chip_base.specs.UnitTable.{unit_row}
use Rattle.chip_base.specs.declared.chip_unit.ChipUnit.TheVariants.{Spi}
use Rattle.flash_seen.specs.Seen.{Seen, seen}
use Rattle.flash_seen.specs.World.{Control, Datum, Idle, IsAllowed, IsAnswer, IsTold, Openness, Place, Ready, Selection, World, effect, has_bit, world_start}
use Rattle.soc_words.specs.Link.{link_first, all_on}
use Rattle.spi_flash.specs.Flash.{flash_start, settled}
use Rattle.spi_flash.specs.SpiCycle.{spi_cycle}
use Rattle.spi_flash.specs.declared.transfer.Transfer.{Transfer}
use Rattle.unit_fronts.specs.SerialFront.{serial_word}
use Rattle.unit_fronts.specs.SerialRegisters.{SerialRegisters, serial_is_open}
use Rattle.monitor_paths.specs.Always.{Always, IsBlank}
use Rattle.monitor_paths.specs.FlashPath.{Closes, FlashPath, Loads, Stores, Touch, Untouched, after_touch, heard, path_heard, path_start, waiting}
use Rattle.monitor_paths.specs.OnLinks.{words_in}
use Rattle.monitor_paths.specs.Opened.{AreSelections, Opened}

-- what a load, or a store of this word, does with the front
abbrev pub touch_at : Place → Option ℕ → Touch
touch_at Control None = Loads 0
touch_at Control (Some word) = Stores 0 word
touch_at Datum None = Loads 4
touch_at Datum (Some word) = Stores 4 word
touch_at Selection None = Loads 8
touch_at Selection (Some word) = Stores 8 word
touch_at place store = Untouched

-- a reply is the front's word where it answers a load of it, and OPEN has SPI's bit exactly where the front is open
abbrev pub ReplyFits : SerialRegisters → Place → Option ℕ → ℕ → Type 0
ReplyFits front Control None reply = reply ≡ serial_word front 0
ReplyFits front Datum None reply = reply ≡ serial_word front 4
ReplyFits front Openness None reply = has_bit reply (unit_row Spi).number ≡ serial_is_open front
ReplyFits front place store reply = Unit {0}

-- whatever is done with the front
abbrev pub StaysAlways : FlashPath → Type 0
StaysAlways p = (now : ℕ) (touch : Touch) → Always p → Always (after_touch p now touch)

-- a request is answered as the flash does, and does to it what it is known to do
pub record ServesRequest (p : FlashPath) (now : ℕ) (w : World) (place : Place) (store : Option ℕ) (reply : ℕ) : Type 0 where
  pub told : IsTold w place store reply
  pub opened : Opened (effect w place store reply) (after_touch p now (touch_at place store))

-- while the front is open, what is known of the flash stays known
pub record KeepsOpened (p : FlashPath) : Type 0 where
  -- once what arrives in a cycle was heard
  pub hears : (w : World) → Always p → Opened w p → Opened w (path_heard p)
  -- after a cycle in which nothing is done with the front
  pub rests : (w : World) (now : ℕ) → Always p → Opened w (path_heard p) → Opened w (after_touch p now Untouched)
  -- and after one with a request that may be made
  pub serves : (w : World) (now : ℕ) (place : Place) (store : Option ℕ) (reply : ℕ) → Always p → Opened w (path_heard p)
      → IsAllowed w place store → ReplyFits (heard p) place store reply → ServesRequest p now w place store reply

-- the front opens: nothing is on its way and the flash isn't selected, so it is known as it is seen
pub record Opens (p : FlashPath) : Type 0 where
  pub opened : Opened (world_start (seen p.unit.flash)) (path_heard p)
  pub blank : IsBlank p
  -- it is seen so after the cycle too
  pub still : (now : ℕ) → seen (spi_cycle p.unit now (link_first p.down)).unit.flash ≡ seen p.unit.flash

abbrev pub OpensBlank : FlashPath → Type 0
OpensBlank p = Always p → serial_is_open p.front ≡ false → serial_is_open (heard p) ≡ true → Opens p

-- a request tells nothing of the flash, and leaves the front as it is
pub record TellsNothing (p : FlashPath) (first : Seen) (now : ℕ) (place : Place) (store : Option ℕ) (reply : ℕ) : Type 0 where
  pub told : IsTold (world_start first) place store reply
  pub same : effect (world_start first) place store reply ≡ world_start first
  pub front : (after_touch p now (touch_at place store)).front ≡ heard p

pub record StaysShut (p : FlashPath) : Type 0 where
  -- a Fire closes the front
  pub closes : (now : ℕ) → serial_is_open (after_touch p now Closes).front ≡ false
  -- while it is closed, a request that may be made tells nothing, however the flash was seen before
  pub tells : (first : Seen) (now : ℕ) (place : Place) (store : Option ℕ) (reply : ℕ) → serial_is_open (heard p) ≡ false
      → IsAllowed (world_start first) place store → ReplyFits (heard p) place store reply → TellsNothing p first now place store reply

-- an exchange begins: the front is open and has no received entry, no byte is on its way to the flash and no answer on its way back
pub record BeginsExchange (p : FlashPath) : Type 0 where
  pub is_open : serial_is_open p.front ≡ true
  pub received : p.front.received ≡ []
  pub bytes : AreSelections (waiting p)
  pub answers : all_on words_in p.up ≡ []
  pub credits : 14 ≤ p.front.credits

-- an exchange ends: what was received is the flash's answer to the byte after all entries that were sent before it, and nothing is on its way
pub record EndsExchange (w : World) (p : FlashPath) : Type 0 where
  pub before : Transfer
  pub stage : w.stage ≡ Ready before
  pub word : ℕ
  pub received : p.front.received ≡ word ∷ []
  pub answer : IsAnswer w.flash w.free before word
  pub entries : waiting p ≡ []
  pub answers : all_on words_in p.up ≡ []
  pub credits : p.front.credits ≡ 16

-- an exchange begins where a byte may be sent, and ends where the answer may be taken
pub record ExchangesBytes (w : World) (p : FlashPath) : Type 0 where
  pub begins : (word : ℕ) → Opened w p → IsAllowed w Datum (Some word) → BeginsExchange p
  pub ends : Opened w p → IsAllowed w Datum None → EndsExchange w p

-- the flash holds what it is known to hold
pub record HoldsKnown (w : World) (p : FlashPath) : Type 0 where
  pub cells : settled p.unit.flash ≡ w.flash.cells
  pub fitted : p.unit.flash.fitted ≡ w.flash.fitted

-- so it does where no operation is under way for sure, or no entry was sent since the last answer
abbrev pub SettlesQuiet : World → FlashPath → Type 0
SettlesQuiet w p = Opened w p → (w.free ≡ true) ⊎ (w.stage ≡ Idle 0) → HoldsKnown w p

-- at power-on the front is open, and the flash is known as it is seen
pub record IsFresh (fitted : Bool) (p : FlashPath) : Type 0 where
  pub always : Always p
  pub opened : Opened (world_start (seen (flash_start fitted))) p

abbrev pub StartsFresh : Bool → ℕ → ℕ → Type 0
StartsFresh fitted down up = 1 ≤ down → down ≤ 4096 → 1 ≤ up → up ≤ 4096 → IsFresh fitted (path_start fitted down up)
