-- Definition: what is known of a flash behind the SPI unit's front by the requests that are made and by their answers alone.
use Rattle.std.specs.Prelude.{◌≡◌, ◌==◌, ◌<◌, ℕ, suc, ◌+◌, ◌/◌, ◌%◌, ◌^◌, Bool, true, false, ◌&&◌, not, if◌then◌else◌, Option, Some, None}
use Rattle.chip_base.specs.UnitTable.{part_row, unit_row}
use Rattle.chip_base.specs.declared.chip_unit.ChipUnit.TheVariants as unit
use Rattle.chip_base.specs.declared.chip_unit.HubPart.TheVariants as part
use Rattle.spi_flash.specs.declared.transfer.Entry.TheVariants.{Byte, Select}
use Rattle.spi_flash.specs.declared.transfer.Transfer.{Transfer}
use Rattle.spi_flash.specs.declared.transfer.Transfer.TheVariants.{Opened}
use Rattle.spi_flash.specs.Flash.{transfer_answer}
use Rattle.flash_seen.specs.Laws.{asks_status}
use Rattle.flash_seen.specs.Seen.{Seen, starts, step}

-- where an exchange of a byte stands
pub data Stage : Type 0 where
  -- the front wasn't seen open yet
  Shut : Stage
  -- none is under way, and so many selections and deselects were sent since the last one
  Idle : (sent : ℕ) → Stage
  -- the byte was sent, in this transfer
  Sent : (before : Transfer) → Stage
  -- the answer was seen in the front
  Ready : (before : Transfer) → Stage

pub record World : Type 0 where
  -- after all entries that were sent
  pub flash : Seen
  -- for sure no operation is under way
  pub free : Bool
  pub stage : Stage
  -- an entry was sent
  pub used : Bool

abbrev pub world_start : Seen → World
world_start flash = record { flash = flash; free = not flash.fitted; stage = Shut; used = false }

-- the registers that bear on the flash: SPI's three, and OPEN
pub data Place : Type 0 where
  Control Datum Selection Openness Elsewhere : Place

abbrev pub spi_base : ℕ
spi_base = (unit_row unit.Spi).base

abbrev pub open_address : ℕ
open_address = (part_row part.Sysinfo).base + 12

abbrev pub place_at : ℕ → Place
place_at address =
    if address == spi_base then Control
    else if address == spi_base + 4 then Datum
    else if address == spi_base + 8 then Selection
    else if address == open_address then Openness
    else Elsewhere

abbrev pub has_bit : ℕ → ℕ → Bool
has_bit word place = word / 2 ^ place % 2 == 1

abbrev pub chosen_more : Stage → Stage
chosen_more (Idle sent) = Idle (suc sent)
chosen_more stage = stage

-- after a load of CTRL, with its bit 16
abbrev pub looked : Stage → Bool → Stage
looked (Sent before) true = Ready before
looked stage is_there = stage

-- after a load of OPEN, with SPI's bit
abbrev pub unshut : Stage → Bool → Stage
unshut Shut true = Idle 0
unshut stage is_open = stage

-- a status with bit 0 clear says that no operation is under way
abbrev pub free_after : Stage → ℕ → Bool → Bool
free_after (Ready before) reply free = if asks_status before && reply % 2 == 0 then true else free
free_after stage reply free = free

abbrev pub stage_after : Stage → Stage
stage_after (Ready before) = Idle 0
stage_after stage = stage

-- after a load, or a store of this word, and its answer
abbrev pub effect : World → Place → Option ℕ → ℕ → World
effect w Datum (Some word) reply = record { flash = step w.flash (Byte (word % 256)); free = w.free; stage = Sent w.flash.transfer; used = true }
effect w Datum None reply = record { flash = w.flash; free = free_after w.stage reply w.free; stage = stage_after w.stage; used = w.used }
effect w Selection (Some word) reply = record {
  flash = step w.flash (Select (word % 2 == 1));
  free = not (starts w.flash (Select (word % 2 == 1))) && w.free;
  stage = chosen_more w.stage;
  used = true;
}
effect w Control None reply = record w { stage = looked w.stage (has_bit reply 16) }
effect w Openness None reply = record w { stage = unshut w.stage (has_bit reply (unit_row unit.Spi).number) }
effect w place store reply = w

-- what may be asked: between two bytes at most two selections and deselects, and no byte before the last one's answer was taken

abbrev pub IsIdleBelow : ℕ → Stage → Type 0
IsIdleBelow n (Idle sent) = sent < n
IsIdleBelow n _ = ⊥

abbrev pub IsReady : Stage → Type 0
IsReady (Ready before) = Unit {0}
IsReady _ = ⊥

-- a command other than the one to read the status is sent only where no operation is under way
abbrev pub IsHeard : Bool → Transfer → ℕ → Type 0
IsHeard free transfer byte = transfer ≡ Opened → (byte == 0x05) ≡ false → free ≡ true

abbrev pub IsAllowed : World → Place → Option ℕ → Type 0
IsAllowed w Datum (Some word) = IsIdleBelow 3 w.stage × IsHeard w.free w.flash.transfer (word % 256)
IsAllowed w Datum None = IsReady w.stage
IsAllowed w Selection (Some word) = IsIdleBelow 2 w.stage
IsAllowed w place store = Unit {0}

-- what may be answered to a byte that was sent in this transfer

pub record IsAnswer (flash : Seen) (free : Bool) (before : Transfer) (reply : ℕ) : Type 0 where
  pub absent : flash.fitted ≡ false → reply ≡ 0
  pub other : flash.fitted ≡ true → asks_status before ≡ false → reply ≡ transfer_answer 0 flash.cells before
  pub idle : asks_status before ≡ true → free ≡ true → reply % 2 ≡ 0
  -- a status with bit 0 clear tells of write enable in bit 1, and one with bit 0 set has both bits
  pub done : flash.fitted ≡ true → asks_status before ≡ true → reply % 2 ≡ 0 → reply ≡ (if flash.writable then 2 else 0)
  pub busy : flash.fitted ≡ true → asks_status before ≡ true → reply % 2 ≡ 1 → reply ≡ 3

abbrev pub IsToldAt : World → Stage → ℕ → Type 0
IsToldAt w (Ready before) reply = IsAnswer w.flash w.free before reply
IsToldAt w stage reply = Unit {0}

-- a reply to a load is such as the flash gives
abbrev pub IsTold : World → Place → Option ℕ → ℕ → Type 0
IsTold w Datum None reply = IsToldAt w w.stage reply
IsTold w place store reply = Unit {0}
