-- Law: each entry and each cycle does to a flash what it does to the flash as it is seen from outside, and what a whole command does.
use Rattle.std.specs.Prelude.{◌≡◌, ◌==◌, ℕ, ◌+◌, ◌*◌, ◌%◌, Bool, true, false, List, [], ◌∷◌, length, get_or, if◌then◌else◌, None, is_some}
use Rattle.spi_flash.specs.declared.transfer.Entry.{Entry}
use Rattle.spi_flash.specs.declared.transfer.Entry.TheVariants.{Byte, Select}
use Rattle.spi_flash.specs.declared.transfer.Transfer.{Transfer}
use Rattle.spi_flash.specs.declared.transfer.Transfer.TheVariants.{Idle, Opened, Command, Read, Program}
use Rattle.spi_flash.specs.Flash.{FlashState, broken_off, byte_of, byte_sent, flash_answer, flash_cycle, flash_size, selected}
use Rattle.flash_seen.specs.Seen.{NoStarts, Seen, answer_seen, drain, seen, starts, step}
use Rattle.flash_seen.specs.Commands.{after_command, bytes_sent, whole_command}

-- a transfer in which nothing was sent, that isn't followed, or that asks for the status
abbrev pub is_passive : Transfer → Bool
is_passive (Command code count address) = code == 0x05
is_passive (Read at) = false
is_passive (Program address page at filled) = false
is_passive transfer = true

abbrev pub asks_status : Transfer → Bool
asks_status (Command code count address) = code == 0x05
asks_status _ = false

-- while an operation is under way no command but the one to read the status is followed
pub record IsCalm (f : FlashState) : Type 0 where
  pub passive : is_some f.work ≡ true → is_passive f.transfer ≡ true
  -- write enable is set until it ends
  pub enabled : is_some f.work ≡ true → f.enable ≡ true
  pub unfit : f.fitted ≡ false → f.work ≡ None

-- a command other than the one to read the status comes only where no operation is under way
abbrev pub IsFollowed : FlashState → ℕ → Type 0
IsFollowed f byte = f.transfer ≡ Opened → (byte == 0x05) ≡ false → f.work ≡ None

-- calm from power-on on, whatever is done
pub record StaysCalm (f : FlashState) : Type 0 where
  pub cycle : IsCalm f → IsCalm (flash_cycle f)
  pub selection : (on : Bool) → IsCalm f → IsCalm (selected f on)
  pub byte : (byte : ℕ) → IsCalm f → IsCalm (byte_sent f byte)
  pub reset : IsCalm f → IsCalm (broken_off f)

-- what is done to the flash, and to the flash as it is seen
pub record SeesAll (f : FlashState) : Type 0 where
  pub cycle : seen (flash_cycle f) ≡ seen f
  pub selection : (on : Bool) → IsCalm f → seen (selected f on) ≡ step (seen f) (Select on)
  pub byte : (byte : ℕ) → IsFollowed f byte → seen (byte_sent f byte) ≡ step (seen f) (Byte byte)
  pub reset : seen (broken_off f) ≡ record (seen f) { transfer = Idle }
  -- where no operation was under way, one is after a selection exactly where it starts one
  pub starts : (on : Bool) → f.work ≡ None → is_some (selected f on).work ≡ starts (seen f) (Select on)

-- a flash after an entry, and after some entries, the first one first
abbrev pub after_entry : FlashState → Entry → FlashState
after_entry f (Byte byte) = byte_sent f byte
after_entry f (Select on) = selected f on

abbrev pub after_entries : FlashState → List Entry → FlashState
after_entries f [] = f
after_entries f (entry ∷ more) = after_entries (after_entry f entry) more

-- where no operation is under way and none of some entries starts one, they do what they do to the flash as it is seen
abbrev pub DrainsAsSeen : FlashState → Type 0
DrainsAsSeen f = f.work ≡ None → (entries : List Entry) → NoStarts (seen f) entries
    → ((after_entries f entries).work ≡ None) × (seen (after_entries f entries) ≡ drain (seen f) entries)

-- answers other than the status are as if no operation were under way, and so is a status with bit 0 clear: then there is none. A status with
-- bit 0 set has bit 1 set too
pub record AnswersAsSeen (f : FlashState) : Type 0 where
  pub other : IsCalm f → asks_status f.transfer ≡ false → flash_answer f ≡ answer_seen (seen f)
  pub status : f.fitted ≡ true → asks_status f.transfer ≡ true → flash_answer f % 2 ≡ 0 → (f.work ≡ None) × (flash_answer f ≡ answer_seen (seen f))
  pub busy : IsCalm f → f.fitted ≡ true → asks_status f.transfer ≡ true → flash_answer f % 2 ≡ 1 → flash_answer f ≡ 3

-- a whole command does what its bytes say
abbrev pub DoesCommands : Seen → Type 0
DoesCommands s = s.fitted ≡ true → s.transfer ≡ Idle → (bytes : List ℕ) → drain s (whole_command bytes) ≡ after_command s bytes

-- and so it does to a flash, once the operation that it starts has ended
abbrev pub DoesCommandsToFlash : FlashState → Type 0
DoesCommandsToFlash f = f.fitted ≡ true → f.transfer ≡ Idle → f.work ≡ None → (bytes : List ℕ)
    → seen (after_entries f (whole_command bytes)) ≡ after_command (seen f) bytes

-- the answer to the byte after these, from a selection on
abbrev pub answer_after : Seen → List ℕ → ℕ
answer_after s bytes = answer_seen (drain s (Select true ∷ bytes_sent bytes))

-- what answers the bytes of a command
pub record AnswersCommands (s : Seen) : Type 0 where
  pub reads : s.fitted ≡ true → s.transfer ≡ Idle → (a b c : ℕ) (more : List ℕ)
      → answer_after s (0x03 ∷ a ∷ b ∷ c ∷ more) ≡ byte_of s.cells ((a * 65536 + b * 256 + c + length more) % flash_size)
  pub identity : s.fitted ≡ true → s.transfer ≡ Idle → (more : List ℕ)
      → answer_after s (0x9f ∷ more) ≡ get_or (0xef ∷ 0x40 ∷ 0x17 ∷ []) (length more) 0
  pub status : s.fitted ≡ true → s.transfer ≡ Idle → (more : List ℕ) → answer_after s (0x05 ∷ more) ≡ (if s.writable then 2 else 0)
