-- Definition: what a whole command does, by its bytes from a selection to the deselect.
use Rattle.std.specs.Prelude.{◌==◌, ℕ, ◌+◌, ◌*◌, ◌/◌, ◌%◌, true, false, List, [], ◌∷◌, ◌++◌, map, bit_and, if◌then◌else◌}
use Rattle.spi_flash.specs.declared.transfer.Entry.{Entry}
use Rattle.spi_flash.specs.declared.transfer.Entry.TheVariants.{Byte, Select}
use Rattle.spi_flash.specs.Flash.{byte_of, cells_of, erased, flash_size}
use Rattle.flash_seen.specs.Seen.{Seen}

-- these bytes, one after another
abbrev pub bytes_sent : List ℕ → List Entry
bytes_sent bytes = map (λ byte. Byte byte) bytes

-- the entries of a whole command
abbrev pub whole_command : List ℕ → List Entry
whole_command bytes = Select true ∷ (bytes_sent bytes ++ Select false ∷ [])

-- the address that three bytes make, the first one highest
abbrev pub address_by : ℕ → ℕ → ℕ → ℕ
address_by a b c = (a * 65536 + b * 256 + c) % flash_size

-- the last of some bytes that fall on a place of a page, where the first one falls on another place and each further one on the next,
-- going on at the beginning; and what was there before where none does
abbrev pub last_on : ℕ → ℕ → List ℕ → ℕ → ℕ
last_on place at [] before = before
last_on place at (byte ∷ more) before = last_on place ((at + 1) % 256) more (if at == place then byte else before)

-- the bytes once a page was programmed from an address on
abbrev pub page_programmed : ℕ → List ℕ → (ℕ → ℕ) → (ℕ → ℕ)
page_programmed address bytes cells =
    λ i. if i / 256 == address / 256 then bit_and (cells i) (last_on (i % 256) (address % 256) bytes 255) else cells i

-- after a program with its address and at least one byte
abbrev pub programmed_by : Seen → List ℕ → Seen
programmed_by s (a ∷ b ∷ c ∷ first ∷ more) =
    if s.writable then record s { cells = cells_of (page_programmed (address_by a b c) (first ∷ more) (byte_of s.cells)); writable = false } else s
programmed_by s _ = s

-- after an erase of a block of this many bytes with its address
abbrev pub erased_by : ℕ → Seen → List ℕ → Seen
erased_by size s (a ∷ b ∷ c ∷ more) = if s.writable then record s { cells = cells_of (erased size (address_by a b c) (byte_of s.cells)); writable = false } else s
erased_by size s _ = s

-- after a command and what comes with it
abbrev pub commanded_by : Seen → ℕ → List ℕ → Seen
commanded_by s code more =
    if code == 0x06 then record s { writable = true }
    else if code == 0x04 then record s { writable = false }
    else if code == 0x02 then programmed_by s more
    else if code == 0x20 then erased_by 4096 s more
    else if code == 0xd8 then erased_by 65536 s more
    else s

-- after a whole command, by its bytes
abbrev pub after_command : Seen → List ℕ → Seen
after_command s [] = s
after_command s (code ∷ more) = commanded_by s code more
