-- Definition: the flash as it is seen from outside, with the operation under way taken as ended, and what each entry does to it.
use Rattle.std.specs.Prelude.{◌≡◌, ℕ, Bool, true, false, ◌&&◌, not, List, [], ◌∷◌, if◌then◌else◌, Option, Some, None, is_some}
use Rattle.spi_flash.specs.declared.transfer.Entry.{Entry}
use Rattle.spi_flash.specs.declared.transfer.Entry.TheVariants.{Byte, Select}
use Rattle.spi_flash.specs.declared.transfer.Transfer.{Transfer}
use Rattle.spi_flash.specs.declared.transfer.Transfer.TheVariants.{Idle}
use Rattle.spi_flash.specs.declared.transfer.Operation.{Operation}
use Rattle.spi_flash.specs.Flash.{FlashState, byte_of, cells_of, done_by, enable_after, flash_answer, followed, opened, operation_of, settled}

pub record Seen : Type 0 where
  pub fitted : Bool
  -- its bytes once no operation is under way
  pub cells : List ℕ
  -- write enable once no operation is under way
  pub writable : Bool
  pub transfer : Transfer

abbrev pub seen : FlashState → Seen
seen f = record { fitted = f.fitted; cells = settled f; writable = not (is_some f.work) && f.enable; transfer = f.transfer }

-- an operation is started where write enable is set
abbrev pub starts_by : Bool → Option Operation → Bool
starts_by writable operation = is_some operation && writable

-- the bytes once an operation that is started has ended
abbrev pub applied : Option Operation → Bool → List ℕ → List ℕ
applied (Some operation) true cells = cells_of (done_by operation (byte_of cells))
applied (Some operation) false cells = cells
applied None writable cells = cells

-- after a deselect
abbrev pub after_deselect : Seen → Transfer → Seen
after_deselect s transfer = record {
  fitted = s.fitted;
  cells = applied (operation_of transfer) s.writable s.cells;
  writable = if starts_by s.writable (operation_of transfer) then false else enable_after transfer s.writable;
  transfer = Idle;
}

abbrev pub chosen : Seen → Bool → Seen
chosen s true = record s { transfer = opened s.transfer }
chosen s false = after_deselect s s.transfer

abbrev pub step_by : Seen → Entry → Seen
step_by s (Byte byte) = record s { transfer = followed false s.transfer byte }
step_by s (Select on) = chosen s on

-- after an entry
abbrev pub step : Seen → Entry → Seen
step s entry = if s.fitted then step_by s entry else s

-- after some entries, the first one first
abbrev pub drain : Seen → List Entry → Seen
drain s [] = s
drain s (entry ∷ more) = drain (step s entry) more

abbrev pub starts_if : Seen → Entry → Bool
starts_if s (Byte byte) = false
starts_if s (Select true) = false
starts_if s (Select false) = starts_by s.writable (operation_of s.transfer)

-- whether an entry starts an operation
abbrev pub starts : Seen → Entry → Bool
starts s entry = s.fitted && starts_if s entry

-- none of these entries starts an operation
abbrev pub NoStarts : Seen → List Entry → Type 0
NoStarts s [] = Unit {0}
NoStarts s (entry ∷ more) = (starts s entry ≡ false) × NoStarts (step s entry) more

-- a flash that is seen so, with no operation under way
abbrev pub at_rest : Seen → FlashState
at_rest s = record { fitted = s.fitted; cells = s.cells; enable = s.writable; transfer = s.transfer; work = None }

-- the answer to the next byte where no operation is under way
abbrev pub answer_seen : Seen → ℕ
answer_seen s = flash_answer (at_rest s)
