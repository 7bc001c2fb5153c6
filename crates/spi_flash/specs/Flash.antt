-- Definition: the flash, and what each thing that is sent to it does.
use Rattle.std.specs.Prelude.{◌==◌, ℕ, ◌+◌, ◌-◌, ◌*◌, ◌/◌, ◌%◌, ◌^◌, Bool, true, false, ◌&&◌, not, List, [], ◌∷◌, slice_index_or, slice_set, replicate, map, get_or, nat_lt, if◌then◌else◌, bit_and, Option, Some, None, is_some}
use Rattle.std.specs.List.{range_with_len}
use Rattle.spi_flash.specs.declared.transfer.Transfer.{Transfer}
use Rattle.spi_flash.specs.declared.transfer.Transfer.TheVariants.{Idle, Ignored, Opened, Command, Read, Program}
use Rattle.spi_flash.specs.declared.transfer.Operation.{Operation}
use Rattle.spi_flash.specs.declared.transfer.Operation.TheVariants.{Program as Programs, Erase}
use Rattle.spi_flash.specs.declared.transfer.UnderWay.{UnderWay}

pub record FlashState : Type 0 where
  pub fitted : Bool
  -- its bytes, the one at address 0 first
  pub cells : List ℕ
  -- write enable
  pub enable : Bool
  pub transfer : Transfer
  pub work : Option UnderWay

-- the number of bytes
abbrev pub flash_size : ℕ
flash_size = 2 ^ 23

-- the byte at an address
abbrev pub byte_of : List ℕ → (ℕ → ℕ)
byte_of cells = λ i. slice_index_or cells i 255

-- the bytes of a flash, by what stands at each address
unfoldable pub cells_of : (ℕ → ℕ) → List ℕ
cells_of f = map f (range_with_len 0 flash_size)

-- the byte that is shown at an address: none where no flash is fitted, or past its end
abbrev pub flash_at : FlashState → ℕ → Option ℕ
flash_at f address = if f.fitted && nat_lt address flash_size then Some (byte_of f.cells address) else None

-- a page of which no byte is kept
unfoldable pub blank : List ℕ
blank = replicate 256 255

-- the page that holds an address loses the bits that are 0 in these bytes
abbrev pub programmed : ℕ → List ℕ → (ℕ → ℕ) → (ℕ → ℕ)
programmed address page cells = λ i. if i / 256 == address / 256 then bit_and (cells i) (slice_index_or page (i % 256) 255) else cells i

-- the block of this many bytes that holds an address becomes ff
abbrev pub erased : ℕ → ℕ → (ℕ → ℕ) → (ℕ → ℕ)
erased size address cells = λ i. if i / size == address / size then 255 else cells i

-- the byte at each address once an operation has ended
abbrev pub done_by : Operation → (ℕ → ℕ) → (ℕ → ℕ)
done_by (Programs address page) cells = programmed address page cells
done_by (Erase size address) cells = erased size address cells

-- how many cycles an operation takes
abbrev pub time_of : Operation → ℕ
time_of (Programs address page) = 6400
time_of (Erase size address) = if size == 4096 then 64000 else 320000

-- the commands to erase a block of 4 KiB, and one of 64 KiB
abbrev pub erase_of : ℕ → ℕ → Option Operation
erase_of code address = if code == 0x20 then Some (Erase 4096 address) else if code == 0xd8 then Some (Erase 65536 address) else None

-- what a transfer starts when it ends, where write enable is set: an erase with its address, a program with a byte
abbrev pub operation_of : Transfer → Option Operation
operation_of (Command code count address) = if count == 3 then erase_of code (address % flash_size) else None
operation_of (Program address page at filled) = if filled then Some (Programs address page) else None
operation_of _ = None

-- write enable once a transfer has ended
abbrev pub enable_after : Transfer → Bool → Bool
enable_after (Command code count address) enable = if code == 0x06 then true else if code == 0x04 then false else enable
enable_after _ enable = enable

abbrev pub started : Option Operation → Bool → Option UnderWay → Option UnderWay
started None enable old = old
started (Some operation) enable old = if enable then Some (record { left = time_of operation; operation = operation }) else old

-- the flash is deselected
abbrev pub deselected : FlashState → FlashState
deselected f = record f {
  transfer = Idle;
  enable = enable_after f.transfer f.enable;
  work = started (operation_of f.transfer) f.enable f.work;
}

-- a transfer begins, unless one is under way
abbrev pub opened : Transfer → Transfer
opened Idle = Opened
opened transfer = transfer

-- an entry that selects or deselects; a flash that isn't fitted does nothing
abbrev pub selected : FlashState → Bool → FlashState
selected f on = if f.fitted then (if on then record f { transfer = opened f.transfer } else deselected f) else f

-- the third byte after a command
abbrev pub addressed : ℕ → ℕ → Transfer
addressed code address =
    if code == 0x03 then Read (address % flash_size)
    else if code == 0x02 then Program (address % flash_size) blank (address % 256) false
    else Command code 3 address

-- a byte after a command
abbrev pub commanded : ℕ → ℕ → ℕ → ℕ → Transfer
commanded code count address byte =
    if nat_lt count 2 then Command code (count + 1) (address * 256 + byte)
    else if count == 2 then addressed code (address * 256 + byte)
    else Command code count address

-- the first byte is the command; one that comes while an operation is under way isn't followed, but the command to read the status
abbrev pub command_in : Bool → ℕ → Transfer
command_in busy code = if busy && not (code == 0x05) then Ignored else Command code 0 0

-- a transfer with one byte more
abbrev pub followed : Bool → Transfer → ℕ → Transfer
followed busy Idle byte = Idle
followed busy Ignored byte = Ignored
followed busy Opened byte = command_in busy byte
followed busy (Command code count address) byte = commanded code count address byte
followed busy (Read at) byte = Read ((at + 1) % flash_size)
followed busy (Program address page at filled) byte = Program address (slice_set page at byte) ((at + 1) % 256) true

-- a byte is sent
abbrev pub byte_sent : FlashState → ℕ → FlashState
byte_sent f byte = if f.fitted then record f { transfer = followed (is_some f.work) f.transfer byte } else f

-- the flash's name: its maker and its kind
abbrev pub identity : ℕ → ℕ
identity place = get_or (0xef ∷ 0x40 ∷ 0x17 ∷ []) place 0

-- bit 0 while an operation is under way, bit 1 for write enable
abbrev pub status_of : FlashState → ℕ
status_of f = (if is_some f.work then 1 else 0) + (if f.enable then 2 else 0)

-- the answer to a byte that comes in a transfer
abbrev pub transfer_answer : ℕ → List ℕ → Transfer → ℕ
transfer_answer status cells (Command code count address) = if code == 0x05 then status else if code == 0x9f then identity count else 255
transfer_answer status cells (Read at) = byte_of cells at
transfer_answer status cells _ = 255

-- the answer to the next byte
abbrev pub flash_answer : FlashState → ℕ
flash_answer f = if f.fitted then transfer_answer (status_of f) f.cells f.transfer else 0

-- an operation loses one cycle; in its last one it is done, and write enable is gone
abbrev pub worked : FlashState → Option UnderWay → FlashState
worked f None = f
worked f (Some w) =
    if w.left == 1 then record f { cells = cells_of (done_by w.operation (byte_of f.cells)); enable = false; work = None }
    else record f { work = Some (record { left = w.left - 1; operation = w.operation }) }

-- one cycle
abbrev pub flash_cycle : FlashState → FlashState
flash_cycle f = worked f f.work

-- the transfer is broken off: what it would start isn't started
abbrev pub broken_off : FlashState → FlashState
broken_off f = record f { transfer = Idle }

-- at power-on each byte is ff
abbrev pub flash_start : Bool → FlashState
flash_start fitted = record { fitted = fitted; cells = cells_of (λ i. 255); enable = false; transfer = Idle; work = None }

-- the bytes once the operation under way has ended
abbrev pub settled_by : List ℕ → Option UnderWay → List ℕ
settled_by cells None = cells
settled_by cells (Some w) = cells_of (done_by w.operation (byte_of cells))

abbrev pub settled : FlashState → List ℕ
settled f = settled_by f.cells f.work
