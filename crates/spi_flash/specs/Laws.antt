-- Law: what a flash does to its bytes, what it listens to, what it answers, and how long each thing takes.
use Rattle.std.specs.Prelude.{◌≡◌, ◌==◌, ◌≤◌, ◌<◌, ℕ, zero, suc, ◌+◌, ◌*◌, ◌/◌, ◌%◌, Bool, true, false, List, [], ◌∷◌, length, get_or, Option, None, Some, is_some}
use Rattle.std.specs.Int.{bit_at}
use Rattle.chip_base.specs.declared.message.Down.{Down}
use Rattle.chip_base.specs.Messages.{credit_up, reset_in, with_word}
use Rattle.spi_flash.specs.declared.transfer.Entry.{Entry}
use Rattle.spi_flash.specs.declared.transfer.Entry.TheVariants.{Byte}
use Rattle.spi_flash.specs.declared.transfer.Transfer.TheVariants.{Idle, Opened}
use Rattle.spi_flash.specs.declared.transfer.Operation.{Operation}
use Rattle.spi_flash.specs.declared.transfer.Operation.TheVariants.{Program as Programs, Erase}
use Rattle.spi_flash.specs.Flash.{FlashState, byte_of, byte_sent, cells_of, done_by, flash_answer, flash_cycle, flash_size, operation_of, selected, status_of, time_of}
use Rattle.spi_flash.specs.SpiCycle.{SpiState, spi_cycle}
use Rattle.spi_flash.specs.UnitFlash.{with_message}

-- a cycle of a program sets no bit, and changes nothing outside the page
abbrev pub OnlyClears : FlashState → Type 0
OnlyClears f = (left address : ℕ) (page : List ℕ) → f.work ≡ Some (record { left = left; operation = Programs address page }) → (i : ℕ) → i < flash_size
    → ((place : ℕ) → bit_at (byte_of (flash_cycle f).cells i) place ≤ bit_at (byte_of f.cells i) place)
    × ((i / 256 == address / 256) ≡ false → byte_of (flash_cycle f).cells i ≡ byte_of f.cells i)

-- the last cycle of an erase makes the block ff, and none changes anything outside the block
abbrev pub OnlyErases : FlashState → Type 0
OnlyErases f = (left size address : ℕ) → f.work ≡ Some (record { left = left; operation = Erase size address }) → (i : ℕ) → i < flash_size
    → (left ≡ 1 → (i / size == address / size) ≡ true → byte_of (flash_cycle f).cells i ≡ 255)
    × ((i / size == address / size) ≡ false → byte_of (flash_cycle f).cells i ≡ byte_of f.cells i)

-- a cycle in which no operation ends changes no byte
abbrev pub KeepsCells : FlashState → Type 0
KeepsCells f = is_some (flash_cycle f).work ≡ is_some f.work → (flash_cycle f).cells ≡ f.cells

-- at the end of an operation write enable is gone
abbrev pub DisablesAtEnd : FlashState → Type 0
DisablesAtEnd f = is_some f.work ≡ true → (flash_cycle f).work ≡ None → (flash_cycle f).enable ≡ false

-- after so many cycles
abbrev pub cycled : FlashState → ℕ → FlashState
cycled f zero = f
cycled f (suc n) = flash_cycle (cycled f n)

-- an operation that a deselect starts leaves the bytes as they are for less than its time, and is done exactly then
abbrev pub TakesItsTime : FlashState → Type 0
TakesItsTime f = (operation : Operation) → f.fitted ≡ true → f.enable ≡ true → operation_of f.transfer ≡ Some operation → (n : ℕ)
    → (n < time_of operation → ((cycled (selected f false) n).cells ≡ f.cells) × (is_some (cycled (selected f false) n).work ≡ true))
    × (n ≡ time_of operation
    → cycled (selected f false) n ≡ record f { cells = cells_of (done_by operation (byte_of f.cells)); enable = false; transfer = Idle; work = None })

-- without write enable a deselect starts nothing, and no selection changes a byte
abbrev pub StartsWhereEnabled : FlashState → Bool → Type 0
StartsWhereEnabled f on = (f.enable ≡ false → (selected f on).work ≡ f.work) × ((selected f on).cells ≡ f.cells)

-- a byte alone changes no byte, starts nothing and leaves write enable as it was
abbrev pub OnlyListens : FlashState → ℕ → Type 0
OnlyListens f byte = ((byte_sent f byte).cells ≡ f.cells) × ((byte_sent f byte).work ≡ f.work) × ((byte_sent f byte).enable ≡ f.enable)

-- after bytes and cycles, in this order: a cycle is None
abbrev pub later : FlashState → List (Option ℕ) → FlashState
later f [] = f
later f (None ∷ more) = later (flash_cycle f) more
later f (Some byte ∷ more) = later (byte_sent f byte) more

-- a command that is sent while an operation is under way, but the one to read the status, does nothing until the flash is deselected,
-- whatever comes after it, also once the operation has ended: each byte is answered ff, and the deselect starts nothing
abbrev pub IgnoresWhileBusy : FlashState → ℕ → Type 0
IgnoresWhileBusy f byte = f.fitted ≡ true → f.transfer ≡ Opened → is_some f.work ≡ true → (byte == 0x05) ≡ false → (more : List (Option ℕ))
    → (flash_answer (later (byte_sent f byte) more) ≡ 255)
    × (selected (later (byte_sent f byte) more) false ≡ record (later (byte_sent f byte) more) { transfer = Idle })

-- after these bytes
abbrev pub after_bytes : FlashState → List ℕ → FlashState
after_bytes f [] = f
after_bytes f (byte ∷ more) = after_bytes (byte_sent f byte) more

-- a read answers the bytes from its address on, one after another, and goes on at the beginning
abbrev pub ReadsOn : FlashState → Type 0
ReadsOn f = f.fitted ≡ true → f.transfer ≡ Opened → f.work ≡ None → (a b c : ℕ) (more : List ℕ)
    → flash_answer (after_bytes f (0x03 ∷ a ∷ b ∷ c ∷ more)) ≡ byte_of f.cells ((a * 65536 + b * 256 + c + length more) % flash_size)

-- the name is three bytes, and then 00
abbrev pub Identifies : FlashState → Type 0
Identifies f = f.fitted ≡ true → f.transfer ≡ Opened → f.work ≡ None → (more : List ℕ)
    → flash_answer (after_bytes f (0x9f ∷ more)) ≡ get_or (0xef ∷ 0x40 ∷ 0x17 ∷ []) (length more) 0

-- the bytes among bytes and cycles
abbrev pub bytes_among : List (Option ℕ) → List ℕ
bytes_among [] = []
bytes_among (None ∷ more) = bytes_among more
bytes_among (Some byte ∷ more) = byte ∷ bytes_among more

-- where no operation is under way, the cycles between bytes change nothing
abbrev pub IgnoresCycles : FlashState → Type 0
IgnoresCycles f = f.work ≡ None → (more : List (Option ℕ)) → later f more ≡ after_bytes f (bytes_among more)

-- each byte after the command to read the status is answered the status of its cycle, also while an operation is under way
abbrev pub TellsStatus : FlashState → Type 0
TellsStatus f = f.fitted ≡ true → f.transfer ≡ Opened → (more : List (Option ℕ))
    → flash_answer (later (byte_sent f 0x05) more) ≡ status_of (later (byte_sent f 0x05) more)

-- no message is a Reset
abbrev pub NoReset : List (Option Down) → Type 0
NoReset [] = Unit {0}
NoReset (down ∷ more) = (reset_in down ≡ 0) × NoReset more

-- the unit after a cycle for each of these messages
abbrev pub spi_after : SpiState → List (Option Down) → SpiState
spi_after s [] = s
spi_after s (down ∷ more) = spi_after (spi_cycle s 0 down).unit more

-- a byte that runs is exchanged in the last of its cycles, whatever comes but a Reset: then the flash's answer goes up with a credit, and
-- nothing goes up before
abbrev pub AnswersInTime : SpiState → Type 0
AnswersInTime s = (byte : ℕ) (rest : List Entry) → s.queue ≡ Byte byte ∷ rest → 1 ≤ s.left → (before : List (Option Down)) (last : Option Down) (now : ℕ)
    → NoReset before → reset_in last ≡ 0
    → (length before + 1 < s.left → (spi_cycle (spi_after s before) now last).up ≡ None)
    × (length before + 1 ≡ s.left
    → (spi_cycle (spi_after s before) now last).up ≡ Some (with_word credit_up (flash_answer (flash_cycle (spi_after s before).flash))))

-- a byte that stands first once the cycle's message was taken begins at once in an enabled unit where none runs, and takes the unit's time
-- from this cycle on
abbrev pub BeginsAtOnce : SpiState → ℕ → Option Down → Type 0
BeginsAtOnce s now down = (byte : ℕ) (rest : List Entry) → reset_in down ≡ 0 → (with_message s down).queue ≡ Byte byte ∷ rest → (with_message s down).enabled ≡ true
    → (with_message s down).left ≡ 0 → spi_cycle s now down ≡ spi_cycle (record (with_message s down) { left = (with_message s down).time }) now None

-- what holds of each cycle of a flash
pub record HoldsOfCycle (f : FlashState) : Type 0 where
  pub program : OnlyClears f
  pub erase : OnlyErases f
  pub between : KeepsCells f
  pub end : DisablesAtEnd f

-- what holds of each selection and deselect
pub record HoldsOfSelection (f : FlashState) (on : Bool) : Type 0 where
  pub enable : StartsWhereEnabled f on
  pub time : TakesItsTime f

-- what holds of each byte that is sent
pub record HoldsOfByte (f : FlashState) (byte : ℕ) : Type 0 where
  pub listens : OnlyListens f byte
  pub busy : IgnoresWhileBusy f byte

-- what holds of the answers from a selection on
pub record HoldsOfAnswers (f : FlashState) : Type 0 where
  pub reads : ReadsOn f
  pub identity : Identifies f
  pub status : TellsStatus f
  pub cycles : IgnoresCycles f

-- what holds of the time of a byte
pub record HoldsOfTime (s : SpiState) : Type 0 where
  pub begins : (now : ℕ) (down : Option Down) → BeginsAtOnce s now down
  pub answers : AnswersInTime s
