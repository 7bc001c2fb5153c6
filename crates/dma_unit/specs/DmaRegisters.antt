-- A definition: what the DMA controller keeps, its registers, and what a grant does.
use Rattle.std.specs.Prelude.{ℕ, ◌+◌, ◌-◌, ◌/◌, ◌%◌, ◌^◌, ◌==◌, ◌&&◌, ◌||◌, Bool, true, false, Option, Some, None, Result, Ok, Err, if◌then◌else◌}
use Rattle.chip_base.specs.Bits.{bit_if}
use Rattle.soc_words.specs.Word.{wrapped_sum}
use Rattle.soc_bus.specs.declared.access.BusFault.{BusFault}
use Rattle.soc_bus.specs.declared.access.Request.{Request}
use Rattle.soc_bus.specs.declared.access.Width.TheVariants.{Word}
use Rattle.dma_unit.specs.declared.state.DmaState.{DmaState}
use Rattle.dma_unit.specs.declared.state.DmaState.TheVariants.{Idle, Reading, Writing, Done, Fault}

pub record DmaRegisters : Type 0 where
  -- the line is high at the end of a copy
  pub interrupt : Bool
  -- each word is read from the same address
  pub source_fixed : Bool
  -- each word is written to the same address
  pub destination_fixed : Bool
  pub state : DmaState
  -- the address of the next word to read
  pub source : ℕ
  -- the address of the next word to write
  pub destination : ℕ
  -- how many words are left
  pub count : ℕ
  -- the address of the last refused access
  pub fault : ℕ
  -- the word that was read last
  pub word : ℕ

-- the reset state
abbrev pub dma_reset : DmaRegisters
dma_reset = record {
  interrupt = false;
  source_fixed = false;
  destination_fixed = false;
  state = Idle;
  source = 0;
  destination = 0;
  count = 0;
  fault = 0;
  word = 0;
}

-- a copy is under way
abbrev pub is_busy : DmaState → Bool
is_busy Reading = true
is_busy Writing = true
is_busy other = false

-- the last copy moved all of its words
abbrev pub is_done : DmaState → Bool
is_done Done = true
is_done other = false

-- an access of the last copy was refused
abbrev pub is_fault : DmaState → Bool
is_fault Fault = true
is_fault other = false

-- a word has this bit
abbrev pub has_bit : ℕ → ℕ → Bool
has_bit word bit = word / 2 ^ bit % 2 == 1

-- CTRL as a load gives it: busy, interrupt enable, source fixed, destination fixed, done and fault
abbrev pub dma_control : DmaRegisters → ℕ
dma_control c = bit_if 0 (is_busy c.state) + bit_if 1 c.interrupt + bit_if 2 c.source_fixed + bit_if 3 c.destination_fixed
    + bit_if 8 (is_done c.state) + bit_if 9 (is_fault c.state)

-- what a load gives: CTRL at offset 0, SRC at 4, DST at 8, COUNT at 12 and FAULT at 16
abbrev pub dma_word : DmaRegisters → ℕ → ℕ
dma_word c reg =
    if reg == 0 then dma_control c
    else (if reg == 4 then c.source else (if reg == 8 then c.destination else (if reg == 12 then c.count else c.fault)))

-- the state before the first word of so many, or between two words
abbrev pub state_before : ℕ → DmaState
state_before count = if count == 0 then Done else Reading

-- a store to CTRL ends the last copy, and starts one by bit 0
abbrev pub dma_control_stored : DmaRegisters → ℕ → DmaRegisters
dma_control_stored c word = record c {
  interrupt = has_bit word 1;
  source_fixed = has_bit word 2;
  destination_fixed = has_bit word 3;
  state = if has_bit word 0 then state_before c.count else Idle;
}

-- a store while no copy is under way; FAULT can't be written
abbrev pub stored_at_rest : DmaRegisters → ℕ → ℕ → DmaRegisters
stored_at_rest c reg word =
    if reg == 0 then dma_control_stored c word
    else (if reg == 4 then record c { source = word }
    else (if reg == 8 then record c { destination = word }
    else (if reg == 12 then record c { count = word % 2 ^ 16 } else c)))

-- the registers after a store; it is ignored while a copy is under way
abbrev pub dma_stored : DmaRegisters → ℕ → ℕ → DmaRegisters
dma_stored c reg word = if is_busy c.state then c else stored_at_rest c reg word

-- a load of a word
abbrev pub load_at : ℕ → Request
load_at address = record { addr = address; width = Word; store = None }

-- a store of a word
abbrev pub store_at : ℕ → ℕ → Request
store_at address word = record { addr = address; width = Word; store = Some word }

-- the access that is wanted in a state
abbrev pub dma_wanted_in : DmaState → DmaRegisters → Option Request
dma_wanted_in Reading c = Some (load_at c.source)
dma_wanted_in Writing c = Some (store_at c.destination c.word)
dma_wanted_in other c = None

-- the access that is wanted
abbrev pub dma_wanted : DmaRegisters → Option Request
dma_wanted c = dma_wanted_in c.state c

-- the address after a word's, or the same one where it is fixed
abbrev pub address_after : Bool → ℕ → ℕ
address_after fixed address = if fixed then address else wrapped_sum address 4

-- after a load that gave a word
abbrev pub word_read : DmaRegisters → ℕ → DmaRegisters
word_read c word = record c { word = word; state = Writing }

-- after the store of a word
abbrev pub word_written : DmaRegisters → DmaRegisters
word_written c = record c {
  source = address_after c.source_fixed c.source;
  destination = address_after c.destination_fixed c.destination;
  count = c.count - 1;
  state = state_before (c.count - 1);
}

-- after a refused access to an address
abbrev pub refused_at : DmaRegisters → ℕ → DmaRegisters
refused_at c address = record c { state = Fault; fault = address }

-- after the answer to the access that is wanted in a state
abbrev pub dma_granted_in : DmaState → DmaRegisters → Result ℕ BusFault → DmaRegisters
dma_granted_in Reading c (Ok word) = word_read c word
dma_granted_in Reading c (Err why) = refused_at c c.source
dma_granted_in Writing c (Ok word) = word_written c
dma_granted_in Writing c (Err why) = refused_at c c.destination
dma_granted_in other c answer = c

-- after the answer to the access that is wanted
abbrev pub dma_granted : DmaRegisters → Result ℕ BusFault → DmaRegisters
dma_granted c answer = dma_granted_in c.state c answer

-- interrupt enable together with done or fault
abbrev pub dma_line : DmaRegisters → Bool
dma_line c = c.interrupt && (is_done c.state || is_fault c.state)
