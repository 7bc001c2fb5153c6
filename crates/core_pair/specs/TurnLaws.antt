-- The words of laws over definitions: when a core acts in a turn, when a turn is counted, and what a turn without an act leaves.
use Rattle.std.specs.Prelude.{◌==◌, ◌≢◌, ℕ, ◌-◌, Bool, true, false, ◌&&◌, ◌||◌, Option, Some, None, IfSome, is_some}
use Rattle.std.specs.Option.{option_and_then}
use Rattle.csr_file.specs.Table.{csr_row}
use Rattle.csr_file.specs.Traps.{wakes_in}
use Rattle.csr_file.specs.declared.names.Csr.TheVariants.{Mcycle, Mcycleh}
use Rattle.soc_words.specs.Word.{wrapped_sum}
use Rattle.soc_bus.specs.Memory.{MemoryState}
use Rattle.rv_decode.specs.Parcels.{expanded, length_of}
use Rattle.rv_decode.specs.Rows.{decoded}
use Rattle.rv_decode.specs.declared.instr.Instr.{Instr}
use Rattle.core_pair.specs.Core.{CoreState}
use Rattle.core_pair.specs.Execute.{exec, illegal}
use Rattle.core_pair.specs.Fetch.{half_at}
use Rattle.core_pair.specs.Hart.{HartState}
use Rattle.core_pair.specs.declared.fetch.Fetched.{Fetched}
use Rattle.core_pair.specs.declared.fetch.Fetched.TheVariants.{Absent, Parcel, Word}
use Rattle.core_pair.specs.declared.phase.Phase.{Phase}
use Rattle.core_pair.specs.declared.phase.Phase.TheVariants.{Run, Sleep, Parked, Monitor}

-- mcycle counts the turns of this phase: all but those of a parked core and of one in whose place the monitor stands
abbrev pub counts_turns : Phase → Bool
counts_turns Parked = false
counts_turns Monitor = false
counts_turns _ = true

abbrev pub acts_in : CoreState → ℕ → Phase → Bool
acts_in c mip (Run left) = left == 0
acts_in c mip (Sleep left) = (left == 0) && wakes_in c.csrs mip
acts_in c mip _ = false

-- the core acts: it isn't busy, and where it sleeps its wait is over and some interrupt is pending
abbrev pub acts : CoreState → ℕ → Bool
acts c mip = acts_in c mip c.phase

-- the phase after a turn in which the core doesn't act
abbrev pub waited : Phase → Phase
waited (Run left) = Run (left - 1)
waited (Sleep left) = Sleep (left - 1)
waited p = p

abbrev pub is_whole_by : MemoryState → ℕ → Option ℕ → Bool
is_whole_by m address None = false
is_whole_by m address (Some low) = (length_of low == 2) || is_some (half_at m (wrapped_sum address 2))

-- the halves of the instruction at an address are all there
abbrev pub is_whole : MemoryState → ℕ → Bool
is_whole m address = is_whole_by m address (half_at m address)

-- the instruction that was fetched
abbrev pub instr_in : Fetched → Option Instr
instr_in (Absent address) = None
instr_in (Parcel parcel) = option_and_then decoded (expanded parcel)
instr_in (Word word) = decoded word

-- the instruction that was fetched, if there is one, names neither half of mcycle
abbrev pub NamesNoMcycle : Fetched → Type 0
NamesNoMcycle fetched = IfSome (instr_in fetched) (λ i. (i.csr ≢ (csr_row Mcycle).number) × (i.csr ≢ (csr_row Mcycleh).number))

-- the word by which an instruction that was fetched is known: a parcel has zeros above
abbrev pub word_in : Fetched → ℕ
word_in (Absent address) = 0
word_in (Parcel parcel) = parcel
word_in (Word word) = word

-- the bytes of the instruction that was fetched
abbrev pub length_in : Fetched → ℕ
length_in (Absent address) = 0
length_in (Parcel parcel) = 2
length_in (Word word) = 4

abbrev pub hart_after_by : HartState → ℕ → ℕ → ℕ → Option Instr → HartState
hart_after_by h word next mip None = (illegal h word).hart
hart_after_by h word next mip (Some i) = (exec h i word next mip i.op).hart

-- a hart after the instruction that was fetched, whatever the phase of its core becomes
abbrev pub hart_after : HartState → ℕ → Fetched → HartState
hart_after h mip fetched = hart_after_by h (word_in fetched) (wrapped_sum h.pc (length_in fetched)) mip (instr_in fetched)
