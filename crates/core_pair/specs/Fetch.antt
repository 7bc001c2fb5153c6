-- A definition: fetching an instruction half by half.
use Rattle.std.specs.Prelude.{◌==◌, ℕ, ◌+◌, ◌*◌, ◌^◌, Option, Some, None, Result, Ok, Err, if◌then◌else◌}
use Rattle.soc_words.specs.Word.{wrapped_sum}
use Rattle.soc_bus.specs.Memory.{MemoryState, load_of}
use Rattle.soc_bus.specs.declared.access.BusFault.{BusFault}
use Rattle.soc_bus.specs.declared.access.Width.TheVariants.{Half}
use Rattle.rv_decode.specs.Parcels.{length_of}
use Rattle.core_pair.specs.declared.fetch.Fetched.{Fetched}
use Rattle.core_pair.specs.declared.fetch.Fetched.TheVariants.{Absent, Parcel, Word}

-- the half that a load gave
abbrev pub half_in : Result ℕ BusFault → Option ℕ
half_in (Ok value) = Some value
half_in (Err fault) = None

-- the half at an address, if a memory has it
unfoldable pub half_at : MemoryState → ℕ → Option ℕ
half_at m address = half_in (load_of m address Half)

-- an instruction of 32 bits, by its second half at an address
abbrev pub word_with : ℕ → ℕ → Option ℕ → Fetched
word_with low address None = Absent address
word_with low address (Some high) = Word (high * 2 ^ 16 + low)

-- what stands at an address, by its first half
abbrev pub fetched_by : MemoryState → ℕ → Option ℕ → Fetched
fetched_by m address None = Absent address
fetched_by m address (Some low) =
    if length_of low == 2 then Parcel low
    else word_with low (wrapped_sum address 2) (half_at m (wrapped_sum address 2))

-- what stands at an address: the first half that isn't there, a parcel or a word
unfoldable pub fetched_at : MemoryState → ℕ → Fetched
fetched_at m address = fetched_by m address (half_at m address)
