-- A definition: the two memories as a map from addresses to bytes.
use Rattle.std.specs.Prelude.{◌≡◌, ℕ, ◌+◌, ◌-◌, ◌%◌, ◌^◌, ◌≤◌, nat_le, ◌==◌, List, [], ◌++◌, length, take, drop, replicate, slice_range, Option, Some, None, Result, Ok, Err, if◌then◌else◌}
use Rattle.std.specs.List.{slice_get}
use Rattle.std.specs.Int.{w8, w16, w32, from_le_bytes, to_le_bytes}
use Rattle.soc_bus.specs.Access.{width_bytes}
use Rattle.soc_bus.specs.declared.access.BusFault.{BusFault}
use Rattle.soc_bus.specs.declared.access.BusFault.TheVariants.{Misaligned, Unmapped}
use Rattle.soc_bus.specs.declared.access.Region.{Region}
use Rattle.soc_bus.specs.declared.access.Region.TheVariants.{Imem, Dmem}
use Rattle.soc_bus.specs.declared.access.Width.{Width}
use Rattle.soc_bus.specs.declared.access.Width.TheVariants.{Byte, Half, Word}

-- the bytes of each memory
pub record MemoryState : Type 0 where
  pub imem : List ℕ
  pub dmem : List ℕ

-- a number of bytes that a memory may have
pub record IsSize (size : ℕ) : Type 0 where
  pub from : 4096 ≤ size
  pub to : size ≤ 1048576
  pub pages : size % 4096 ≡ 0

-- so many zero bytes
unfoldable pub zeros : ℕ → List ℕ
zeros n = replicate n 0

-- the byte at an address, if one is there: IMEM begins at 0 and DMEM at 2 ^ 31
abbrev pub byte_at : MemoryState → ℕ → Option ℕ
byte_at m address =
    if nat_le (2 ^ 31) address then slice_get m.dmem (address - 2 ^ 31) else slice_get m.imem address

-- the memory that has all of `count` bytes from an address on, and the first one's place in it
abbrev pub place_of : MemoryState → ℕ → ℕ → Option (Region × ℕ)
place_of m address count =
    if nat_le (2 ^ 31) address then
    (if nat_le (address - 2 ^ 31 + count) (length m.dmem) then Some (Dmem, address - 2 ^ 31) else None)
    else (if nat_le (address + count) (length m.imem) then Some (Imem, address) else None)

-- the bytes of a memory
abbrev pub held_by : MemoryState → Region → List ℕ
held_by m Imem = m.imem
held_by m Dmem = m.dmem
held_by m other = []

-- the memories with other bytes in one of them
abbrev pub put_in : MemoryState → Region → List ℕ → MemoryState
put_in m Imem bytes = record m { imem = bytes }
put_in m Dmem bytes = record m { dmem = bytes }
put_in m other bytes = m

-- the number whose bytes these are, low byte first
abbrev pub value_in : Width → List ℕ → ℕ
value_in Byte bytes = from_le_bytes w8 bytes
value_in Half bytes = from_le_bytes w16 bytes
value_in Word bytes = from_le_bytes w32 bytes

-- the low bytes of a word, low byte first
abbrev pub low_bytes : Width → ℕ → List ℕ
low_bytes width word = take (width_bytes width) (to_le_bytes w32 word)

-- the bytes with new ones from a place on
abbrev pub with_bytes : List ℕ → ℕ → List ℕ → List ℕ
with_bytes bytes at new = take at bytes ++ new ++ drop (at + length new) bytes

-- what a load finds at a place
abbrev pub loaded_at : MemoryState → Width → Option (Region × ℕ) → Result ℕ BusFault
loaded_at m width None = Err Unmapped
loaded_at m width (Some p) = Ok (value_in width (slice_range (held_by m p.0) p.1 (p.1 + width_bytes width)))

-- what a load gives: a value with zeros above it, or a refusal
abbrev pub load_of : MemoryState → ℕ → Width → Result ℕ BusFault
load_of m address width =
    if address % width_bytes width == 0 then loaded_at m width (place_of m address (width_bytes width))
    else Err Misaligned

-- the memories after a store at a place
abbrev pub stored_at : MemoryState → Width → ℕ → Option (Region × ℕ) → Result MemoryState BusFault
stored_at m width value None = Err Unmapped
stored_at m width value (Some p) = Ok (put_in m p.0 (with_bytes (held_by m p.0) p.1 (low_bytes width value)))

-- the memories after a store, or a refusal
abbrev pub store_of : MemoryState → ℕ → Width → ℕ → Result MemoryState BusFault
store_of m address width value =
    if address % width_bytes width == 0 then stored_at m width value (place_of m address (width_bytes width))
    else Err Misaligned
