-- A definition: the address map.
use Rattle.std.specs.Prelude.{◌≡◌, ℕ, ◌+◌, ◌-◌, ◌*◌, ◌/◌, ◌%◌, ◌^◌, ◌==◌, ◌&&◌, nat_le, nat_lt, not, Bool, true, false, List, [], ◌∷◌, ◌++◌, flat_map, map, Option, Some, None, Result, Ok, Err, if◌then◌else◌}
use Rattle.std.specs.Option.{is_some, MatchOption}
use Rattle.chip_base.specs.UnitTable.{all_parts, all_units, part_row, unit_row}
use Rattle.chip_base.specs.declared.chip_unit.ChipUnit.{ChipUnit}
use Rattle.chip_base.specs.declared.chip_unit.HubPart.{HubPart}
use Rattle.chip_base.specs.declared.chip_unit.HubPart.TheVariants as part
use Rattle.soc_bus.specs.Access.{width_bytes}
use Rattle.soc_bus.specs.Memory.{MemoryState, place_of}
use Rattle.soc_bus.specs.declared.access.BusFault.{BusFault}
use Rattle.soc_bus.specs.declared.access.BusFault.TheVariants.{Misaligned, Unmapped, Narrow}
use Rattle.soc_bus.specs.declared.access.Region.{Region}
use Rattle.soc_bus.specs.declared.access.Region.TheVariants.{Imem, Dmem, Clint, Mailbox, Sysinfo, Dma, Device}
use Rattle.soc_bus.specs.declared.access.Request.{Request}

-- a register's word: its address, and what it belongs to
pub record Register : Type 0 where
  pub address : ℕ
  pub region : Region

-- where an access to a part of the hub goes
abbrev pub part_region : HubPart → Region
part_region part.Dma = Dma
part_region part.Clint = Clint
part_region part.Sysinfo = Sysinfo
part_region part.Mailbox = Mailbox

abbrev pub unit_registers : ChipUnit → List Register
unit_registers unit = map (λ offset. record { address = (unit_row unit).base + offset; region = Device (unit_row unit).number offset }) (unit_row unit).offsets

abbrev pub part_registers : HubPart → List Register
part_registers part = map (λ offset. record { address = (part_row part).base + offset; region = part_region part }) (part_row part).offsets

-- all registers
unfoldable pub registers : List Register
registers = flat_map unit_registers all_units ++ flat_map part_registers all_parts

-- what the word at an address belongs to
abbrev pub word_in : ℕ → List Register → Option Region
word_in address [] = None
word_in address (r ∷ rs) = if r.address == address then Some r.region else word_in address rs

-- the device in whose registers' words an address lies
abbrev pub device_of : ℕ → Option Region
device_of address = word_in (4 * (address / 4)) registers

-- what lies at an address, in a chip whose memories have these numbers of bytes
abbrev pub region_of : ℕ → ℕ → ℕ → Option Region
region_of imem dmem address =
    if nat_lt address imem then Some Imem
    else (if nat_le (2 ^ 31) address && nat_lt (address - 2 ^ 31) dmem then Some Dmem else device_of address)

-- a region is one of the two memories
abbrev pub is_memory : Region → Bool
is_memory Imem = true
is_memory Dmem = true
is_memory other = false

-- a store of less than a word outside the two memories
abbrev pub is_narrow : Request → Region → Bool
is_narrow r region = not (is_memory region) && is_some r.store && not (width_bytes r.width == 4)

-- the answer where the address is aligned
abbrev pub reached : Request → Option Region → Result Region BusFault
reached r None = Err Unmapped
reached r (Some region) = if is_narrow r region then Err Narrow else Ok region

-- what a request reaches, or why it is refused
abbrev pub admitted : Request → ℕ → ℕ → Result Region BusFault
admitted r imem dmem =
    if r.addr % width_bytes r.width == 0 then reached r (region_of imem dmem r.addr) else Err Misaligned

-- a region is the memory that has all of a request's bytes, and no memory where none has them all
abbrev pub Agrees : MemoryState → Request → Region → Type 0
Agrees m r region = MatchOption (place_of m r.addr (width_bytes r.width)) (is_memory region ≡ false) (λ p. region ≡ p.0)
