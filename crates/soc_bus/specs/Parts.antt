-- Serves the code alone: the bus's work in parts: an access to one memory, and the search for a register by units and parts.
use Rattle.std.specs.Prelude.{ℕ, ◌+◌, ◌-◌, ◌&&◌, Bool, nat_le, List, length, slice_range, Option, Some, None, Result, Ok, Err, if◌then◌else◌}
use Rattle.std.specs.List.{find}
use Rattle.std.specs.Option.{option_map}
use Rattle.chip_base.specs.UnitTable.{all_parts, all_units, part_has, part_row, unit_has, unit_row}
use Rattle.chip_base.specs.declared.chip_unit.ChipUnit.{ChipUnit}
use Rattle.chip_base.specs.declared.chip_unit.HubPart.{HubPart}
use Rattle.soc_bus.specs.Access.{width_bytes}
use Rattle.soc_bus.specs.Map.{part_region}
use Rattle.soc_bus.specs.Memory.{low_bytes, value_in, with_bytes}
use Rattle.soc_bus.specs.declared.access.BusFault.{BusFault}
use Rattle.soc_bus.specs.declared.access.BusFault.TheVariants.{Unmapped}
use Rattle.soc_bus.specs.declared.access.Region.{Region}
use Rattle.soc_bus.specs.declared.access.Region.TheVariants.{Device}
use Rattle.soc_bus.specs.declared.access.Width.{Width}

-- what a load gives from a place of a memory on, where the memory is long enough
abbrev pub part_of : List ℕ → ℕ → Width → Result ℕ BusFault
part_of bytes at width =
    if nat_le (at + width_bytes width) (length bytes) then Ok (value_in width (slice_range bytes at (at + width_bytes width)))
    else Err Unmapped

-- a memory after a store from a place on, where it is long enough
abbrev pub stored_part : List ℕ → ℕ → Width → ℕ → Result (List ℕ) BusFault
stored_part bytes at width value =
    if nat_le (at + width_bytes width) (length bytes) then Ok (with_bytes bytes at (low_bytes width value)) else Err Unmapped

-- the unit has a register at an address
abbrev pub unit_at : ℕ → ChipUnit → Bool
unit_at address unit = nat_le (unit_row unit).base address && unit_has unit (address - (unit_row unit).base)

-- the part of the hub has a register at an address
abbrev pub part_at : ℕ → HubPart → Bool
part_at address part = nat_le (part_row part).base address && part_has part (address - (part_row part).base)

-- where an access to the register of a unit at an address goes
abbrev pub unit_region : ℕ → ChipUnit → Region
unit_region address unit = Device (unit_row unit).number (address - (unit_row unit).base)

-- the first of two answers that there is
abbrev pub first_of : Option Region → Option Region → Option Region
first_of None later = later
first_of (Some region) later = Some region

-- what a word belongs to, by the units and parts that have a register at its address
abbrev pub found_at : ℕ → Option Region
found_at address = first_of (option_map (unit_region address) (find (unit_at address) all_units)) (option_map part_region (find (part_at address) all_parts))
