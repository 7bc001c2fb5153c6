-- Which registers lie at the addresses of the map: what the calls below the access of a region ask for. It serves the code alone.
use Rattle.std.specs.Prelude.{ℕ, Bool, true, false, Option, Some, None}
use Rattle.chip_base.specs.UnitTable.{part_has, part_offset, unit_has, unit_numbered}
use Rattle.chip_base.specs.declared.chip_unit.ChipUnit.{ChipUnit}
use Rattle.chip_base.specs.declared.chip_unit.HubPart.TheVariants as part
use Rattle.soc_bus.specs.Map.{Register}
use Rattle.soc_bus.specs.declared.access.Region.{Region}
use Rattle.soc_bus.specs.declared.access.Region.TheVariants.{Imem, Dmem, Clint, Mailbox, Sysinfo, Dma, Device}

-- the unit of a number has a register at this offset
abbrev pub numbered_has : Option ChipUnit → ℕ → Bool
numbered_has None reg = false
numbered_has (Some unit) reg = unit_has unit reg

-- what lies at an address has a register at its offset
abbrev pub fits_at : ℕ → Region → Bool
fits_at address Imem = true
fits_at address Dmem = true
fits_at address Clint = part_has part.Clint (part_offset part.Clint address)
fits_at address Mailbox = part_has part.Mailbox (part_offset part.Mailbox address)
fits_at address Sysinfo = part_has part.Sysinfo (part_offset part.Sysinfo address)
fits_at address Dma = part_has part.Dma (part_offset part.Dma address)
fits_at address (Device number reg) = numbered_has (unit_numbered number) reg

abbrev pub register_fits : Register → Bool
register_fits r = fits_at r.address r.region
