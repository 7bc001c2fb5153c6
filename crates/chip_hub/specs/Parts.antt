-- A definition: small parts of an access.
use Rattle.std.specs.Prelude.{ℕ, ◌*◌, ◌/◌, ◌%◌, ◌^◌}
use Rattle.chip_base.specs.UnitTable.{part_offset}
use Rattle.chip_base.specs.declared.chip_unit.HubPart.{HubPart}
use Rattle.soc_bus.specs.Access.{width_bytes}
use Rattle.soc_bus.specs.declared.access.Request.{Request}

-- the bytes of a register's word that a load asks for, with zeros above
abbrev pub part_of_word : Request → ℕ → ℕ
part_of_word r word = word / 2 ^ (8 * (r.addr % 4)) % 2 ^ (8 * width_bytes r.width)

-- the offset of an access's register in a part of the hub
abbrev pub offset_in : HubPart → Request → ℕ
offset_in part r = part_offset part (4 * (r.addr / 4))
