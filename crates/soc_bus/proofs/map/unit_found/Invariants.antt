use Rattle.std.proofs.Common.{◌≡◌, drop}
use Rattle.std.specs.List.{find}
use Rattle.soc_bus.specs.Parts.{unit_at}
use Rattle.soc_bus.proofs.map.unit_found.Given as goal

abbrev pub invariant-loop-unit : goal.invariant-loop-unit
invariant-loop-unit l = find (unit_at l.address) l.units ≡ find (unit_at l.address) (drop l.unit-index l.units)
