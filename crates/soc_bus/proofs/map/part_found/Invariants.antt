use Rattle.std.proofs.Common.{◌≡◌, drop}
use Rattle.std.specs.List.{find}
use Rattle.soc_bus.specs.Parts.{part_at}
use Rattle.soc_bus.proofs.map.part_found.Given as goal

abbrev pub invariant-loop-part : goal.invariant-loop-part
invariant-loop-part l = find (part_at l.address) l.parts ≡ find (part_at l.address) (drop l.part-index l.parts)
