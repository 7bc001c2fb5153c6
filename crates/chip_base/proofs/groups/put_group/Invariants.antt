use Rattle.std.proofs.Common.{◌≡◌, ◌≤◌, ◌+◌, drop, map, length}
use Rattle.chip_base.specs.Groups.{pieces}
use Rattle.chip_base.specs.Placing.{put_all, placed}
use Rattle.chip_base.proofs.groups.put_group.Given as goal

abbrev pub invariant-loop-name : goal.invariant-loop-name
invariant-loop-name l = record {
  rest : put_all (map (λ name. (name, l.group)) (drop (length l.yielded) (pieces 44 l.names))) l.places ≡ put_all (map (λ name. (name, l.group)) (pieces 44 l.names)) l.initial.places;
  more : placed l.initial.places + length l.yielded ≤ placed l.places;
}
