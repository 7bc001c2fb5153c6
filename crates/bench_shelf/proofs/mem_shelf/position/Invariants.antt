use Rattle.std.proofs.Common.{◌≡◌, None, take}
use Rattle.bench_shelf.specs.Files.{file_in}
use Rattle.bench_shelf.proofs.mem_shelf.position.Given as goal

abbrev pub invariant-loop-index : goal.invariant-loop-index
invariant-loop-index l = file_in (take l.index l.files) l.name ≡ None
