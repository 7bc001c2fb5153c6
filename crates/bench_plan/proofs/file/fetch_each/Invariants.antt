use Rattle.std.proofs.Common.{List, ℕ, [], map, string_bytes, drop, Global}
use Rattle.bench_plan.specs.Each.{Leads, each_from, each_items}
use Rattle.bench_plan.specs.Readings.{asking}
use Rattle.bench_plan.proofs.file.fetch_each.Given as goal

abbrev pub invariant-loop-name : goal.invariant-loop-name
invariant-loop-name g l =
    Leads (List (List ℕ)) (g.S.Shelf.held l.initial.shelf) (g.S.Shelf.held l.shelf) (each_from (λ name. asking name l.limit) (map (string_bytes {Z = Global}) l.names) [])
    (each_from (λ name. asking name l.limit) (drop l.name-index (map (string_bytes {Z = Global}) l.names)) (each_items l.files))
