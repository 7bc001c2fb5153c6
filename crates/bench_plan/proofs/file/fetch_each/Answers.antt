use Rattle.std.proofs.Common.{◌≡◌, ◌<◌, List, ℕ, [], ◌∷◌, ◌++◌, map, string_bytes, String, Global, drop, get_or, length, refl, sym, ap, ◌∙◌, Ok, Vec}
use Rattle.std.proofs.lemmas.List.{drop_all, get_or-map, length-map, map-append}
use Rattle.bench_plan.specs.Each.{each_items}
use Rattle.bench_plan.specs.Readings.{asking}
use Rattle.bench_plan.proofs.Readings.{reads_want_exit, reads_gives}
use Rattle.bench_plan.proofs.Leading.{each_exit, each_more}
use Rattle.bench_plan.proofs.file.fetch_each.Goals as goal

abbrev bytes_of : List (String Global) → List (List ℕ)
bytes_of names = map (string_bytes {Z = Global}) names

within : (names : List (String Global)) (i : ℕ) → i < length names → i < length (bytes_of names)
within names i lt = rw (length-map names (string_bytes {Z = Global})) lt

at : (names : List (String Global)) (i : ℕ) (name : String Global) → i < length names → name ≡ get_or names i name → string_bytes name ≡ get_or (bytes_of names) i (string_bytes name)
at names i name lt e = ap (λ n. string_bytes n) e ∙ sym (get_or-map (string_bytes {Z = Global}) names i name (string_bytes name) lt)

pub returns-in_err-bytes : goal.returns-in_err-bytes
returns-in_err-bytes g c =
    each_exit (g.S.Shelf.held c.args.shelf.now) (g.S.Shelf.held c.loop-name.shelf) (g.S.Shelf.held c.fetch.new.shelf) (λ name. asking name c.args.limit) (bytes_of c.args.names.now) c.loop-name.name-index
    (string_bytes c.name-item.result) (each_items c.loop-name.files) _ each_items c.from_residual.result (within _ _ c.loop-name-test.true) (at _ _ _ c.loop-name-test.true c.name-item.is)
    c.loop-name.invariant (rw c.deref.ensures at c.in_err-bytes.ensures.reads) c.from_residual.ensures.1

pub returns : goal.returns
returns g c =
    let d : drop c.loop-name.name-index (bytes_of c.args.names.now) ≡ [] = drop_all c.loop-name.name-index (bytes_of c.args.names.now) (rw (length-map c.args.names.now (string_bytes {Z = Global})) c.loop-name-test.false) in
    c.loop-name.invariant (g.S.Shelf.held c.loop-name.shelf) (Ok (each_items c.loop-name.files)) (rw d (reads_gives _ _ _ refl))

pub loop-name-preserved : goal.loop-name-preserved
loop-name-preserved g c =
    let same : each_items c.add.new.files ≡ each_items c.loop-name.files ++ c.in_ok-bytes.bytes.items ∷ [] =
    ap (λ ws. map (λ (w : Vec ℕ Global). w.items) ws) c.in_ok-add.ensures ∙ map-append (λ (w : Vec ℕ Global). w.items) c.loop-name.files.items (c.in_ok-bytes.bytes ∷ []) in
    rw same (each_more (g.S.Shelf.held c.args.shelf.now) (g.S.Shelf.held c.loop-name.shelf) (g.S.Shelf.held c.fetch.new.shelf) (λ name. asking name c.args.limit) (bytes_of c.args.names.now) c.loop-name.name-index
    (string_bytes c.name-item.result) (each_items c.loop-name.files) c.in_ok-bytes.bytes.items (within _ _ c.loop-name-test.true) (at _ _ _ c.loop-name-test.true c.name-item.is)
    c.loop-name.invariant (rw c.deref.ensures at c.in_ok-bytes.ensures.reads))

pub returns-in_err-add : goal.returns-in_err-add
returns-in_err-add g c =
    each_more (g.S.Shelf.held c.args.shelf.now) (g.S.Shelf.held c.loop-name.shelf) (g.S.Shelf.held c.fetch.new.shelf) (λ name. asking name c.args.limit) (bytes_of c.args.names.now) c.loop-name.name-index
    (string_bytes c.name-item.result) (each_items c.loop-name.files) c.in_ok-bytes.bytes.items (within _ _ c.loop-name-test.true) (at _ _ _ c.loop-name-test.true c.name-item.is)
    c.loop-name.invariant (rw c.deref.ensures at c.in_ok-bytes.ensures.reads) (g.S.Shelf.held c.fetch.new.shelf) _
    (reads_want_exit _ _ each_items c.from_residual-in_err-add.result c.from_residual-in_err-add.ensures.1)
