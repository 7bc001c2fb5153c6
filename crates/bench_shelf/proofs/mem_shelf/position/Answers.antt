use Rattle.std.proofs.Common.{ap, sym, ◌∙◌, string_bytes}
use Rattle.std.proofs.lemmas.Slice.Eq.{bytes_eq-Decides}
use Rattle.bench_shelf.proofs.Replacing.{File, none_so_far, named_at}
use Rattle.bench_shelf.proofs.mem_shelf.position.Goals as goal

pub returns-then-eq-clause-found : goal.returns-then-eq-clause-found
returns-then-eq-clause-found c =
    let at = c.index-files-index.is in
    let same = ap (λ (f : File). string_bytes f.0) at ∙ sym c.as_str.ensures.value
    ∙ (bytes_eq-Decides c.as_str.result.now c.args.name.now).0 (sym c.eq.ensures ∙ c.if-eq.true) in (
      c.loop-index-test.true,
      c.loop-index.invariant,
      named_at c.args.files.now c.loop-index.index c.index-files-index.result c.args.name.now c.loop-index-test.true at same,
    )

pub loop-index-preserved : goal.loop-index-preserved
loop-index-preserved c =
    let at = c.index-files-index.is in
    let text = c.as_str.ensures.value ∙ sym (ap (λ (f : File). string_bytes f.0) at) in
    let differs = sym c.if-eq.false ∙ c.eq.ensures in
    none_so_far c.args.files.now c.loop-index.index c.index-files-index.result c.args.name.now c.loop-index-test.true at c.loop-index.invariant
    (λ same. let equal = (bytes_eq-Decides c.as_str.result.now c.args.name.now).1 (text ∙ same) in absurd (cc))
