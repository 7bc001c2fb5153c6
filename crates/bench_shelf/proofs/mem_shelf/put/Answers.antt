use Rattle.std.proofs.Common.{◌≡◌, true, not, ap, sym, ◌∙◌, refl, is_ok}
use Rattle.bench_shelf.specs.Files.{file_in}
use Rattle.bench_shelf.proofs.Replacing.{File, replaced_found, replaced_others, behind_found, behind_others, name_at}
use Rattle.bench_shelf.proofs.mem_shelf.put.Goals as goal

pub returns-in-Some-clause-written : goal.returns-in-Some-clause-written
returns-in-Some-clause-written c =
    let files = c.args.files.now.items in
    let old = c.index_mut.result.now in
    let new : File = (old.0, c.args.bytes) in
    let found = rw c.deref.ensures.value at c.in-Some.ensures.found in
    let named = name_at files c.in-Some.index old c.args.name.now found.0 c.index_mut.ensures.value found.2 in
    replaced_found files c.in-Some.index new c.args.name.now found.0 found.1 named

pub returns-in-Some-clause-others : goal.returns-in-Some-clause-others
returns-in-Some-clause-others c = λ q other.
    let files = c.args.files.now.items in
    let old = c.index_mut.result.now in
    let new : File = (old.0, c.args.bytes) in
    let found = rw c.deref.ensures.value at c.in-Some.ensures.found in
    let named = name_at files c.in-Some.index old c.args.name.now found.0 c.index_mut.ensures.value found.2 in
    replaced_others files c.in-Some.index old new q found.0 c.index_mut.ensures.value refl (λ e. other (sym e ∙ named))

pub returns-clause-written : goal.returns-clause-written
returns-clause-written c =
    let files = c.args.files.now.items in
    let new : File = (c.in-Ok.owned, c.args.bytes) in
    let none = rw c.deref.ensures.value at c.in_default.ensures.missing in
    let ok : is_ok c.push.result ≡ true = c.is_err.ensures.negation ∙ ap not c.if-is_err.false in
    ap (λ fs. file_in fs c.args.name.now) (rw ok at c.push.ensures.items) ∙ behind_found files new c.args.name.now (none refl) c.in-Ok.ensures.ok

pub returns-clause-others : goal.returns-clause-others
returns-clause-others c = λ q other.
    let files = c.args.files.now.items in
    let new : File = (c.in-Ok.owned, c.args.bytes) in
    let ok : is_ok c.push.result ≡ true = c.is_err.ensures.negation ∙ ap not c.if-is_err.false in
    ap (λ fs. file_in fs q) (rw ok at c.push.ensures.items) ∙ behind_others files new q (λ e. other (sym e ∙ c.in-Ok.ensures.ok))
