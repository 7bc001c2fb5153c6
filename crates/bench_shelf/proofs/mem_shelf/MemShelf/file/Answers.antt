use Rattle.std.proofs.Common.{Some, ap, sym, ◌∙◌}
use Rattle.bench_shelf.proofs.Replacing.{first_found, name_at}
use Rattle.bench_shelf.proofs.mem_shelf.MemShelf.file.Goals as goal

pub returns : goal.returns
returns c =
    let files = c.args.self.now.files.items in
    let index = c.in_ok-index.index in
    let file = c.index.result.now in
    let found = rw c.deref.ensures.value at c.in_ok-index.ensures.found in
    let named = name_at files index file c.args.name.now found.0 c.index.ensures found.2 in
    ap Some c.as_slice.ensures.value ∙ sym (first_found files index file c.args.name.now found.0 c.index.ensures found.1 named)
