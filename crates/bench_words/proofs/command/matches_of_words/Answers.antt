use Rattle.std.proofs.Common.{◌∙◌, ap, sym, map, string_bytes, Some, inl, inr}
use Rattle.clap.specs.Words.{app_of, is_simple}
use Rattle.bench_words.proofs.Taken.{left_of, rows_taken-some, rows_taken-none}
use Rattle.bench_words.proofs.command.matches_of_words.Goals as goal

pub returns-in-Ok : goal.returns-in-Ok
returns-in-Ok c =
    let words = map string_bytes c.args.words.now in
    let rows = (c.in-Ok.ensures.matches (left_of (is_simple (app_of c.args.command)) _ c.requires)).0 in
    ap (λ r. Some r) rows ∙ sym (rows_taken-some (app_of c.args.command) words (c.in-Ok.ensures.kinds c.requires))

pub returns : goal.returns
returns c =
    let words = map string_bytes c.args.words.now in
    elim (c.in-Err.ensures.kinds c.requires) [
      | inl memory ↦ absurd (c.in_default.not-OutOfMemory (c.kind.ensures ∙ memory))
      | inr among ↦ sym (rows_taken-none (app_of c.args.command) words _ among)
    ]
