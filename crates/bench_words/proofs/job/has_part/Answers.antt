use Rattle.std.proofs.Common.{◌∙◌, sym}
use Rattle.std.specs.Str.{bytes_eq}
use Rattle.bench_words.proofs.Names.{any_at, any_none}
use Rattle.bench_words.proofs.job.has_part.Goals as goal

pub returns-then-is_named : goal.returns-then-is_named
returns-then-is_named g c =
    sym (any_at (λ p. p.name) (λ n. bytes_eq n c.args.name.now) c.args.parts.now c.loop-part.part-index c.part-item.result
    c.loop-part-test.true c.part-item.is (sym c.is_named.ensures ∙ c.if-is_named.true))

pub returns : goal.returns
returns g c =
    sym (any_none (λ p. p.name) (λ n. bytes_eq n c.args.name.now) c.args.parts.now c.loop-part.part-index c.loop-part-test.false c.loop-part.invariant)
