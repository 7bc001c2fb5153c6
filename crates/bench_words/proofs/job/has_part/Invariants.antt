use Rattle.std.proofs.Common.{◌≡◌, take, false}
use Rattle.std.specs.List.{list_any}
use Rattle.std.specs.Str.{bytes_eq}
use Rattle.bench_words.proofs.job.has_part.Given as goal

-- no part so far has the name
abbrev pub invariant-loop-part : goal.invariant-loop-part
invariant-loop-part g l = list_any (λ p. bytes_eq p.name l.name) (take l.part-index l.parts) ≡ false
