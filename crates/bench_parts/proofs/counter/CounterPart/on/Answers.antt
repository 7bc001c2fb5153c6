use Rattle.std.proofs.Common.{refl}
use Rattle.bench_parts.proofs.Counting.{answers_last, answers_others}
use Rattle.bench_parts.proofs.counter.CounterPart.on.Goals as goal

pub returns-then-ev : goal.returns-then-ev
returns-then-ev c = answers_last (λ counter. counter.begun) _ _ c.args.ev _ c.if-ev.true refl refl

pub returns : goal.returns
returns c = answers_others (λ counter. counter.begun) _ _ c.args.ev _ c.if-ev.false refl refl
