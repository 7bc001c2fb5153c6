use Rattle.std.proofs.Common.{ap, sym, ◌∙◌}
use Rattle.bench_demo.specs.Demo.{next_word}
use Rattle.bench_demo.proofs.Payload.{bytes_begin, bytes_step, generated_more, generated_zero}
use Rattle.bench_demo.proofs.image.push_generated.Goals as goal

pub loop-init : goal.loop-init
loop-init c = record { word = sym (generated_zero c.args.seed); bytes = bytes_begin _ c.args.seed }

pub loop-preserved : goal.loop-preserved
loop-preserved c =
    let next = c.next_word-word.ensures ∙ ap next_word c.loop.invariant.word in
    record {
      word = next ∙ sym (generated_more c.args.seed c.loop.counter);
      bytes = bytes_step _ _ _ c.args.seed c.loop.counter _ c.loop.invariant.bytes next c.in_ok-push_word.ensures;
    }
