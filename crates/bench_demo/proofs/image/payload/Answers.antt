use Rattle.std.proofs.Common.{◌≡◌, ◌++◌, ◌∙◌, ap, refl}
use Rattle.bench_demo.specs.Demo.{bytes_of_words, generated_words, program}
use Rattle.bench_demo.proofs.Payload.{payload_whole}
use Rattle.bench_demo.proofs.image.payload.Goals as goal

pub returns : goal.returns
returns c =
    let first : c.push_words.new.bytes.items ≡ bytes_of_words program =
    c.in_ok-push_words.ensures ∙ rw (c.in_ok-bytes.ensures.items, c.program.ensures) refl in
    c.in_ok-push_generated.ensures ∙ (ap (λ b. b ++ bytes_of_words (generated_words c.args.seed 2032)) first ∙ payload_whole c.args.seed)
