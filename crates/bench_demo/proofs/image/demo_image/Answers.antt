use Rattle.std.proofs.Common.{◌≡◌, ◌∙◌, ap, arith, length}
use Rattle.image_tool.specs.Image.{image_of, padded}
use Rattle.bench_demo.proofs.Payload.{payload_padded, payload_size}
use Rattle.bench_demo.proofs.image.demo_image.Goals as goal

pub wrap-requires : goal.wrap-requires
wrap-requires c =
    let size : length c.deref.result.now ≡ 8192 = ap length (c.deref.ensures.value ∙ c.in-Ok.ensures) ∙ payload_size c.args.seed in
    omega (arith, size)

pub returns-in-Ok-wrap : goal.returns-in-Ok-wrap
returns-in-Ok-wrap c =
    c.in-Ok-wrap.ensures.image.1 ∙ ap image_of (ap padded (c.deref.ensures.value ∙ c.in-Ok.ensures) ∙ payload_padded c.args.seed)
