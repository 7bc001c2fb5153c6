use Rattle.std.proofs.Common.{◌∙◌, ap, arith, refl}
use Rattle.image_tool.specs.Image.{is_allowed}
use Rattle.image_tool.proofs.ImageLemmas.{image_fault-image_of}
use Rattle.bench_demo.specs.Demo.{payload}
use Rattle.bench_demo.proofs.Payload.{payload_size}
use Rattle.bench_demo.proofs.laws.of_the_image.Goals as goal

pub returns-clause-size : goal.returns-clause-size
returns-clause-size c = λ seed. omega (arith, payload_size seed)

pub returns-clause-faultless : goal.returns-clause-faultless
returns-clause-faultless c = λ seed. image_fault-image_of 65536 (payload seed) (omega arith) (ap (is_allowed 65536) (payload_size seed) ∙ refl)
