use Rattle.bench_inputs.specs.Inputs.{image_in}
use Rattle.bench_plan.specs.Readings.{judged}
use Rattle.bench_plan.proofs.Readings.{reads_exit_as}
use Rattle.bench_inputs.proofs.files.read_image.Goals as goal

pub returns-in_err-image-clause-reads : goal.returns-in_err-image-clause-reads
returns-in_err-image-clause-reads g c =
    reads_exit_as (λ b. judged (image_in c.args.boot c.args.room b)) (λ v. v.items) c.from_residual.result c.from_residual.ensures.1 c.in_err-image.ensures.reads
