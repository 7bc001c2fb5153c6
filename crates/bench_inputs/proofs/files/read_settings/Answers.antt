use Rattle.chip_base.specs.Settings.{values_of}
use Rattle.bench_inputs.specs.Inputs.{settings_in}
use Rattle.bench_plan.specs.Readings.{judged}
use Rattle.bench_plan.proofs.Readings.{reads_exit_as}
use Rattle.bench_inputs.proofs.files.read_settings.Goals as goal

pub returns-in_err-bytes : goal.returns-in_err-bytes
returns-in_err-bytes g c =
    rw c.in-Some.is (reads_exit_as (λ b. judged (settings_in b)) values_of c.from_residual.result c.from_residual.ensures.1 c.in_err-bytes.ensures.reads)
