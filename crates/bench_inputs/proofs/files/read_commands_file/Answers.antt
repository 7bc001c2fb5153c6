use Rattle.bench_inputs.specs.Inputs.{commands_in}
use Rattle.bench_plan.specs.Readings.{judged}
use Rattle.bench_plan.proofs.Readings.{reads_exit}
use Rattle.bench_inputs.proofs.files.read_commands_file.Goals as goal

pub returns-in_err-text : goal.returns-in_err-text
returns-in_err-text g c =
    reads_exit (λ b. judged (commands_in b)) c.from_residual.result c.from_residual.ensures.1 c.in_err-text.ensures.reads
