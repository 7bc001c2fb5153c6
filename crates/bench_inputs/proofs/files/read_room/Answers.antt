use Rattle.bench_inputs.specs.Inputs.{imem_step}
use Rattle.bench_plan.proofs.Readings.{reads_exit}
use Rattle.bench_inputs.proofs.files.read_room.Goals as goal

pub returns-in_err-setup : goal.returns-in_err-setup
returns-in_err-setup g c =
    rw c.in-Some.is (reads_exit imem_step c.from_residual.result c.from_residual.ensures.1 c.in_err-setup.ensures)
