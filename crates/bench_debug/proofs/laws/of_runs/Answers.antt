use Rattle.bench_debug.proofs.FirstStops.{first_is}
use Rattle.bench_debug.proofs.laws.of_runs.Goals as goal

pub returns : goal.returns
returns c = first_is
