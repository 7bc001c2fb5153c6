use Rattle.bench_job.proofs.Ends.{demo_only, failed, no_job, quiet, refused_commands, refused_image, statuses, still, told_whole, usage_only}
use Rattle.chip_gate.proofs.Gates.{gated_after}
use Rattle.neo_cli.proofs.top.bench.Goals as goal

pub returns-clause-keeps : goal.returns-clause-keeps
returns-clause-keeps g c = rw c.deref.ensures.value at c.perform.ensures

pub returns-clause-statuses : goal.returns-clause-statuses
returns-clause-statuses g c = statuses _ _ _ c.perform.ensures

pub returns-clause-usage : goal.returns-clause-usage
returns-clause-usage g c = usage_only _ _ _ (rw c.deref.ensures.value at c.perform.ensures)

pub returns-clause-no_job : goal.returns-clause-no_job
returns-clause-no_job g c = no_job _ _ _ (rw c.deref.ensures.value at c.perform.ensures)

pub returns-clause-refused_image : goal.returns-clause-refused_image
returns-clause-refused_image g c = refused_image _ _ _ (rw c.deref.ensures.value at c.perform.ensures)

pub returns-clause-refused_commands : goal.returns-clause-refused_commands
returns-clause-refused_commands g c = refused_commands _ _ _ (rw c.deref.ensures.value at c.perform.ensures)

pub returns-clause-demo : goal.returns-clause-demo
returns-clause-demo g c = demo_only _ _ _ (rw c.deref.ensures.value at c.perform.ensures)

pub returns-clause-write : goal.returns-clause-write
returns-clause-write g c = failed _ _ _ (rw c.deref.ensures.value at c.perform.ensures)

pub returns-clause-complete : goal.returns-clause-complete
returns-clause-complete g c = told_whole _ _ _ (rw c.deref.ensures.value at c.perform.ensures)

pub returns-clause-writes : goal.returns-clause-writes
returns-clause-writes g c = quiet _ _ _ (rw c.deref.ensures.value at c.perform.ensures)

pub returns-clause-files_stay : goal.returns-clause-files_stay
returns-clause-files_stay g c = still _ _ _ (rw c.deref.ensures.value at c.perform.ensures)

pub returns-clause-refused_stay : goal.returns-clause-refused_stay
returns-clause-refused_stay g c = let k = rw c.deref.ensures.value at c.perform.ensures in k.kept

pub returns-clause-gate : goal.returns-clause-gate
returns-clause-gate g c = gated_after
