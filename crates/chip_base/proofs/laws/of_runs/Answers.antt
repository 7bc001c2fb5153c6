use Rattle.chip_base.proofs.Runs.{runs_by_arrivals, runs_in_parts, runs_quietly}
use Rattle.chip_base.proofs.laws.of_runs.Goals as goal

pub returns-clause-parts : goal.returns-clause-parts
returns-clause-parts c start step = runs_in_parts step

pub returns-clause-arrivals : goal.returns-clause-arrivals
returns-clause-arrivals c start step = runs_by_arrivals step

pub returns-clause-quiet : goal.returns-clause-quiet
returns-clause-quiet c start step = runs_quietly step
