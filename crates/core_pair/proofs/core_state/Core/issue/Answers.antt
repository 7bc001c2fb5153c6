use Rattle.core_pair.proofs.Executions.{executions}
use Rattle.core_pair.proofs.core_state.Core.issue.Goals as goal

pub returns-clause-executes : goal.returns-clause-executes
returns-clause-executes c = rw c.turn.ensures.issued (rw c.turn.ensures.after (executions c.args.self.now c.args.now c.args.mip c.args.memory.now))
