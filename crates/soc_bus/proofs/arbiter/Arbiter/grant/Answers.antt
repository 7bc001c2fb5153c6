use Rattle.soc_bus.proofs.Turns.{served_soon}
use Rattle.soc_bus.proofs.arbiter.Arbiter.grant.Goals as goal

pub returns-clause-soon : goal.returns-clause-soon
returns-clause-soon c = served_soon c.args.self.now c.args.wants
