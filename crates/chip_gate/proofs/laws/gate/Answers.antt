use Rattle.chip_gate.proofs.Gates.{gated_after, refuses_none}
use Rattle.chip_gate.proofs.laws.gate.Goals as goal

pub returns-clause-gated : goal.returns-clause-gated
returns-clause-gated c = gated_after

pub returns-clause-answered : goal.returns-clause-answered
returns-clause-answered c = refuses_none
