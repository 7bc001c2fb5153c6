use Rattle.script_text.proofs.LineSteps.{ends_here, goes_on}
use Rattle.script_text.proofs.script_line.last_field.Goals as goal

pub returns-then-is_empty-clause-value : goal.returns-then-is_empty-clause-value
returns-then-is_empty-clause-value c = ends_here c.args.step c.args.text.now c.is_empty.result c.is_empty.ensures c.if-is_empty.true

pub returns-else-is_empty-clause-value : goal.returns-else-is_empty-clause-value
returns-else-is_empty-clause-value c = goes_on c.args.step c.args.text.now c.is_empty.result c.is_empty.ensures c.if-is_empty.false
