use Rattle.text_fields.proofs.QuotedAnswers.{stands, stands_not}
use Rattle.text_fields.proofs.quoted.read_quoted.Goals as goal

pub returns-clause-stands : goal.returns-clause-stands
returns-clause-stands c = stands c.args.text.now c.scanned.result c.scanned.ensures

pub returns-clause-none : goal.returns-clause-none
returns-clause-none c = stands_not c.args.text.now c.scanned.result c.scanned.ensures
