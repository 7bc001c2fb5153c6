use Rattle.rv_decode.proofs.Names.{name_bounds}
use Rattle.rv_decode.proofs.op_rows.op_row.Goals as goal

pub returns-clause-bounds : goal.returns-clause-bounds
returns-clause-bounds c = rw c.text_of.ensures (name_bounds c.args.op)
