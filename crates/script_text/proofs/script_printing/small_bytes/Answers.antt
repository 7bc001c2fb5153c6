use Rattle.script_text.proofs.SmallBytes.{bytes_all}
use Rattle.script_text.proofs.script_printing.small_bytes.Goals as goal

pub returns-clause-small : goal.returns-clause-small
returns-clause-small c = bytes_all c.args.bytes.now c.type_inv.bytes
