use Rattle.csr_file.proofs.Laws.{reset_reads}
use Rattle.csr_file.proofs.file.Csrs.new.Goals as goal

pub returns-clause-table : goal.returns-clause-table
returns-clause-table c n mip = rw c.reset.ensures (reset_reads c.args.hart n mip)
