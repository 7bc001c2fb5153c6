use Rattle.csr_file.proofs.Laws.{write_own, write_others}
use Rattle.csr_file.proofs.file.Csrs.write.Goals as goal

pub returns-clause-kept : goal.returns-clause-kept
returns-clause-kept c mip = rw c.put_at.ensures.state (write_own c.args.self.now c.args.addr c.args.value mip c.ranges.value.fits)

pub returns-clause-others : goal.returns-clause-others
returns-clause-others c other mip apart = rw c.put_at.ensures.state (write_others c.args.self.now c.args.addr c.args.value other mip c.ranges.value.fits apart)
