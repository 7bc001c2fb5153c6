use Rattle.csr_file.proofs.Laws.{trap_others, trap_set}
use Rattle.csr_file.proofs.file.Csrs.trap.Goals as goal

pub returns-clause-set : goal.returns-clause-set
returns-clause-set c mip = trap_set _ mip

pub returns-clause-others : goal.returns-clause-others
returns-clause-others c other mip status_apart pc_apart cause_apart value_apart =
    rw (← c.self.view_is) (trap_others _ _ _ _ _ other mip status_apart pc_apart cause_apart value_apart)
