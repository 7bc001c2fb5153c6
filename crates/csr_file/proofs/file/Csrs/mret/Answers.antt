use Rattle.csr_file.proofs.Laws.{return_others}
use Rattle.csr_file.proofs.file.Csrs.mret.Goals as goal

pub returns-clause-others : goal.returns-clause-others
returns-clause-others c other mip apart = rw (← c.self.view_is) (return_others _ _ other mip apart)
