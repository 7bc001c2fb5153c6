use Rattle.csr_file.proofs.Laws.{tick_others}
use Rattle.csr_file.proofs.file.Csrs.tick.Goals as goal

pub returns-clause-others : goal.returns-clause-others
returns-clause-others c other mip low_apart high_apart = rw (← c.self.view_is) (tick_others _ other mip low_apart high_apart)
