use Rattle.std.proofs.Common.{subst, sym}
use Rattle.dma_unit.specs.Copying.{Copies}
use Rattle.dma_unit.proofs.Copying.{copies_written}
use Rattle.dma_unit.proofs.dma.Dma.granted.Goals as goal

pub returns-in-Ok-answer-clause-copy : goal.returns-in-Ok-answer-clause-copy
returns-in-Ok-answer-clause-copy c =
    subst (λ x. Copies x) (sym c.wrote_word.ensures) (copies_written c.args.self.now (rw (← c.self.view_is) c.self.invariant))
