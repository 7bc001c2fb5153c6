use Rattle.spi_flash.proofs.Laws.{holds_of_cycle}
use Rattle.spi_flash.proofs.flash.Flash.cycle.Goals as goal

pub returns-then-work-eq1-clause-law : goal.returns-then-work-eq1-clause-law
returns-then-work-eq1-clause-law c = holds_of_cycle c.args.self.now

pub returns-else-work-eq1-clause-law : goal.returns-else-work-eq1-clause-law
returns-else-work-eq1-clause-law c = holds_of_cycle c.args.self.now
