use Rattle.spi_flash.proofs.Laws.{holds_of_byte}
use Rattle.spi_flash.proofs.flash.Flash.send.Goals as goal

pub returns-then-is_fitted-clause-law : goal.returns-then-is_fitted-clause-law
returns-then-is_fitted-clause-law c = holds_of_byte c.args.self.now c.args.byte

pub returns-else-is_fitted-clause-law : goal.returns-else-is_fitted-clause-law
returns-else-is_fitted-clause-law c = holds_of_byte c.args.self.now c.args.byte
