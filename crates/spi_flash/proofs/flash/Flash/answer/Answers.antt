use Rattle.spi_flash.proofs.Laws.{holds_of_answers}
use Rattle.spi_flash.proofs.Unasked.{answers_unasked}
use Rattle.spi_flash.proofs.flash.Flash.answer.Goals as goal

pub returns-then-is_fitted-clause-law : goal.returns-then-is_fitted-clause-law
returns-then-is_fitted-clause-law c = holds_of_answers c.args.self.now

pub returns-else-is_fitted-clause-law : goal.returns-else-is_fitted-clause-law
returns-else-is_fitted-clause-law c = holds_of_answers c.args.self.now

pub returns-then-is_fitted-clause-unasked : goal.returns-then-is_fitted-clause-unasked
returns-then-is_fitted-clause-unasked c = answers_unasked c.args.self.now

pub returns-else-is_fitted-clause-unasked : goal.returns-else-is_fitted-clause-unasked
returns-else-is_fitted-clause-unasked c = answers_unasked c.args.self.now
