use Rattle.spi_flash.proofs.Laws.{holds_of_selection}
use Rattle.spi_flash.proofs.Unasked.{shows_busy}
use Rattle.spi_flash.proofs.flash.Flash.select.Goals as goal

pub returns-then-not-is_fitted-clause-law : goal.returns-then-not-is_fitted-clause-law
returns-then-not-is_fitted-clause-law c = holds_of_selection c.args.self.now c.args.on

pub returns-then-on-clause-law : goal.returns-then-on-clause-law
returns-then-on-clause-law c = holds_of_selection c.args.self.now c.args.on

pub returns-else-on-clause-law : goal.returns-else-on-clause-law
returns-else-on-clause-law c = holds_of_selection c.args.self.now c.args.on

pub returns-then-not-is_fitted-clause-busy : goal.returns-then-not-is_fitted-clause-busy
returns-then-not-is_fitted-clause-busy c = shows_busy c.args.self.now

pub returns-then-on-clause-busy : goal.returns-then-on-clause-busy
returns-then-on-clause-busy c = shows_busy c.args.self.now

pub returns-else-on-clause-busy : goal.returns-else-on-clause-busy
returns-else-on-clause-busy c = shows_busy c.args.self.now
