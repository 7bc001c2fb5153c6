use Rattle.std.proofs.Common.{◌∙◌, sym}
use Rattle.boot_monitor.proofs.Blocks.{pages-end, pages-go}
use Rattle.boot_monitor.proofs.errands.page_errand.Goals as goal

pub returns-then-words_in-eq0-clause-same : goal.returns-then-words_in-eq0-clause-same
returns-then-words_in-eq0-clause-same c = λ size.
    pages-end (record { image = c.args.image; number = c.args.number }) c.requires.number (sym c.words_in.ensures.count ∙ c.if-words_in-eq0.true)

pub returns-else-words_in-eq0-clause-same : goal.returns-else-words_in-eq0-clause-same
returns-else-words_in-eq0-clause-same c = λ size.
    pages-go (record { image = c.args.image; number = c.args.number }) size (λ e. c.if-words_in-eq0.false (c.words_in.ensures.count ∙ e))
