use Rattle.std.proofs.Common.{arith}
use Rattle.boot_monitor.proofs.Blocks.{words-go-on}
use Rattle.boot_monitor.proofs.errands.fetching.Goals as goal

pub returns-then-index-words_in-clause-same : goal.returns-then-index-words_in-clause-same
returns-then-index-words_in-clause-same c = λ ctrl count size.
    words-go-on c.args.page c.args.index (omega (arith, c.words_in.ensures.count, c.if-index-words_in.true))
