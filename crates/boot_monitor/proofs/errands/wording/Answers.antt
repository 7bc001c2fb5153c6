use Rattle.std.proofs.Common.{arith}
use Rattle.boot_monitor.proofs.Blocks.{words-few}
use Rattle.boot_monitor.proofs.errands.wording.Goals as goal

pub overflow_add-index : goal.overflow_add-index
overflow_add-index c = omega (arith, c.requires.index, words-few c.args.page)
