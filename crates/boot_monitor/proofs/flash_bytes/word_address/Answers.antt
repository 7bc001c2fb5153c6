use Rattle.std.proofs.Common.{arith}
use Rattle.boot_monitor.proofs.Blocks.{word-within, words-few}
use Rattle.boot_monitor.proofs.flash_bytes.word_address.Goals as goal

pub overflow_mul-result-2 : goal.overflow_mul-result-2
overflow_mul-result-2 c = omega (arith, c.requires.word.below, words-few c.args.page)

pub overflow_add-result : goal.overflow_add-result
overflow_add-result c =
    omega (arith, c.requires.word.page_is.fits, word-within c.args.page c.args.index c.requires.word.page_is.number c.requires.word.below)
