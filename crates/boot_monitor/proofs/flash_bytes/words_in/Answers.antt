use Rattle.std.proofs.Common.{◌∙◌, sym}
use Rattle.boot_monitor.proofs.Blocks.{words-whole}
use Rattle.boot_monitor.proofs.flash_bytes.words_in.Goals as goal

pub returns-then-is_whole-clause-count : goal.returns-then-is_whole-clause-count
returns-then-is_whole-clause-count c = sym (words-whole c.args.page (sym c.is_whole.ensures ∙ c.if-is_whole.true))
