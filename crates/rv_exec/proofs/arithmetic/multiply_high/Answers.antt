use Rattle.rv_exec.proofs.High.{high_word_of_product}
use Rattle.rv_exec.proofs.arithmetic.multiply_high.Goals as goal

pub returns : goal.returns
returns c = high_word_of_product c.args.a c.args.b _ c.ranges.a c.ranges.b c.requires.first c.requires.second c.cast_unsigned.ensures
