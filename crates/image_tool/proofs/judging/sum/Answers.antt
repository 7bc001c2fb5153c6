use Rattle.std.proofs.Common.{◌≤◌, arith}
use Rattle.image_tool.proofs.WordLemmas.{sum_before}
use Rattle.image_tool.proofs.judging.sum.Goals as goal

pub loop-left-preserved : goal.loop-left-preserved
loop-left-preserved c =
    let enough : 4 ≤ c.loop-left.left = omega (arith, c.loop-left.invariant.0, c.loop-left-test.true) in (
      omega (arith, c.loop-left.invariant.0, enough),
      omega (arith, c.loop-left.invariant.1),
      sum_before c.args.words.now c.loop-left.left c.word_at-total.result c.loop-left.total enough c.loop-left.invariant.1
          c.word_at-total.ensures c.loop-left.invariant.2,
    )
