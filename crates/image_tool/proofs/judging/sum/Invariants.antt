use Rattle.std.proofs.Common.{◌≡◌, ◌≤◌, ◌%◌, length, drop}
use Rattle.image_tool.specs.Image.{words as words_of, wrapping_sum}
use Rattle.image_tool.proofs.judging.sum.Given as goal

abbrev pub invariant-loop-left : goal.invariant-loop-left
invariant-loop-left l = (l.left % 4 ≡ 0) × (l.left ≤ length l.words) × (l.total ≡ wrapping_sum (words_of (drop l.left l.words)))

abbrev pub decreases-loop-left : goal.decreases-loop-left
decreases-loop-left l = l.left
