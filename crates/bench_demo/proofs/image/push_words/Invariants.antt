use Rattle.std.proofs.Common.{◌≡◌, ◌++◌, take}
use Rattle.bench_demo.specs.Demo.{bytes_of_words}
use Rattle.bench_demo.proofs.image.push_words.Given as goal

abbrev pub invariant-loop-word : goal.invariant-loop-word
invariant-loop-word l = l.bytes.items ≡ l.fn.bytes.items ++ bytes_of_words (take l.word-index l.words)
