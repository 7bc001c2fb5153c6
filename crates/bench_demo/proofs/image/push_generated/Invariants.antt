use Rattle.std.proofs.Common.{◌≡◌, ◌++◌}
use Rattle.bench_demo.specs.Demo.{bytes_of_words, generated, generated_words}
use Rattle.bench_demo.proofs.image.push_generated.Given as goal

abbrev pub invariant-loop : goal.invariant-loop
invariant-loop l = record {
  word : l.word ≡ generated l.seed l.counter;
  bytes : l.bytes.items ≡ l.fn.bytes.items ++ bytes_of_words (generated_words l.seed l.counter);
}
