use Rattle.std.proofs.Common.{◌∙◌, ap}
use Rattle.clap.specs.Words.{is_simple_and_free}
use Rattle.bench_words.proofs.Simple.{all_simple}
use Rattle.bench_words.proofs.kind.matches_of_kind.Goals as goal

pub matches_of_words-requires : goal.matches_of_words-requires
matches_of_words-requires c = ap is_simple_and_free c.in-Ok.ensures ∙ all_simple c.args.kind
