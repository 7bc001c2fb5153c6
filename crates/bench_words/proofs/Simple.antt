-- The commands of all kinds are simple.
use Rattle.std.proofs.Common.{◌≡◌, refl, true}
use Rattle.clap.specs.Words.{is_simple_and_free}
use Rattle.bench_words.specs.Kinds.{app_of_kind}
use Rattle.bench_words.specs.declared.kind.JobKind.{JobKind}
use Rattle.bench_words.specs.declared.kind.JobKind.TheVariants.{Run, Debug, Demo, Image, Check}

pub all_simple : (kind : JobKind) → is_simple_and_free (app_of_kind kind) ≡ true
all_simple Run = refl
all_simple Debug = refl
all_simple Demo = refl
all_simple Image = refl
all_simple Check = refl
