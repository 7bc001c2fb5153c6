use Rattle.std.proofs.Common.{◌≡◌, fold, take}
use Rattle.clap.specs.Words.{app_of}
use Rattle.bench_words.specs.Apps.{with_option}
use Rattle.bench_words.proofs.command.add_options.Given as goal

abbrev pub invariant-loop-id : goal.invariant-loop-id
invariant-loop-id l = app_of l.command ≡ fold (λ a s. with_option a s.now) (app_of l.fn.command) (take l.id-index l.ids)
