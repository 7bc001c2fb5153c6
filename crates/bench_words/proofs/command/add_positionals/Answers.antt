use Rattle.std.proofs.Common.{[]}
use Rattle.clap.specs.Words.{app_of}
use Rattle.bench_words.specs.Apps.{with_positional}
use Rattle.bench_words.proofs.Taken.{added}
use Rattle.bench_words.proofs.command.add_positionals.Goals as goal

pub loop-id-preserved : goal.loop-id-preserved
loop-id-preserved c = added (λ a s. with_positional a s.now) (app_of c.args.command) (app_of c.loop-id.command) (app_of c.in-Ok.next)
    c.args.ids.now c.loop-id.id-index (record { ref_ptr = (0, 0); now = [] }) c.loop-id-test.true c.loop-id.invariant c.in-Ok.ensures
