use Rattle.std.proofs.Common.{sym}
use Rattle.bench_shelf.proofs.Writing.{writes_nothing}
use Rattle.chip_whole.proofs.Next.{next_is}
use Rattle.bench_report.proofs.whole.put_stretch.Goals as goal

pub returns-in-Ok-clause-writes : goal.returns-in-Ok-clause-writes
returns-in-Ok-clause-writes g c board s h = rw (next_is board s c.args.cycles _ (c.in-Ok.ensures.events board s h), sym c.events.ensures) c.put_events.ensures

pub returns-in-Err-clause-writes : goal.returns-in-Err-clause-writes
returns-in-Err-clause-writes g c board s h = writes_nothing _ _ _
