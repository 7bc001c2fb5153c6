use Rattle.std.proofs.Common.{refl}
use Rattle.bench_plan.proofs.Readings.{reads_unread, reads_too_long, reads_wanting, too_long}
use Rattle.bench_plan.proofs.file.fetch.Goals as goal

pub returns-in-Err-Failed-clause-reads : goal.returns-in-Err-Failed-clause-reads
returns-in-Err-Failed-clause-reads g c =
    let e = rw c.in-Err-Failed.field-0-is at c.in-Err-Failed.ensures in
    reads_unread c.args.name.now c.args.limit c.unread.result e.stays c.unread.ensures (e.failed refl)

pub returns-in-Err-Long-clause-reads : goal.returns-in-Err-Long-clause-reads
returns-in-Err-Long-clause-reads g c =
    let e = rw c.in-Err-Long.field-0-is at c.in-Err-Long.ensures in
    reads_too_long c.args.name.now c.args.limit c.long.result e.stays c.long.ensures
    (too_long (g.S.Shelf.held c.args.shelf.now) (g.S.Shelf.held c.read.new.self) c.args.name.now c.args.limit (e.long_disclosed c.in-Err-Long.field-0-0 refl) (e.long_undisclosed c.in-Err-Long.field-0-0 refl))

pub returns-in-Err-Memory-clause-reads : goal.returns-in-Err-Memory-clause-reads
returns-in-Err-Memory-clause-reads g c =
    let e = c.read.ensures in
    reads_wanting c.args.name.now c.args.limit e.stays
