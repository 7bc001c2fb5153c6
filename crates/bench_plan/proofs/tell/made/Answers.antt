use Rattle.std.proofs.Common.{refl}
use Rattle.bench_plan.proofs.Making.{made_failed, made_told, made_wanting}
use Rattle.bench_plan.proofs.tell.made.Goals as goal

pub returns-in-Err-Memory : goal.returns-in-Err-Memory
returns-in-Err-Memory g c = made_wanting _ _ _ _ _ _ c.write.ensures.stays

pub returns-in-Err-Failed : goal.returns-in-Err-Failed
returns-in-Err-Failed g c =
    let e = rw c.in-Err-Failed.field-0-is at c.in-Err-Failed.ensures in
    made_failed _ _ _ _ _ _ e.stays (e.failed refl)

pub returns-in-Ok : goal.returns-in-Ok
returns-in-Ok g c =
    made_told (record { name = c.args.name.now; bytes = c.args.bytes.now }) c.args.line.now _ _ _ _ _ _ _ c.in-Ok.ensures.stays c.in-Ok.ensures.no_fault c.in-Ok.ensures.written
    (c.said.ensures _ _ _ _ _ c.put.ensures)
