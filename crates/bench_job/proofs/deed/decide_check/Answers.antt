use Rattle.std.proofs.Common.{None, ap}
use Rattle.bench_plan.proofs.Readings.{reads_then, reads_exit_as, reads_gives}
use Rattle.bench_words.specs.Jobs.{checking_view}
use Rattle.bench_job.specs.Plans.{checking_room, checking_step, done_of}
use Rattle.bench_job.proofs.deed.decide_check.Goals as goal

pub returns-in_err-image : goal.returns-in_err-image
returns-in_err-image g c = λ handed.
    reads_then (checking_room (checking_view c.args.job.now)) _ c.in_ok-room.ensures
    (reads_exit_as checking_step (done_of handed) c.from_residual-in_err-image.result c.from_residual-in_err-image.ensures.1 c.in_err-image.ensures.reads)

pub returns : goal.returns
returns g c = λ handed.
    let same = rw c.deref.ensures.value at c.image_line-text.ensures in
    reads_then (checking_room (checking_view c.args.job.now)) _ c.in_ok-room.ensures
    (reads_then checking_step _ c.in_ok-image.ensures.reads (reads_gives _ _ _ (ap (λ t. record { text = t; out = None }) same)))
