use Rattle.std.proofs.Common.{None}
use Rattle.chip_hub.proofs.Seats.{stands_begun}
use Rattle.chip_hub.proofs.seat.Seat.begun.Goals as goal

pub returns : goal.returns
returns c =
    let started = c.act-asks.ensures.answer _ _ None c.new-monitor.ensures.stands in
    stands_begun c.args.boot c.args.room c.args.ctrl _ _ started.0 started.1
