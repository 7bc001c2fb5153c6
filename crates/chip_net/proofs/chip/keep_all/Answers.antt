use Rattle.std.proofs.Common.{arith}
use Rattle.chip_net.proofs.Kept.{kept_more}
use Rattle.chip_net.proofs.chip.keep_all.Goals as goal

pub loop-event-preserved : goal.loop-event-preserved
loop-event-preserved c = kept_more _ _ _ c.args.told.now c.loop-event.event-index _ (omega (arith, c.loop-event-test.true)) c.loop-event.invariant c.in_ok-keep.ensures
