use Rattle.chip_whole.proofs.Keeping.{step_stands, step_told}
use Rattle.chip_net.proofs.chip.Chip.step.Goals as goal

pub returns-clause-state : goal.returns-clause-state
returns-clause-state g c board s h =
    step_stands board _ _ _ s _ _ _ _ _ _ _ _ _ _ c.arriving-ups.ensures c.now-now.ensures c.cycle-downs.ensures.step c.cycle-downs.ensures.issues c.cycle-downs.ensures.stored
    (rw c.at_stream_link.ensures at (c.cycle-stream.ensures.stands board.part)) c.cycle.ensures.units c.cycle.ensures.down c.cycle.ensures.up c.cycle.ensures.cycle h

pub returns-clause-told : goal.returns-clause-told
returns-clause-told g c board s h =
    step_told board _ _ s _ _ _ c.now-now.ensures (λ u l. (rw c.at_stream_link.ensures at (c.cycle-stream.ensures.stands board.part u l)).2) c.cycle.ensures.told h
