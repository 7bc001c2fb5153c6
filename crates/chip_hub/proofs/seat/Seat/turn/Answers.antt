use Rattle.std.proofs.Common.{sym, subst, ◌∙◌}
use Rattle.chip_hub.specs.Kept.{SeatStands}
use Rattle.chip_hub.proofs.Seats.{stands_leaving, stands_staying}
use Rattle.chip_hub.proofs.seat.Seat.turn.Goals as goal

pub returns-then-leaves-clause-seat : goal.returns-then-leaves-clause-seat
returns-then-leaves-clause-seat c seat h =
    let kept = subst (λ k. SeatStands k seat) (sym c.self.view_is) h in
    stands_leaving _ seat c.args.now _ kept c.saturating_sub-self-inside.ensures (sym (c.is_leaving-leaves.ensures seat h) ∙ c.if-leaves.true)

pub returns-else-leaves-clause-seat : goal.returns-else-leaves-clause-seat
returns-else-leaves-clause-seat c seat h =
    let kept = subst (λ k. SeatStands k seat) (sym c.self.view_is) h in
    stands_staying _ seat c.args.now _ kept c.saturating_sub-self-inside.ensures (sym (c.is_leaving-leaves.ensures seat h) ∙ c.if-leaves.false)
