use Rattle.std.proofs.Common.{◌≡◌, false, Some, sym, subst}
use Rattle.chip_hub.specs.Kept.{SeatKept, SeatStands}
use Rattle.chip_hub.specs.Seat.{is_hand_over}
use Rattle.chip_hub.proofs.Seats.{asks_for, stands_answered}
use Rattle.chip_hub.proofs.seat.Seat.answer.Goals as goal

pub act-self-inside-requires : goal.act-self-inside-requires
act-self-inside-requires c =
    let asked = asks_for c.self.inside.asks (subst (λ (k : SeatKept). is_hand_over k.asks ≡ false) (sym c.self.view_is) c.requires) in
    record { due = c.self.invariant.1 asked.0 c.args.reply asked.1 }

pub invariant_of-self : goal.invariant_of-self
invariant_of-self c = (c.self.invariant.0, c.act-self-inside.ensures.due)

pub returns : goal.returns
returns c seat h =
    let kept = subst (λ k. SeatStands k seat) (sym c.self.view_is) h in
    let given = c.act-self-inside.ensures.answer seat.room seat.ctrl (Some seat.replies) kept.monitor in
    stands_answered _ seat c.args.reply _ _ kept given.0 given.1
