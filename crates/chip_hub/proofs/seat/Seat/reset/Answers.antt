use Rattle.std.proofs.Common.{sym, subst}
use Rattle.chip_hub.specs.Kept.{SeatStands}
use Rattle.chip_hub.specs.Seat.{seat_reset}
use Rattle.chip_hub.proofs.Seats.{stands_reset}
use Rattle.chip_hub.proofs.seat.Seat.reset.Goals as goal

pub returns : goal.returns
returns c seat h =
    let kept = subst (λ k. SeatStands k seat) (sym c.self.view_is) h in
    subst (λ k. SeatStands k (seat_reset seat)) (sym c.self-2.view_is) (stands_reset _ _ seat kept c.begun.ensures)
