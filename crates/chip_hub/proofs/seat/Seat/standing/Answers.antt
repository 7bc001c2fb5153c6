use Rattle.std.proofs.Common.{sym, subst}
use Rattle.chip_hub.specs.Kept.{SeatStands}
use Rattle.chip_hub.proofs.Seats.{stands_asking, stands_pausing, stands_silent}
use Rattle.chip_hub.proofs.seat.Seat.standing.Goals as goal

pub returns-in-Bus-clause-value : goal.returns-in-Bus-clause-value
returns-in-Bus-clause-value c seat h = stands_asking _ seat (subst (λ k. SeatStands k seat) (sym c.self.view_is) h) _ c.in-Bus.is c.if-self-eq0.true

pub returns-in_default-clause-value : goal.returns-in_default-clause-value
returns-in_default-clause-value c seat h = stands_pausing _ seat (subst (λ k. SeatStands k seat) (sym c.self.view_is) h) c.if-self-eq0.false

pub returns-in_default-2-clause-value : goal.returns-in_default-2-clause-value
returns-in_default-2-clause-value c seat h = stands_silent _ seat (subst (λ k. SeatStands k seat) (sym c.self.view_is) h) c.in_default.is
