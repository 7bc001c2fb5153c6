use Rattle.std.proofs.Common.{sym, subst}
use Rattle.chip_hub.specs.Kept.{SeatStands}
use Rattle.chip_hub.proofs.Seats.{leaves, stays}
use Rattle.chip_hub.proofs.seat.Seat.is_leaving.Goals as goal

pub returns-in-HandOver : goal.returns-in-HandOver
returns-in-HandOver c seat h = leaves _ seat (subst (λ k. SeatStands k seat) (sym c.self.view_is) h) c.in-HandOver.is

pub returns-in-Bus : goal.returns-in-Bus
returns-in-Bus c seat h = stays _ seat (subst (λ k. SeatStands k seat) (sym c.self.view_is) h) _ c.in-Bus.is
