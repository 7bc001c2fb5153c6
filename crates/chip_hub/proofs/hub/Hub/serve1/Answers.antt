use Rattle.std.proofs.Common.{sym, subst, ◌∙◌}
use Rattle.chip_hub.specs.Cycle.{served_core1}
use Rattle.chip_hub.specs.Kept.{HubKept, SeatStands, StepStands}
use Rattle.chip_hub.specs.Seat.{Seat}
use Rattle.core_pair.specs.Core.{wanted_in}
use Rattle.chip_hub.proofs.Cycles.{core1_served}
use Rattle.chip_hub.proofs.hub.Hub.serve1.Goals as goal

pub returns-clause-step : goal.returns-clause-step
returns-clause-step c =
    let stands : HubKept = record { hub = c.serve1.new.self; seat = c.self.inside.seat; issues = c.self.inside.issues; stored = c.store_of-self-inside.result } in
    subst (λ (k : HubKept). (seat : Seat) → SeatStands k.seat seat → StepStands stands c.serve1.result (served_core1 k.hub seat (wanted_in k.hub.core1.phase))) c.self.view_is
    (λ seat h. core1_served c.self.inside.complex _ seat c.in-Some.request _ (sym c.want1.ensures ∙ c.in-Some.is) (c.serve1.ensures.step seat) h)
