use Rattle.std.proofs.Common.{sym, subst, ◌∙◌}
use Rattle.chip_hub.specs.Cycle.{served_core0, wanted0}
use Rattle.chip_hub.specs.Kept.{HubKept, SeatStands, StepStands}
use Rattle.chip_hub.specs.Seat.{Seat}
use Rattle.chip_hub.proofs.Cycles.{want_served}
use Rattle.chip_hub.proofs.hub.Hub.serve0.Goals as goal

pub returns-in-Want-clause-step : goal.returns-in-Want-clause-step
returns-in-Want-clause-step c =
    let stands : HubKept = record { hub = c.serve0.new.self; seat = c.self.inside.seat; issues = c.self.inside.issues; stored = c.store_of-self-inside.result } in
    subst (λ (k : HubKept). (seat : Seat) → SeatStands k.seat seat → StepStands stands c.serve0.result (served_core0 k.hub seat (wanted0 seat k.hub.core0.phase)))
    c.self.view_is
    (λ seat h.
    want_served c.self.inside.complex _ seat c.in-Want.request _ (sym c.phase0.ensures ∙ c.in-Want.is) (c.serve0.ensures.step seat) h)
