use Rattle.std.proofs.Common.{sym, subst, ◌∙◌}
use Rattle.chip_hub.specs.Cycle.{served_dma}
use Rattle.chip_hub.specs.Kept.{HubKept, SeatStands, StepStands}
use Rattle.chip_hub.specs.Seat.{Seat}
use Rattle.dma_unit.specs.DmaRegisters.{dma_wanted}
use Rattle.chip_hub.proofs.Cycles.{dma_served}
use Rattle.chip_hub.proofs.hub.Hub.serve2.Goals as goal

pub returns-clause-step : goal.returns-clause-step
returns-clause-step c =
    let stands : HubKept = record { hub = c.serve2.new.self; seat = c.self.inside.seat; issues = c.self.inside.issues; stored = c.store_of-self-inside.result } in
    subst (λ (k : HubKept). (seat : Seat) → SeatStands k.seat seat → StepStands stands c.serve2.result (served_dma k.hub seat (dma_wanted k.hub.dma))) c.self.view_is
    (λ seat h. dma_served c.self.inside.complex _ seat c.in-Some.request _ (sym c.want2.ensures ∙ c.in-Some.is) (c.serve2.ensures.step seat) h)
