use Rattle.std.proofs.Common.{None, subst, ◌∙◌}
use Rattle.chip_hub.specs.Cycle.{reset_by}
use Rattle.chip_hub.specs.Kept.{HubKept, SeatStands, StepStands}
use Rattle.chip_hub.specs.Seat.{Seat}
use Rattle.chip_hub.specs.Units.{resets}
use Rattle.chip_hub.proofs.Cycles.{reset_stands}
use Rattle.chip_hub.proofs.hub.Hub.reset.Goals as goal

pub returns-clause-step : goal.returns-clause-step
returns-clause-step c =
    let stands : HubKept = record { hub = c.reset.new.self; seat = c.reset-2.new.self; issues = c.self.inside.issues; stored = None } in
    subst (λ (k : HubKept). (seat : Seat) → SeatStands k.seat seat → StepStands stands resets (reset_by k.hub seat c.args.ups.now)) c.self.view_is
    (λ seat h. reset_stands _ _ _ _ seat _ c.args.ups.now c.hear.ensures c.close.ensures c.reset.ensures (c.boot.ensures ∙ h.boot) (c.reset-2.ensures seat h))
