use Rattle.std.proofs.Common.{◌≡◌, subst}
use Rattle.chip_hub.specs.Cycle.{served}
use Rattle.chip_hub.specs.Kept.{HubKept, SeatStands, StepStands}
use Rattle.chip_hub.specs.Observed.{stored_by, wanted_of}
use Rattle.chip_hub.specs.Seat.{Seat}
use Rattle.soc_bus.specs.Rotation.{granted}
use Rattle.chip_hub.proofs.Cycles.{grant_served, grant_stored}
use Rattle.chip_hub.proofs.hub.Hub.serve.Goals as goal

pub returns-clause-step : goal.returns-clause-step
returns-clause-step c =
    subst (λ (k : HubKept). (seat : Seat) → SeatStands k.seat seat → StepStands c.serve_master.new.self c.serve_master.result (served k.hub seat c.args.wants)) c.self.view_is
    (λ seat h. grant_served c.self.inside.complex _ _ seat c.args.wants _ _ c.grant-master.ensures.served c.grant-master.ensures.turns (c.serve_master.ensures.step seat h))

pub returns-clause-stored : goal.returns-clause-stored
returns-clause-stored c =
    subst (λ (k : HubKept). (seat : Seat) → SeatStands k.seat seat → c.serve_master.new.self.stored ≡ stored_by (wanted_of k.hub seat (granted k.hub.arbiter c.args.wants))) c.self.view_is
    (λ seat h. grant_stored c.self.inside.complex _ seat c.args.wants _ _ c.grant-master.ensures.served c.grant-master.ensures.turns (c.serve_master.ensures.stored seat h))
