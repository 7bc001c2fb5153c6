use Rattle.std.proofs.Common.{◌≡◌, List, ◌++◌, ap, subst, sym, ◌∙◌}
use Rattle.chip_hub.specs.Cycle.{hub_worked, seat_after, timed, turn1}
use Rattle.chip_hub.specs.Kept.{HubKept, IssuesStand, SeatStands, StepStands}
use Rattle.chip_hub.specs.Seat.{Seat}
use Rattle.chip_base.specs.declared.hart.IssueRecord.{IssueRecord as Record}
use Rattle.chip_hub.specs.Observed.{worked_issues, worked_stored}
use Rattle.chip_hub.proofs.Observed.{cycle_issues, cycle_stored}
use Rattle.chip_hub.proofs.Cycles.{cycle_stands}
use Rattle.chip_hub.proofs.hub.Hub.work.Goals as goal

pub returns-clause-step : goal.returns-clause-step
returns-clause-step c =
    subst (λ (k : HubKept). (seat : Seat) → SeatStands k.seat seat → StepStands c.serve.new.self c.serve.result (hub_worked k.hub seat c.args.now c.args.ups.now)) c.self.view_is
    (λ seat h.
    let then_seat : Seat = seat_after seat c.args.now c.step_time.new.self.core0.phase in
    let stands : SeatStands c.turn0-first.new.self.seat then_seat = c.turn0-first.ensures.seat seat h in
    let kept = subst (λ (k : HubKept). SeatStands k.seat then_seat) (sym c.self-2.view_is) stands in
    cycle_stands _ _ _ _ seat c.args.now _ c.args.ups.now _ _ (c.step_time.ensures ∙ ap timed c.hear.ensures) (c.turn0-first.ensures.hub seat h)
    (c.turn1-second.ensures.after ∙ ap (λ (k : HubKept). turn1 k.hub c.args.now) c.self-2.view_is) (c.wants-wants.ensures.value then_seat kept) (c.serve.ensures.step then_seat kept))

pub returns-clause-issues : goal.returns-clause-issues
returns-clause-issues c =
    let last = c.serve.new.self.issues in
    subst (λ (k : HubKept). (all : List Record) → IssuesStand k.issues all → IssuesStand last (all ++ worked_issues k.hub c.args.now c.args.ups.now)) c.self.view_is
    (λ all h.
    let same : c.self-2.inside.issues ≡ c.self.inside.issues = ap (λ (k : HubKept). k.issues) c.self-2.view_is ∙ c.turn0-first.ensures.issues in
    let rest = ap (λ (k : HubKept). k.hub) c.self-2.view_is ∙ c.turn0-first.ensures.rest in
    c.serve.ensures.issues
    ∙ cycle_issues c.self.inside.complex _ c.self-2.inside.complex _ c.self-2.inside.issues c.note.new.self _ all _ _ c.args.now c.args.ups.now
    (c.step_time.ensures ∙ ap timed c.hear.ensures) rest c.turn0-first.ensures.issued c.turn1-second.ensures.issued c.note.ensures c.note-2.ensures (same ∙ h))

pub returns-clause-stored : goal.returns-clause-stored
returns-clause-stored c =
    subst (λ (k : HubKept). (seat : Seat) → SeatStands k.seat seat → c.serve.new.self.stored ≡ worked_stored k.hub seat c.args.now c.args.ups.now) c.self.view_is
    (λ seat h.
    let then_seat : Seat = seat_after seat c.args.now c.step_time.new.self.core0.phase in
    let kept = subst (λ (k : HubKept). SeatStands k.seat then_seat) (sym c.self-2.view_is) (c.turn0-first.ensures.seat seat h) in
    cycle_stored c.self.inside.complex _ c.self-2.inside.complex _ seat c.args.now _ c.args.ups.now _ (c.step_time.ensures ∙ ap timed c.hear.ensures)
    (ap (λ (k : HubKept). k.hub) c.self-2.view_is ∙ c.turn0-first.ensures.hub seat h) c.turn1-second.ensures.after
    (c.wants-wants.ensures.value then_seat kept) (c.serve.ensures.stored then_seat kept))
