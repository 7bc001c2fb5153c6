-- The steps of a cycle, as the code of a hub makes them.
use Rattle.std.proofs.Common.{◌≡◌, ℕ, List, Option, Some, None, refl, subst, sym, ap, ◌∙◌}
use Rattle.chip_base.specs.declared.boot.Boot.{Boot}
use Rattle.chip_base.specs.declared.message.Down.{Down}
use Rattle.chip_base.specs.declared.message.Up.{Up}
use Rattle.core_pair.specs.Core.{wanted_in}
use Rattle.core_pair.specs.declared.phase.Phase.TheVariants.{Want}
use Rattle.soc_bus.specs.Rotation.{ArbiterState, after_grant, granted}
use Rattle.soc_bus.specs.declared.access.Request.{Request}
use Rattle.soc_bus.specs.declared.arbiter.Master.{Master}
use Rattle.soc_bus.specs.declared.arbiter.Master.TheVariants.{Core0, Core1, Dma}
use Rattle.dma_unit.specs.DmaRegisters.{dma_wanted}
use Rattle.chip_hub.specs.Access.{accessed}
use Rattle.chip_hub.specs.Cycle.{answered_core0, answered_core1, answered_dma, arrived, closed, hub_worked, reset_by, seat_after, served, served_core0, served_core1, served_dma, served_to, timed, turn0, turn1, wanted0, wants_of}
use Rattle.chip_hub.specs.Kept.{HubKept, SeatStands, StepStands}
use Rattle.chip_hub.specs.Observed.{stored_by, wanted_of}
use Rattle.chip_hub.specs.Seat.{Seat, seat_reset}
use Rattle.chip_hub.specs.Start.{hub_reset}
use Rattle.chip_hub.specs.State.{HubState, HubStep}
use Rattle.chip_hub.specs.Units.{resets}

-- a step that leaves the seat as it was
stands_after : (kept : HubKept) (seat : Seat) (sent : List (Option Down)) (step : HubStep)
    → ◌≡◌ {A = HubStep} (record { hub = kept.hub; seat = seat; downs = sent }) step → SeatStands kept.seat seat → StepStands kept sent step
stands_after kept seat sent step e h = subst (λ step. StepStands kept sent step) e (record { hub = refl; seat = h; downs = refl })

-- core 0 is granted the request that it waits for
pub want_served : (s : HubState) (kept : HubKept) (seat : Seat) (request : Request) (sent : List (Option Down)) → s.core0.phase ≡ Want request
    → ◌≡◌ {A = HubStep} (record { hub = kept.hub; seat = seat; downs = sent }) (answered_core0 (accessed s request) seat (Want request)) → SeatStands kept.seat seat
    → StepStands kept sent (served_core0 s seat (wanted0 seat s.core0.phase))
want_served s kept seat request sent e step h =
    let given : StepStands kept sent (answered_core0 (accessed s request) seat (Want request)) = stands_after kept seat sent _ step h in
    subst (λ wanted. StepStands kept sent (served_core0 s seat wanted)) (sym (ap (wanted0 seat) e))
    (subst (λ phase. StepStands kept sent (answered_core0 (accessed s request) seat phase)) (sym e) given)

-- core 1 is granted the request that it waits for
pub core1_served : (s : HubState) (kept : HubKept) (seat : Seat) (request : Request) (sent : List (Option Down)) → wanted_in s.core1.phase ≡ Some request
    → ◌≡◌ {A = HubStep} (record { hub = kept.hub; seat = seat; downs = sent }) (answered_core1 (accessed s request) seat) → SeatStands kept.seat seat
    → StepStands kept sent (served_core1 s seat (wanted_in s.core1.phase))
core1_served s kept seat request sent e step h =
    subst (λ wanted. StepStands kept sent (served_core1 s seat wanted)) (sym e) (stands_after kept seat sent (answered_core1 (accessed s request) seat) step h)

-- the DMA is granted the request that it waits for
pub dma_served : (s : HubState) (kept : HubKept) (seat : Seat) (request : Request) (sent : List (Option Down)) → dma_wanted s.dma ≡ Some request
    → ◌≡◌ {A = HubStep} (record { hub = kept.hub; seat = seat; downs = sent }) (answered_dma (accessed s request) seat) → SeatStands kept.seat seat
    → StepStands kept sent (served_dma s seat (dma_wanted s.dma))
dma_served s kept seat request sent e step h =
    subst (λ wanted. StepStands kept sent (served_dma s seat wanted)) (sym e) (stands_after kept seat sent (answered_dma (accessed s request) seat) step h)

-- what a master wants of the bus doesn't rest on the arbiter
wanted_still : (s : HubState) (seat : Seat) (master : Option Master) (arbiter : ArbiterState)
    → wanted_of (record s { arbiter = arbiter }) seat master ≡ wanted_of s seat master
wanted_still s seat None arbiter = refl
wanted_still s seat (Some Core0) arbiter = refl
wanted_still s seat (Some Core1) arbiter = refl
wanted_still s seat (Some Dma) arbiter = refl

-- the access of the master that the bus is granted to
pub grant_served : (s next : HubState) (kept : HubKept) (seat : Seat) (wants : ℕ) (master : Option Master) (sent : List (Option Down))
    → master ≡ granted s.arbiter wants → next ≡ record s { arbiter = after_grant s.arbiter wants }
    → StepStands kept sent (served_to next seat master) → StepStands kept sent (served s seat wants)
grant_served s next kept seat wants master sent g n step =
    subst (λ master. StepStands kept sent (served_to (record s { arbiter = after_grant s.arbiter wants }) seat master)) g
    (subst (λ (next : HubState). StepStands kept sent (served_to next seat master)) n step)

-- its store
pub grant_stored : (s next : HubState) (seat : Seat) (wants : ℕ) (master : Option Master) (stored : Option (ℕ × ℕ))
    → master ≡ granted s.arbiter wants → next ≡ record s { arbiter = after_grant s.arbiter wants }
    → stored ≡ stored_by (wanted_of next seat master) → stored ≡ stored_by (wanted_of s seat (granted s.arbiter wants))
grant_stored s next seat wants master stored g n e =
    subst (λ master. stored ≡ stored_by (wanted_of s seat master)) g
    (e ∙ ap stored_by (ap (λ (next : HubState). wanted_of next seat master) n ∙ wanted_still s seat master (after_grant s.arbiter wants)))

-- all six steps of a cycle without a Fire
pub cycle_stands : (s at_time after_core0 after_core1 : HubState) (seat : Seat) (now wants : ℕ) (ups : List (Option Up)) (kept : HubKept) (sent : List (Option Down))
    → at_time ≡ timed (arrived s ups) → after_core0 ≡ turn0 at_time seat now → after_core1 ≡ turn1 after_core0 now
    → wants ≡ wants_of after_core1 (seat_after seat now at_time.core0.phase)
    → StepStands kept sent (served after_core1 (seat_after seat now at_time.core0.phase) wants)
    → StepStands kept sent (hub_worked s seat now ups)
unfolding hub_worked
cycle_stands s at_time after_core0 after_core1 seat now wants ups kept sent a b c w step = rw (w, c, b, a) at step

-- the steps of a cycle in which a Fire arrives
pub reset_stands : (s heard shut : HubState) (kept : HubKept) (seat : Seat) (boot : Boot) (ups : List (Option Up))
    → heard ≡ arrived s ups → shut ≡ record heard { fronts = closed heard.fronts } → kept.hub ≡ hub_reset boot shut.clock shut.memory shut.fronts → boot ≡ seat.boot
    → SeatStands kept.seat (seat_reset seat) → StepStands kept resets (reset_by s seat ups)
reset_stands s heard shut kept seat boot ups a b d e h = record { hub = rw (d, e, b, a) refl; seat = h; downs = refl }
