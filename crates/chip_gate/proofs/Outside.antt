-- A cycle of the hub after core 0 left the monitor, in which the hub isn't reset.
use Rattle.std.proofs.Common.{◌≡◌, ℕ, false, List, Option, None, Some, refl, sym, ap, ◌∙◌, subst}
use Rattle.chip_base.specs.declared.message.Up.{Up}
use Rattle.chip_hub.specs.Access.{Accessed, accessed}
use Rattle.chip_hub.specs.Cycle.{answered_core0, arrived, hub_worked, seat_after, served, served_core0, served_core1, served_dma, served_to, timed, turn0, turn1, turned0, wanted0, wants_of}
use Rattle.chip_hub.specs.Seat.{Seat}
use Rattle.chip_hub.specs.State.{HubState, HubStep}
use Rattle.core_pair.specs.Core.{CoreState, wanted_in}
use Rattle.core_pair.specs.declared.phase.Phase.{Phase}
use Rattle.core_pair.specs.declared.phase.Phase.TheVariants.{Run, Want, Sleep, Parked, Monitor}
use Rattle.dma_unit.specs.DmaRegisters.{dma_wanted}
use Rattle.soc_bus.specs.Rotation.{granted}
use Rattle.soc_bus.specs.declared.access.Request.{Request}
use Rattle.soc_bus.specs.declared.arbiter.Master.{Master}
use Rattle.soc_bus.specs.declared.arbiter.Master.TheVariants.{Core0, Core1, Dma as Copier}
use Rattle.chip_gate.specs.Seated.{is_monitor}
use Rattle.chip_gate.proofs.Leaving.{granted_outside, turned_outside}
use Rattle.chip_gate.proofs.Reached.{accessed_core}

-- the seat stays, and core 0 doesn't come back
pub record StaysOut (before : Seat) (step : HubStep) : Type 0 where
  pub phase : is_monitor step.hub.core0.phase ≡ false
  pub seat : step.seat ≡ before

turn_out : (s : HubState) (seat : Seat) (now : ℕ) (p : Phase) → s.core0.phase ≡ p → is_monitor p ≡ false → is_monitor (turned0 s seat now p).phase ≡ false
turn_out s seat now (Run left) e h = turned_outside s.core0 now _ s.memory (ap is_monitor e)
turn_out s seat now (Want request) e h = turned_outside s.core0 now _ s.memory (ap is_monitor e)
turn_out s seat now (Sleep left) e h = turned_outside s.core0 now _ s.memory (ap is_monitor e)
turn_out s seat now Parked e h = turned_outside s.core0 now _ s.memory (ap is_monitor e)
turn_out s seat now Monitor e h = let bad : ⊥ = cc in elim bad [ ]

seat_out : (seat : Seat) (now : ℕ) (p : Phase) → is_monitor p ≡ false → seat_after seat now p ≡ seat
seat_out seat now (Run left) h = refl
seat_out seat now (Want request) h = refl
seat_out seat now (Sleep left) h = refl
seat_out seat now Parked h = refl
seat_out seat now Monitor h = let bad : ⊥ = cc in elim bad [ ]

answer_out : (a : Accessed) (seat : Seat) (p : Phase) → is_monitor p ≡ false → is_monitor a.hub.core0.phase ≡ false → StaysOut seat (answered_core0 a seat p)
answer_out a seat (Run left) h out = record { phase = granted_outside a.hub.core0 a.answer out; seat = refl }
answer_out a seat (Want request) h out = record { phase = granted_outside a.hub.core0 a.answer out; seat = refl }
answer_out a seat (Sleep left) h out = record { phase = granted_outside a.hub.core0 a.answer out; seat = refl }
answer_out a seat Parked h out = record { phase = granted_outside a.hub.core0 a.answer out; seat = refl }
answer_out a seat Monitor h out = let bad : ⊥ = cc in elim bad [ ]

accessed_out : (s : HubState) (r : Request) → is_monitor s.core0.phase ≡ false → is_monitor (accessed s r).hub.core0.phase ≡ false
accessed_out s r h = subst (λ (c : CoreState). is_monitor c.phase ≡ false) (sym (accessed_core s r)) h

served_core0_out : (s : HubState) (seat : Seat) (wanted : Option Request) → is_monitor s.core0.phase ≡ false → StaysOut seat (served_core0 s seat wanted)
served_core0_out s seat None h = record { phase = h; seat = refl }
served_core0_out s seat (Some r) h = answer_out (accessed s r) seat s.core0.phase h (accessed_out s r h)

served_core1_out : (s : HubState) (seat : Seat) (wanted : Option Request) → is_monitor s.core0.phase ≡ false → StaysOut seat (served_core1 s seat wanted)
served_core1_out s seat None h = record { phase = h; seat = refl }
served_core1_out s seat (Some r) h = record { phase = accessed_out s r h; seat = refl }

served_dma_out : (s : HubState) (seat : Seat) (wanted : Option Request) → is_monitor s.core0.phase ≡ false → StaysOut seat (served_dma s seat wanted)
served_dma_out s seat None h = record { phase = h; seat = refl }
served_dma_out s seat (Some r) h = record { phase = accessed_out s r h; seat = refl }

served_out : (s : HubState) (seat : Seat) (master : Option Master) → is_monitor s.core0.phase ≡ false → StaysOut seat (served_to s seat master)
served_out s seat None h = record { phase = h; seat = refl }
served_out s seat (Some Core0) h = served_core0_out s seat (wanted0 seat s.core0.phase) h
served_out s seat (Some Core1) h = served_core1_out s seat (wanted_in s.core1.phase) h
served_out s seat (Some Copier) h = served_dma_out s seat (dma_wanted s.dma) h

-- a cycle after core 0 left
pub cycle_out : (s : HubState) (seat : Seat) (now : ℕ) (ups : List (Option Up)) → is_monitor s.core0.phase ≡ false → StaysOut seat (hub_worked s seat now ups)
unfolding hub_worked
cycle_out s seat now ups h =
    let at_time : HubState = timed (arrived s ups) in
    let turned : HubState = turn1 (turn0 at_time seat now) now in
    let out : is_monitor turned.core0.phase ≡ false = turn_out at_time seat now s.core0.phase refl h in
    let then_seat : Seat = seat_after seat now s.core0.phase in
    let stays : StaysOut then_seat (served turned then_seat (wants_of turned then_seat)) = served_out _ then_seat (granted turned.arbiter (wants_of turned then_seat)) out in
    record { phase = stays.phase; seat = stays.seat ∙ seat_out seat now s.core0.phase h }
