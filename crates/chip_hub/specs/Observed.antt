-- A definition: what is observed of a cycle of the hub beside its state: the instructions that its harts issue, and the store that is granted.
use Rattle.std.specs.Prelude.{ℕ, List, [], ◌++◌, Option, Some, None, if◌then◌else◌, option_map, option_to_list}
use Rattle.chip_base.specs.declared.hart.IssueRecord.{IssueRecord}
use Rattle.chip_base.specs.declared.message.Up.{Up}
use Rattle.core_pair.specs.Core.{CoreState, wanted_in}
use Rattle.core_pair.specs.Turn.{turned}
use Rattle.dma_unit.specs.DmaRegisters.{dma_wanted}
use Rattle.soc_bus.specs.Access.{width_bytes}
use Rattle.soc_bus.specs.Rotation.{granted}
use Rattle.soc_bus.specs.declared.access.Request.{Request}
use Rattle.soc_bus.specs.declared.arbiter.Master.{Master}
use Rattle.soc_bus.specs.declared.arbiter.Master.TheVariants.{Core0, Core1, Dma}
use Rattle.chip_hub.specs.Cycle.{arrived, fires, seat_after, timed, turn0, turn1, wanted0, wants_of}
use Rattle.chip_hub.specs.Lines.{mip_of}
use Rattle.chip_hub.specs.Seat.{Seat}
use Rattle.chip_hub.specs.State.{HubState}

-- what a core issues in its turn, where it has one: in core 0's place the monitor issues nothing
abbrev pub issues_of : CoreState → ℕ → HubState → ℕ → List IssueRecord
issues_of core now s hart = option_to_list (turned core now (mip_of s hart) s.memory).issued

-- the instructions that are issued in a cycle without a Fire, by hart
-- core 0's turn changes nothing that core 1's turn reads, so both are asked of the state at_time
unfoldable pub worked_issues : HubState → ℕ → List (Option Up) → List IssueRecord
worked_issues s now ups = let at_time = timed (arrived s ups) in issues_of at_time.core0 now at_time 0 ++ issues_of at_time.core1 now at_time 1

-- the instructions that are issued in a cycle; none in one in which the hub is reset
unfoldable pub hub_issues : HubState → ℕ → List (Option Up) → List IssueRecord
hub_issues s now ups = if fires ups then [] else worked_issues s now ups

-- the address of a store, and the number of its bytes
abbrev pub stored_by : Option Request → Option (ℕ × ℕ)
stored_by None = None
stored_by (Some request) = option_map (λ value. (request.addr, width_bytes request.width)) request.store

-- what a master wants of the bus
abbrev pub wanted_of : HubState → Seat → Option Master → Option Request
wanted_of s seat None = None
wanted_of s seat (Some Core0) = wanted0 seat s.core0.phase
wanted_of s seat (Some Core1) = wanted_in s.core1.phase
wanted_of s seat (Some Dma) = dma_wanted s.dma

-- the store that is granted in a cycle without a Fire, whoever its master is, and whether or not it is refused
unfoldable pub worked_stored : HubState → Seat → ℕ → List (Option Up) → Option (ℕ × ℕ)
worked_stored s seat now ups =
    let after_core1 = turn1 (turn0 (timed (arrived s ups)) seat now) now in
    let then_seat = seat_after seat now s.core0.phase in
    stored_by (wanted_of after_core1 then_seat (granted after_core1.arbiter (wants_of after_core1 then_seat)))

-- the store that is granted in a cycle; none in one in which the hub is reset
unfoldable pub hub_stored : HubState → Seat → ℕ → List (Option Up) → Option (ℕ × ℕ)
hub_stored s seat now ups = if fires ups then None else worked_stored s seat now ups
