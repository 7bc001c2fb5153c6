-- What is observed of a cycle beside the state.
use Rattle.std.proofs.Common.{◌≡◌, ℕ, List, ◌++◌, Option, None, refl, subst, append_assoc}
use Rattle.std.specs.Prelude.{option_to_list}
use Rattle.chip_base.specs.declared.hart.IssueRecord.{IssueRecord}
use Rattle.chip_base.specs.declared.message.Up.{Up}
use Rattle.core_pair.specs.Core.{CoreState}
use Rattle.core_pair.specs.Turn.{turned}
use Rattle.core_pair.specs.declared.phase.Phase.TheVariants.{Monitor, Parked}
use Rattle.soc_bus.specs.Memory.{MemoryState}
use Rattle.soc_bus.specs.Rotation.{granted}
use Rattle.chip_hub.specs.Cycle.{arrived, seat_after, timed, turn0, turn1, wants_of}
use Rattle.chip_hub.specs.Kept.{IssuesStand}
use Rattle.chip_hub.specs.Lines.{mip_of}
use Rattle.chip_hub.specs.Observed.{issues_of, stored_by, wanted_of, worked_issues, worked_stored}
use Rattle.chip_hub.specs.Seat.{Seat}
use Rattle.chip_hub.specs.State.{HubState}

-- in core 0's place the monitor issues nothing
pub monitor_issues : (c : CoreState) (now mip : ℕ) (m : MemoryState) → c.phase ≡ Monitor → (turned c now mip m).issued ≡ None
unfolding turned
monitor_issues c now mip m e = rw e refl

-- a core that is parked issues nothing
pub parked_issues : (c : CoreState) (now mip : ℕ) (m : MemoryState) → c.phase ≡ Parked → (turned c now mip m).issued ≡ None
unfolding turned
parked_issues c now mip m e = rw e refl

-- how the issues that are kept stand, once one of the cycle is noted
abbrev pub Notes : List IssueRecord → List IssueRecord → Option IssueRecord → Type 0
Notes kept next issued = (all : List IssueRecord) → IssuesStand kept all → IssuesStand next (all ++ option_to_list issued)

-- a cycle without a Fire notes what core 0 issues, and then what core 1 does
pub cycle_issues : (s at_time after_core0 : HubState) (core0 : CoreState) (kept next last all : List IssueRecord) (first second : Option IssueRecord) (now : ℕ)
    → (ups : List (Option Up)) → at_time ≡ timed (arrived s ups) → after_core0 ≡ record at_time { core0 = core0 }
    → first ≡ (turned at_time.core0 now (mip_of at_time 0) at_time.memory).issued
    → second ≡ (turned after_core0.core1 now (mip_of after_core0 1) after_core0.memory).issued
    → Notes kept next first → Notes next last second → IssuesStand kept all → IssuesStand last (all ++ worked_issues s now ups)
unfolding worked_issues
cycle_issues s at_time after_core0 core0 kept next last all first second now ups a b d e f g h =
    let at = timed (arrived s ups) in
    let noted : IssuesStand last (all ++ option_to_list first ++ option_to_list second) = g (all ++ option_to_list first) (f all h) in
    let seen : IssuesStand last (all ++ issues_of at.core0 now at 0 ++ issues_of at.core1 now at 1) = rw (e, b, d, a) at noted in
    subst (λ l. IssuesStand last l) (append_assoc all (issues_of at.core0 now at 0) (issues_of at.core1 now at 1)) seen

-- it keeps the store that is granted
pub cycle_stored : (s at_time after_core0 after_core1 : HubState) (seat : Seat) (now wants : ℕ) (ups : List (Option Up)) (stored : Option (ℕ × ℕ))
    → at_time ≡ timed (arrived s ups) → after_core0 ≡ turn0 at_time seat now → after_core1 ≡ turn1 after_core0 now
    → wants ≡ wants_of after_core1 (seat_after seat now at_time.core0.phase)
    → stored ≡ stored_by (wanted_of after_core1 (seat_after seat now at_time.core0.phase) (granted after_core1.arbiter wants))
    → stored ≡ worked_stored s seat now ups
unfolding worked_stored
cycle_stored s at_time after_core0 after_core1 seat now wants ups stored a b d w e = rw (w, d, b, a) at e
