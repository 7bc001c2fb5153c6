-- Core 0 stays hart 0, and core 1 hart 1; and each issue tells its hart.
use Rattle.std.proofs.Common.{◌≡◌, ◌==◌, ℕ, Bool, true, false, List, length, Option, Some, None, Result, Ok, Err, refl, ◌∙◌, if◌then◌else◌, [], ◌++◌, IfSome}
use Rattle.std.specs.Prelude.{option_to_list}
use Rattle.chip_base.specs.declared.hart.IssueRecord.{IssueRecord}
use Rattle.chip_hub.specs.Lines.{mip_of}
use Rattle.chip_hub.specs.Observed.{hub_issues, worked_issues}
use Rattle.core_pair.proofs.Issues.{recorded}
use Rattle.core_pair.specs.Turn.{turned}
use Rattle.chip_base.specs.Settings.{Values}
use Rattle.chip_base.specs.UnitTable.{unit_numbered}
use Rattle.chip_base.specs.declared.boot.Boot.{Boot}
use Rattle.chip_base.specs.declared.boot.Boot.TheVariants.{Raw, Direct, Monitor as AtBoot}
use Rattle.chip_base.specs.declared.chip_unit.ChipUnit.{ChipUnit}
use Rattle.chip_base.specs.declared.message.Up.{Up}
use Rattle.core_pair.specs.Core.{CoreState, reset_core, wanted_in}
use Rattle.core_pair.specs.declared.phase.Phase.{Phase}
use Rattle.core_pair.specs.declared.phase.Phase.TheVariants.{Run, Want, Sleep, Parked, Monitor}
use Rattle.dma_unit.specs.DmaRegisters.{dma_wanted}
use Rattle.soc_bus.specs.Map.{admitted}
use Rattle.soc_bus.specs.Memory.{MemoryState}
use Rattle.soc_bus.specs.Rotation.{granted}
use Rattle.soc_bus.specs.declared.access.BusFault.{BusFault}
use Rattle.soc_bus.specs.declared.access.Region.{Region}
use Rattle.soc_bus.specs.declared.access.Region.TheVariants.{Imem, Dmem, Clint, Mailbox, Sysinfo, Dma, Device}
use Rattle.soc_bus.specs.declared.access.Request.{Request}
use Rattle.soc_bus.specs.declared.arbiter.Master.{Master}
use Rattle.soc_bus.specs.declared.arbiter.Master.TheVariants.{Core0, Core1, Dma as Copier}
use Rattle.chip_hub.specs.Access.{accessed, accessed_by, in_clint, in_dma, in_mailbox, in_memory, in_numbered, in_region, in_sysinfo, memory_stored}
use Rattle.chip_hub.specs.Cycle.{arrived, core0_granted, fires, hub_cycle, hub_worked, reset_by, seat_after, served_core0, served_core1, served_dma, served_to, started_by, timed, turn0, turn1, turned0, turned1, wanted0, wants_of}
use Rattle.chip_hub.specs.Seat.{Seat, hands_over}
use Rattle.chip_hub.specs.Start.{first_core, hub_start}
use Rattle.chip_hub.specs.State.{HubState}
use Rattle.core_pair.proofs.Numbers.{grant_keeps, turn_keeps}

-- core 0 has hart 0, and core 1 has hart 1
abbrev pub AreNumbered : HubState → Type 0
AreNumbered s = (s.core0.csrs.hart ≡ 0) × (s.core1.csrs.hart ≡ 1)

-- an access leaves the cores

memory_numbers : (s : HubState) (m : Result MemoryState BusFault) → AreNumbered s → AreNumbered (memory_stored s m).hub
memory_numbers s (Ok m) h = h
memory_numbers s (Err fault) h = h

in_memory_numbers : (s : HubState) (r : Request) (store : Option ℕ) → AreNumbered s → AreNumbered (in_memory s r store).hub
in_memory_numbers s r None h = h
in_memory_numbers s r (Some value) h = memory_numbers s _ h

in_clint_numbers : (s : HubState) (r : Request) (store : Option ℕ) → AreNumbered s → AreNumbered (in_clint s r store).hub
in_clint_numbers s r None h = h
in_clint_numbers s r (Some value) h = h

in_mailbox_numbers : (s : HubState) (r : Request) (store : Option ℕ) → AreNumbered s → AreNumbered (in_mailbox s r store).hub
in_mailbox_numbers s r None h = h
in_mailbox_numbers s r (Some value) h = h

in_sysinfo_numbers : (s : HubState) (r : Request) (store : Option ℕ) → AreNumbered s → AreNumbered (in_sysinfo s r store).hub
in_sysinfo_numbers s r None h = h
in_sysinfo_numbers s r (Some value) h = h

in_dma_numbers : (s : HubState) (r : Request) (store : Option ℕ) → AreNumbered s → AreNumbered (in_dma s r store).hub
in_dma_numbers s r None h = h
in_dma_numbers s r (Some value) h = h

in_numbered_numbers : (s : HubState) (r : Request) (unit : Option ChipUnit) (reg : ℕ) → AreNumbered s → AreNumbered (in_numbered s r unit reg).hub
in_numbered_numbers s r None reg h = h
in_numbered_numbers s r (Some unit) reg h = h

in_region_numbers : (s : HubState) (r : Request) (region : Region) → AreNumbered s → AreNumbered (in_region s r region).hub
in_region_numbers s r Imem h = in_memory_numbers s r r.store h
in_region_numbers s r Dmem h = in_memory_numbers s r r.store h
in_region_numbers s r Clint h = in_clint_numbers s r r.store h
in_region_numbers s r Mailbox h = in_mailbox_numbers s r r.store h
in_region_numbers s r Sysinfo h = in_sysinfo_numbers s r r.store h
in_region_numbers s r Dma h = in_dma_numbers s r r.store h
in_region_numbers s r (Device number reg) h = in_numbered_numbers s r (unit_numbered number) reg h

found_numbers : (s : HubState) (r : Request) (found : Result Region BusFault) → AreNumbered s → AreNumbered (accessed_by s r found).hub
found_numbers s r (Ok region) h = in_region_numbers s r region h
found_numbers s r (Err fault) h = h

access_numbers : (s : HubState) (r : Request) → AreNumbered s → AreNumbered (accessed s r).hub
unfolding accessed
access_numbers s r h = found_numbers s r (admitted r (length s.memory.imem) (length s.memory.dmem)) h

-- the turns

turned0_number : (s : HubState) (seat : Seat) (now : ℕ) (p : Phase) → AreNumbered s → (turned0 s seat now p).csrs.hart ≡ 0
turned0_number s seat now (Run left) h = turn_keeps s.core0 now _ s.memory ∙ h.0
turned0_number s seat now (Want request) h = turn_keeps s.core0 now _ s.memory ∙ h.0
turned0_number s seat now (Sleep left) h = turn_keeps s.core0 now _ s.memory ∙ h.0
turned0_number s seat now Parked h = turn_keeps s.core0 now _ s.memory ∙ h.0
turned0_number s seat now Monitor h = by_hand_over (hands_over seat)
  where
    by_hand_over : (b : Bool) → (if b then reset_core 0 else s.core0).csrs.hart ≡ 0
    by_hand_over true = refl
    by_hand_over false = h.0

turned1_number : (s : HubState) (now : ℕ) (p : Phase) → AreNumbered s → (turned1 s now p).csrs.hart ≡ 1
turned1_number s now (Run left) h = turn_keeps s.core1 now _ s.memory ∙ h.1
turned1_number s now (Want request) h = turn_keeps s.core1 now _ s.memory ∙ h.1
turned1_number s now (Sleep left) h = turn_keeps s.core1 now _ s.memory ∙ h.1
turned1_number s now Monitor h = turn_keeps s.core1 now _ s.memory ∙ h.1
turned1_number s now Parked h = by_start (s.clint.msip1 == 1)
  where
    by_start : (b : Bool) → (started_by s b).csrs.hart ≡ 1
    by_start true = h.1
    by_start false = h.1

-- the grant

granted0_number : (core : CoreState) (answer : Result ℕ BusFault) (p : Phase) → core.csrs.hart ≡ 0 → (core0_granted core answer p).csrs.hart ≡ 0
granted0_number core answer (Run left) h = grant_keeps core answer ∙ h
granted0_number core answer (Want request) h = grant_keeps core answer ∙ h
granted0_number core answer (Sleep left) h = grant_keeps core answer ∙ h
granted0_number core answer Parked h = grant_keeps core answer ∙ h
granted0_number core answer Monitor h = h

core0_numbers : (s : HubState) (seat : Seat) (wanted : Option Request) → AreNumbered s → AreNumbered (served_core0 s seat wanted).hub
core0_numbers s seat None h = h
core0_numbers s seat (Some r) h = let a = access_numbers s r h in (granted0_number (accessed s r).hub.core0 (accessed s r).answer s.core0.phase a.0, a.1)

core1_numbers : (s : HubState) (seat : Seat) (wanted : Option Request) → AreNumbered s → AreNumbered (served_core1 s seat wanted).hub
core1_numbers s seat None h = h
core1_numbers s seat (Some r) h = let a = access_numbers s r h in (a.0, grant_keeps (accessed s r).hub.core1 (accessed s r).answer ∙ a.1)

dma_numbers : (s : HubState) (seat : Seat) (wanted : Option Request) → AreNumbered s → AreNumbered (served_dma s seat wanted).hub
dma_numbers s seat None h = h
dma_numbers s seat (Some r) h = access_numbers s r h

served_numbers : (s : HubState) (seat : Seat) (master : Option Master) → AreNumbered s → AreNumbered (served_to s seat master).hub
served_numbers s seat None h = h
served_numbers s seat (Some Core0) h = core0_numbers s seat (wanted0 seat s.core0.phase) h
served_numbers s seat (Some Core1) h = core1_numbers s seat (wanted_in s.core1.phase) h
served_numbers s seat (Some Copier) h = dma_numbers s seat (dma_wanted s.dma) h

worked_numbers : (s : HubState) (seat : Seat) (now : ℕ) (ups : List (Option Up)) → AreNumbered s → AreNumbered (hub_worked s seat now ups).hub
unfolding hub_worked
worked_numbers s seat now ups h =
    let at_time : HubState = timed (arrived s ups) in
    let after_core0 : HubState = turn0 at_time seat now in
    let after_core1 : HubState = turn1 after_core0 now in
    let first : AreNumbered after_core0 = (turned0_number at_time seat now s.core0.phase h, h.1) in
    let second : AreNumbered after_core1 = (first.0, turned1_number after_core0 now s.core1.phase first) in
    served_numbers _ (seat_after seat now s.core0.phase) (granted after_core1.arbiter (wants_of after_core1 (seat_after seat now s.core0.phase))) second

first_number : (boot : Boot) → (first_core boot).csrs.hart ≡ 0
first_number Raw = refl
first_number Direct = refl
first_number AtBoot = refl

cycle_numbers_by : (s : HubState) (seat : Seat) (now : ℕ) (ups : List (Option Up)) (b : Bool) → AreNumbered s
    → AreNumbered (if b then reset_by s seat ups else hub_worked s seat now ups).hub
cycle_numbers_by s seat now ups true h = (first_number seat.boot, refl)
cycle_numbers_by s seat now ups false h = worked_numbers s seat now ups h

-- in each cycle the harts keep their numbers
pub cycle_numbers : (s : HubState) (seat : Seat) (now : ℕ) (ups : List (Option Up)) → AreNumbered s → AreNumbered (hub_cycle s seat now ups).hub
unfolding hub_cycle
cycle_numbers s seat now ups h = cycle_numbers_by s seat now ups (fires ups) h

-- at power-on
pub start_numbered : (v : Values) (boot : Boot) (image : List ℕ) → AreNumbered (hub_start v boot image)
unfolding hub_start
start_numbered v boot image = (first_number boot, refl)

-- the issues of a cycle

-- an issue, if there is one, is of this hart and cycle
abbrev pub IssuedAt : ℕ → ℕ → Option IssueRecord → Type 0
IssuedAt hart now None = Unit {0}
IssuedAt hart now (Some r) = (r.cycle ≡ now) × (r.hart ≡ hart)

-- at most one of each hart, hart 0's first, and all of this cycle
pub record AreByHart (now : ℕ) (issues : List IssueRecord) : Type 0 where
  pub first : Option IssueRecord
  pub second : Option IssueRecord
  pub of_hart_0 : IssuedAt 0 now first
  pub of_hart_1 : IssuedAt 1 now second
  pub are : issues ≡ option_to_list first ++ option_to_list second

of_hart : (now hart number pc : ℕ) (issued : Option IssueRecord) → number ≡ hart → IfSome issued (λ r. (r.cycle ≡ now) × (r.hart ≡ number) × (r.pc ≡ pc))
    → IssuedAt hart now issued
of_hart now hart number pc None e h = tt
of_hart now hart number pc (Some r) e h = (h.0, h.1 ∙ e)

-- what a core issues is of its hart and of this cycle
core_issues : (c : CoreState) (now hart mip : ℕ) (m : MemoryState) → c.csrs.hart ≡ hart → IssuedAt hart now (turned c now mip m).issued
core_issues c now hart mip m e = of_hart now hart c.csrs.hart c.pc (turned c now mip m).issued e (recorded c now mip m)

issues_by : (s : HubState) (now : ℕ) (ups : List (Option Up)) (b : Bool) → AreNumbered s → AreByHart now (if b then [] else worked_issues s now ups)
unfolding worked_issues
issues_by s now ups true h = record { first = None; second = None; of_hart_0 = tt; of_hart_1 = tt; are = refl }
issues_by s now ups false h =
    let at_time : HubState = timed (arrived s ups) in
    record {
      first = (turned at_time.core0 now (mip_of at_time 0) at_time.memory).issued;
      second = (turned at_time.core1 now (mip_of at_time 1) at_time.memory).issued;
      of_hart_0 = core_issues at_time.core0 now 0 (mip_of at_time 0) at_time.memory h.0;
      of_hart_1 = core_issues at_time.core1 now 1 (mip_of at_time 1) at_time.memory h.1;
      are = refl;
    }

-- the issues of a cycle are of that cycle, by hart
pub issues_by_hart : (s : HubState) (now : ℕ) (ups : List (Option Up)) → AreNumbered s → AreByHart now (hub_issues s now ups)
unfolding hub_issues
issues_by_hart s now ups h = issues_by s now ups (fires ups) h
