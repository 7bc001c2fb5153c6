-- What an access does to SPI's front, what it sends to SPI's unit and to the watchdog's, and what it leaves, whoever makes it.
use Rattle.std.proofs.Common.{◌≡◌, ℕ, ◌+◌, ◌-◌, ◌%◌, ◌^◌, ◌≤◌, ◌==◌, Bool, true, false, ◌&&◌, List, length, if◌then◌else◌, Option, None, Some, Result, Ok, Err, refl, sym, ◌∙◌, arith, subst}
use Rattle.std.proofs.lemmas.Bool.Decides.{nat_tests}
use Rattle.std.specs.Prelude.{get_or, nat_le}
use Rattle.chip_base.specs.Messages.{reset_in}
use Rattle.chip_base.specs.UnitTable.{link_place, unit_numbered}
use Rattle.chip_base.specs.declared.chip_unit.ChipUnit.{ChipUnit}
use Rattle.chip_base.specs.declared.chip_unit.ChipUnit.TheVariants.{Uart0, Uart1, Spi, Gpio, Pwm, Slink, Wdt}
use Rattle.chip_base.specs.declared.message.Down.{Down}
use Rattle.chip_base.specs.declared.message.Down.TheVariants.{Set}
use Rattle.chip_base.specs.declared.message.Up.{Up}
use Rattle.chip_hub.specs.Access.{accessed, accessed_by, in_clint, in_device, in_dma, in_mailbox, in_memory, in_numbered, in_region, in_sysinfo, memory_stored}
use Rattle.chip_hub.specs.Cycle.{arrived, hub_worked, seat_after, seat_granted, served, served_core0, served_core1, served_dma, served_to, timed, turn0, turn1, wanted0, wants_of}
use Rattle.chip_hub.specs.Seat.{Seat}
use Rattle.chip_hub.specs.State.{HubState}
use Rattle.chip_hub.specs.Units.{at_serial, at_watchdog, silent}
use Rattle.core_pair.specs.Core.{wanted_in}
use Rattle.core_pair.specs.declared.phase.Phase.{Phase}
use Rattle.core_pair.specs.declared.phase.Phase.TheVariants.{Run, Want, Sleep, Parked, Monitor}
use Rattle.dma_unit.specs.DmaRegisters.{dma_wanted}
use Rattle.monitor_paths.specs.FlashPath.{Loads, Stores, Touch, Untouched, front_after, sent_by}
use Rattle.soc_bus.proofs.Bytes.{length_low_bytes, length_with_bytes}
use Rattle.soc_bus.specs.Access.{width_bytes}
use Rattle.soc_bus.specs.Map.{admitted}
use Rattle.soc_bus.specs.Memory.{MemoryState, low_bytes, place_of, store_of, stored_at}
use Rattle.soc_bus.specs.Rotation.{after_grant, granted}
use Rattle.soc_bus.specs.declared.access.BusFault.{BusFault}
use Rattle.soc_bus.specs.declared.access.BusFault.TheVariants.{Misaligned}
use Rattle.soc_bus.specs.declared.access.Region.{Region}
use Rattle.soc_bus.specs.declared.access.Region.TheVariants.{Imem, Dmem, Clint, Mailbox, Sysinfo, Dma, Device}
use Rattle.soc_bus.specs.declared.access.Request.{Request}
use Rattle.soc_bus.specs.declared.access.Width.{Width}
use Rattle.soc_bus.specs.declared.arbiter.Master.{Master}
use Rattle.soc_bus.specs.declared.arbiter.Master.TheVariants.{Core0, Core1, Dma as Copier}
use Rattle.unit_fronts.specs.Owed.{is_open_at}
use Rattle.unit_fronts.specs.SerialRegisters.{SerialRegisters}
use Rattle.unit_fronts.specs.SpiFront.{spi_kind}
use Rattle.unit_fronts.specs.WdtFront.{WatchdogRegisters, watchdog_kept, watchdog_sent_open}

-- from one state of the hub to the next, with what was sent down
pub record Reaches (s next : HubState) (downs : List (Option Down)) : Type 0 where
  pub clock : next.clock ≡ s.clock
  pub imem : length next.memory.imem ≡ length s.memory.imem
  pub dmem : length next.memory.dmem ≡ length s.memory.dmem
  -- SPI's front and its unit
  pub touch : Touch
  pub front : next.fronts.spi ≡ front_after s.fronts.spi touch
  pub sent : get_or downs (link_place Spi) None ≡ sent_by s.fronts.spi touch
  -- the watchdog is sent no Reset
  pub no_reset : reset_in (get_or downs (link_place Wdt) None) ≡ 0

-- the memories stay as long as they are

abbrev StaysLong : MemoryState → Result MemoryState BusFault → Type 0
StaysLong m (Ok next) = (length next.imem ≡ length m.imem) × (length next.dmem ≡ length m.dmem)
StaysLong m (Err fault) = Unit {0}

upper_long : (m : MemoryState) (width : Width) (value at : ℕ) (b : Bool) → nat_le (at + width_bytes width) (length m.dmem) ≡ b
    → StaysLong m (stored_at m width value (if◌then◌else◌ {A = Option (Region × ℕ)} b (Some (Dmem, at)) None))
upper_long m width value at true e =
    let room : at + width_bytes width ≤ length m.dmem = grind (arith, nat_tests) in
    (refl, length_with_bytes m.dmem at (low_bytes width value) (subst (λ n. at + n ≤ length m.dmem) (sym (length_low_bytes width value)) room))
upper_long m width value at false e = tt

lower_long : (m : MemoryState) (width : Width) (value at : ℕ) (b : Bool) → nat_le (at + width_bytes width) (length m.imem) ≡ b
    → StaysLong m (stored_at m width value (if◌then◌else◌ {A = Option (Region × ℕ)} b (Some (Imem, at)) None))
lower_long m width value at true e =
    let room : at + width_bytes width ≤ length m.imem = grind (arith, nat_tests) in
    (length_with_bytes m.imem at (low_bytes width value) (subst (λ n. at + n ≤ length m.imem) (sym (length_low_bytes width value)) room), refl)
lower_long m width value at false e = tt

place_long : (m : MemoryState) (width : Width) (value address : ℕ) (b : Bool)
    → StaysLong m (stored_at m width value (if◌then◌else◌ {A = Option (Region × ℕ)} b
    (if nat_le (address - 2 ^ 31 + width_bytes width) (length m.dmem) then Some (Dmem, address - 2 ^ 31) else None)
    (if nat_le (address + width_bytes width) (length m.imem) then Some (Imem, address) else None)))
place_long m width value address true = upper_long m width value (address - 2 ^ 31) _ refl
place_long m width value address false = lower_long m width value address _ refl

store_long : (m : MemoryState) (address : ℕ) (width : Width) (value : ℕ) → StaysLong m (store_of m address width value)
store_long m address width value = by (address % width_bytes width == 0)
  where
    by : (b : Bool)
        → StaysLong m (if◌then◌else◌ {A = Result MemoryState BusFault} b (stored_at m width value (place_of m address (width_bytes width))) (Err Misaligned))
    by true = place_long m width value address (nat_le (2 ^ 31) address)
    by false = tt

-- an access

stays : (s : HubState) → Reaches s s silent
stays s = record { clock = refl; imem = refl; dmem = refl; touch = Untouched; front = refl; sent = refl; no_reset = refl }

memory_reaches : (s : HubState) (m : Result MemoryState BusFault) → StaysLong s.memory m → Reaches s (memory_stored s m).hub (memory_stored s m).downs
memory_reaches s (Ok m) long = record { clock = refl; imem = long.0; dmem = long.1; touch = Untouched; front = refl; sent = refl; no_reset = refl }
memory_reaches s (Err fault) long = stays s

in_memory_reaches : (s : HubState) (r : Request) (store : Option ℕ) → Reaches s (in_memory s r store).hub (in_memory s r store).downs
in_memory_reaches s r None = stays s
in_memory_reaches s r (Some value) = memory_reaches s (store_of s.memory r.addr r.width value) (store_long s.memory r.addr r.width value)

in_clint_reaches : (s : HubState) (r : Request) (store : Option ℕ) → Reaches s (in_clint s r store).hub (in_clint s r store).downs
in_clint_reaches s r None = stays s
in_clint_reaches s r (Some value) = record { clock = refl; imem = refl; dmem = refl; touch = Untouched; front = refl; sent = refl; no_reset = refl }

in_mailbox_reaches : (s : HubState) (r : Request) (store : Option ℕ) → Reaches s (in_mailbox s r store).hub (in_mailbox s r store).downs
in_mailbox_reaches s r None = stays s
in_mailbox_reaches s r (Some value) = record { clock = refl; imem = refl; dmem = refl; touch = Untouched; front = refl; sent = refl; no_reset = refl }

in_dma_reaches : (s : HubState) (r : Request) (store : Option ℕ) → Reaches s (in_dma s r store).hub (in_dma s r store).downs
in_dma_reaches s r None = stays s
in_dma_reaches s r (Some value) = record { clock = refl; imem = refl; dmem = refl; touch = Untouched; front = refl; sent = refl; no_reset = refl }

in_sysinfo_reaches : (s : HubState) (r : Request) (store : Option ℕ) → Reaches s (in_sysinfo s r store).hub (in_sysinfo s r store).downs
in_sysinfo_reaches s r None = stays s
in_sysinfo_reaches s r (Some value) = stays s

-- at a register of SPI's front
touch_of : ℕ → Option ℕ → Touch
touch_of reg None = Loads reg
touch_of reg (Some word) = Stores reg word

spi_front : (f : SerialRegisters) (r : Request) (reg : ℕ) (store : Option ℕ) → (at_serial spi_kind f r reg store).front ≡ front_after f (touch_of reg store)
unfolding touch_of
spi_front f r reg None = refl
spi_front f r reg (Some value) = refl

spi_sent : (f : SerialRegisters) (r : Request) (reg : ℕ) (store : Option ℕ) → (at_serial spi_kind f r reg store).down ≡ sent_by f (touch_of reg store)
unfolding touch_of
spi_sent f r reg None = refl
spi_sent f r reg (Some value) = refl

no_reset_if : (b : Bool) (x y : Option Down) → reset_in x ≡ 0 → reset_in y ≡ 0 → reset_in (if◌then◌else◌ {A = Option Down} b x y) ≡ 0
no_reset_if true x y hx hy = hx
no_reset_if false x y hx hy = hy

watchdog_no_reset : (f : WatchdogRegisters) (r : Request) (reg : ℕ) (store : Option ℕ) → reset_in (at_watchdog f r reg store).down ≡ 0
watchdog_no_reset f r reg None = refl
watchdog_no_reset f r reg (Some value) =
    no_reset_if (is_open_at f.owed) (watchdog_sent_open reg value) None
    (no_reset_if (reg == 0) (Some (Set 0 (watchdog_kept value))) (if (reg == 4) && (value == 0x0000feed) then Some (Set 4 value) else None) refl
    (no_reset_if ((reg == 4) && (value == 0x0000feed)) (Some (Set 4 value)) None refl refl)) refl

in_device_reaches : (s : HubState) (r : Request) (unit : ChipUnit) (reg : ℕ) → Reaches s (in_device s r unit reg).hub (in_device s r unit reg).downs
in_device_reaches s r Uart0 reg = record { clock = refl; imem = refl; dmem = refl; touch = Untouched; front = refl; sent = refl; no_reset = refl }
in_device_reaches s r Uart1 reg = record { clock = refl; imem = refl; dmem = refl; touch = Untouched; front = refl; sent = refl; no_reset = refl }
in_device_reaches s r Spi reg = record {
  clock = refl;
  imem = refl;
  dmem = refl;
  touch = touch_of reg r.store;
  front = spi_front s.fronts.spi r reg r.store;
  sent = spi_sent s.fronts.spi r reg r.store;
  no_reset = refl;
}
in_device_reaches s r Gpio reg = record { clock = refl; imem = refl; dmem = refl; touch = Untouched; front = refl; sent = refl; no_reset = refl }
in_device_reaches s r Pwm reg = record { clock = refl; imem = refl; dmem = refl; touch = Untouched; front = refl; sent = refl; no_reset = refl }
in_device_reaches s r Slink reg = record { clock = refl; imem = refl; dmem = refl; touch = Untouched; front = refl; sent = refl; no_reset = refl }
in_device_reaches s r Wdt reg = record {
  clock = refl;
  imem = refl;
  dmem = refl;
  touch = Untouched;
  front = refl;
  sent = refl;
  no_reset = watchdog_no_reset s.fronts.wdt r reg r.store;
}

in_numbered_reaches : (s : HubState) (r : Request) (unit : Option ChipUnit) (reg : ℕ) → Reaches s (in_numbered s r unit reg).hub (in_numbered s r unit reg).downs
in_numbered_reaches s r None reg = stays s
in_numbered_reaches s r (Some unit) reg = in_device_reaches s r unit reg

in_region_reaches : (s : HubState) (r : Request) (region : Region) → Reaches s (in_region s r region).hub (in_region s r region).downs
in_region_reaches s r Imem = in_memory_reaches s r r.store
in_region_reaches s r Dmem = in_memory_reaches s r r.store
in_region_reaches s r Clint = in_clint_reaches s r r.store
in_region_reaches s r Mailbox = in_mailbox_reaches s r r.store
in_region_reaches s r Sysinfo = in_sysinfo_reaches s r r.store
in_region_reaches s r Dma = in_dma_reaches s r r.store
in_region_reaches s r (Device number reg) = in_numbered_reaches s r (unit_numbered number) reg

found_reaches : (s : HubState) (r : Request) (found : Result Region BusFault) → Reaches s (accessed_by s r found).hub (accessed_by s r found).downs
found_reaches s r (Ok region) = in_region_reaches s r region
found_reaches s r (Err fault) = stays s

accessed_reaches : (s : HubState) (r : Request) → Reaches s (accessed s r).hub (accessed s r).downs
unfolding accessed
accessed_reaches s r = found_reaches s r (admitted r _ _)

-- a cycle in which the hub isn't reset

served0_reaches : (s : HubState) (seat : Seat) (wanted : Option Request) → Reaches s (served_core0 s seat wanted).hub (served_core0 s seat wanted).downs
served0_reaches s seat None = stays s
served0_reaches s seat (Some r) =
    let a : Reaches s (accessed s r).hub (accessed s r).downs = accessed_reaches s r in
    record { clock = a.clock; imem = a.imem; dmem = a.dmem; touch = a.touch; front = a.front; sent = a.sent; no_reset = a.no_reset }

served1_reaches : (s : HubState) (seat : Seat) (wanted : Option Request) → Reaches s (served_core1 s seat wanted).hub (served_core1 s seat wanted).downs
served1_reaches s seat None = stays s
served1_reaches s seat (Some r) =
    let a : Reaches s (accessed s r).hub (accessed s r).downs = accessed_reaches s r in
    record { clock = a.clock; imem = a.imem; dmem = a.dmem; touch = a.touch; front = a.front; sent = a.sent; no_reset = a.no_reset }

served2_reaches : (s : HubState) (seat : Seat) (wanted : Option Request) → Reaches s (served_dma s seat wanted).hub (served_dma s seat wanted).downs
served2_reaches s seat None = stays s
served2_reaches s seat (Some r) =
    let a : Reaches s (accessed s r).hub (accessed s r).downs = accessed_reaches s r in
    record { clock = a.clock; imem = a.imem; dmem = a.dmem; touch = a.touch; front = a.front; sent = a.sent; no_reset = a.no_reset }

master_reaches : (s : HubState) (seat : Seat) (master : Option Master) → Reaches s (served_to s seat master).hub (served_to s seat master).downs
master_reaches s seat None = stays s
master_reaches s seat (Some Core0) = served0_reaches s seat (wanted0 seat s.core0.phase)
master_reaches s seat (Some Core1) = served1_reaches s seat (wanted_in s.core1.phase)
master_reaches s seat (Some Copier) = served2_reaches s seat (dma_wanted s.dma)

pub worked_reaches : (s : HubState) (seat : Seat) (now : ℕ) (ups : List (Option Up)) → Reaches (arrived s ups) (hub_worked s seat now ups).hub (hub_worked s seat now ups).downs
unfolding hub_worked
worked_reaches s seat now ups =
    let turned : HubState = turn1 (turn0 (timed (arrived s ups)) seat now) now in
    let then_seat : Seat = seat_after seat now s.core0.phase in
    let wants : ℕ = wants_of turned then_seat in
    let a : Reaches (record turned { arbiter = after_grant turned.arbiter wants }) (served turned then_seat wants).hub (served turned then_seat wants).downs
    = master_reaches (record turned { arbiter = after_grant turned.arbiter wants }) then_seat (granted turned.arbiter wants) in
    record { clock = a.clock; imem = a.imem; dmem = a.dmem; touch = a.touch; front = a.front; sent = a.sent; no_reset = a.no_reset }

-- the seat keeps its boot and what the monitor was made with

pub record SameMonitor (seat next : Seat) : Type 0 where
  pub boot : next.boot ≡ seat.boot
  pub room : next.room ≡ seat.room
  pub ctrl : next.ctrl ≡ seat.ctrl

same_granted : (seat : Seat) (answer : Result ℕ BusFault) (p : Phase) → SameMonitor seat (seat_granted seat answer p)
same_granted seat answer (Run left) = record { boot = refl; room = refl; ctrl = refl }
same_granted seat answer (Want request) = record { boot = refl; room = refl; ctrl = refl }
same_granted seat answer (Sleep left) = record { boot = refl; room = refl; ctrl = refl }
same_granted seat answer Parked = record { boot = refl; room = refl; ctrl = refl }
same_granted seat answer Monitor = record { boot = refl; room = refl; ctrl = refl }

same_after : (seat : Seat) (now : ℕ) (p : Phase) → SameMonitor seat (seat_after seat now p)
same_after seat now (Run left) = record { boot = refl; room = refl; ctrl = refl }
same_after seat now (Want request) = record { boot = refl; room = refl; ctrl = refl }
same_after seat now (Sleep left) = record { boot = refl; room = refl; ctrl = refl }
same_after seat now Parked = record { boot = refl; room = refl; ctrl = refl }
same_after seat now Monitor = record { boot = refl; room = refl; ctrl = refl }

same_served0 : (s : HubState) (seat : Seat) (wanted : Option Request) → SameMonitor seat (served_core0 s seat wanted).seat
same_served0 s seat None = record { boot = refl; room = refl; ctrl = refl }
same_served0 s seat (Some r) = same_granted seat (accessed s r).answer s.core0.phase

same_served1 : (s : HubState) (seat : Seat) (wanted : Option Request) → SameMonitor seat (served_core1 s seat wanted).seat
same_served1 s seat None = record { boot = refl; room = refl; ctrl = refl }
same_served1 s seat (Some r) = record { boot = refl; room = refl; ctrl = refl }

same_served2 : (s : HubState) (seat : Seat) (wanted : Option Request) → SameMonitor seat (served_dma s seat wanted).seat
same_served2 s seat None = record { boot = refl; room = refl; ctrl = refl }
same_served2 s seat (Some r) = record { boot = refl; room = refl; ctrl = refl }

same_served : (s : HubState) (seat : Seat) (master : Option Master) → SameMonitor seat (served_to s seat master).seat
same_served s seat None = record { boot = refl; room = refl; ctrl = refl }
same_served s seat (Some Core0) = same_served0 s seat (wanted0 seat s.core0.phase)
same_served s seat (Some Core1) = same_served1 s seat (wanted_in s.core1.phase)
same_served s seat (Some Copier) = same_served2 s seat (dma_wanted s.dma)

pub worked_same : (s : HubState) (seat : Seat) (now : ℕ) (ups : List (Option Up)) → SameMonitor seat (hub_worked s seat now ups).seat
unfolding hub_worked
worked_same s seat now ups =
    let turned : HubState = turn1 (turn0 (timed (arrived s ups)) seat now) now in
    let then_seat : Seat = seat_after seat now s.core0.phase in
    let wants : ℕ = wants_of turned then_seat in
    let one : SameMonitor seat then_seat = same_after seat now s.core0.phase in
    let two : SameMonitor then_seat (served turned then_seat wants).seat
    = same_served (record turned { arbiter = after_grant turned.arbiter wants }) then_seat (granted turned.arbiter wants) in
    record { boot = two.boot ∙ one.boot; room = two.room ∙ one.room; ctrl = two.ctrl ∙ one.ctrl }
