-- What holds in every state of a chip whose core 0 begins in the monitor, and how the paths to its units go on over a cycle.
use Rattle.std.proofs.Common.{◌≡◌, ◌≤◌, ◌<◌, ◌^◌, inl, inr, ℕ, ◌==◌, true, false, List, length, if◌then◌else◌, Option, None, Some, refl, sym, ap, ap₂, ◌∙◌, subst}
use Rattle.std.specs.Prelude.{get_or, is_none}
use Rattle.boot_gate.proofs.Gates.{used_is}
use Rattle.boot_gate.specs.Laws.{IsQuiet}
use Rattle.boot_gate.specs.Replies.{AreTold, base_of, memory_after}
use Rattle.chip_base.specs.Messages.{fire_in}
use Rattle.chip_base.specs.Settings.{Values}
use Rattle.chip_base.specs.UnitTable.{link_place}
use Rattle.chip_base.specs.declared.boot.Boot.TheVariants.{Monitor as AtBoot}
use Rattle.chip_base.specs.declared.chip_unit.ChipUnit.TheVariants.{Spi, Wdt}
use Rattle.chip_base.specs.declared.message.Up.{Up}
use Rattle.chip_hub.specs.Cycle.{arrived, arrived_at, hub_worked}
use Rattle.chip_hub.specs.State.{HubStep}
use Rattle.chip_whole.specs.Chip.{Board, ChipState, arrivals, delay_of, stepped}
use Rattle.core_pair.specs.declared.phase.Phase.TheVariants.{Parked}
use Rattle.dma_unit.specs.declared.state.DmaState.TheVariants.{Idle}
use Rattle.flash_seen.specs.Seen.{Seen}
use Rattle.monitor_paths.proofs.Stays.{stays_always}
use Rattle.monitor_paths.proofs.Watched.{stays_watched}
use Rattle.monitor_paths.specs.Always.{Always}
use Rattle.monitor_paths.specs.FlashPath.{FlashPath, Touch, after_touch, front_after, heard, heard_by, path_after, sent_by}
use Rattle.monitor_paths.specs.Opened.{Opened}
use Rattle.monitor_paths.specs.Watched.{IsWatched, IsWatchedByMonitor}
use Rattle.soc_bus.specs.Memory.{IsSize}
use Rattle.soc_words.specs.Link.{link_first}
use Rattle.unit_fronts.specs.SerialRegisters.{SerialRegisters, serial_is_open}
use Rattle.chip_gate.specs.Base.{based, flash_in}
use Rattle.chip_gate.specs.Gated.{HandsPayload, IsAtGate, LeavesNone, path_in, watchdog_in, world_in}
use Rattle.chip_gate.specs.Seated.{is_monitor, shown_by}
use Rattle.chip_gate.proofs.Bytes.{CarriesBytes, stays_bytes}
use Rattle.chip_gate.proofs.Known.{FlashAt, HasBase, IsKnown, WillHaveBase}
use Rattle.chip_gate.proofs.Accesses.{Reaches, SameMonitor, worked_reaches, worked_same}

-- a delay of links
pub record IsDelay (delay : ℕ) : Type 0 where
  pub one : 1 ≤ delay
  pub most : delay ≤ 4096

-- the settings of a chip are within their ranges
pub record Fits (v : Values) : Type 0 where
  pub imem : IsSize v.imem
  pub dmem : IsSize v.dmem
  pub clock : v.clock < 2 ^ 32
  pub spi : IsDelay (delay_of v (link_place Spi))
  pub wdt : IsDelay (delay_of v (link_place Wdt))

-- what holds whoever runs
pub record Holds (v : Values) (c : ChipState) : Type 0 where
  pub boot : c.seat.boot ≡ AtBoot
  pub room : c.seat.room ≡ v.imem
  pub clock : c.hub.clock ≡ v.clock
  pub imem : length c.hub.memory.imem ≡ v.imem
  pub dmem : length c.hub.memory.dmem ≡ v.dmem
  pub always : Always (path_in c)
  pub bytes : CarriesBytes (path_in c)
  pub watched : IsWatched (watchdog_in c)

-- what holds while core 0 is in the monitor
pub record AtMonitor (v : Values) (base : Option (Option (List ℕ))) (c : ChipState) : Type 0 where
  pub parked : c.hub.core1.phase ≡ Parked
  pub still : c.hub.clint.msip1 ≡ 0
  pub idle : c.hub.dma.state ≡ Idle
  pub told : AreTold c.seat.room c.seat.ctrl (shown_by v) c.seat.replies
  pub none_yet : is_none c.seat.handed ≡ true
  -- what stood in IMEM at the last reset or power-on
  pub before : List ℕ
  pub long : length before ≡ c.seat.room
  pub stored : c.hub.memory.imem ≡ memory_after c.seat.room c.seat.ctrl before c.seat.replies
  pub flash : FlashAt c.seat.room c.seat.ctrl base (HasBase base) before c.seat.replies (path_in c)
  pub rests : IsWatchedByMonitor (watchdog_in c)

-- what holds from the hand-over on, up to a reset
pub record HasLeft (v : Values) (base : Option (Option (List ℕ))) (c : ChipState) : Type 0 where
  pub gate : IsAtGate v base c
  pub handed : is_none c.seat.handed ≡ false

-- what holds in every state
pub record Keeps (v : Values) (base : Option (Option (List ℕ))) (c : ChipState) : Type 0 where
  pub holds : Holds v c
  pub there : is_monitor c.hub.core0.phase ≡ true → AtMonitor v base c
  pub left : is_monitor c.hub.core0.phase ≡ false → HasLeft v base c

-- and after a cycle: where core 0 leaves the monitor in it, IMEM begins with the payload
pub record Goes (v : Values) (base : Option (Option (List ℕ))) (c next : ChipState) : Type 0 where
  pub keeps : Keeps v base next
  pub hands : is_monitor c.hub.core0.phase ≡ true → is_monitor next.hub.core0.phase ≡ false → HandsPayload v base next

-- where the monitor is quiet, no operation that it started is under way
pub quiet_ended : (c : ChipState) (first : Seen) → Opened (world_in first c) (path_in c) → IsQuiet (world_in first c) → LeavesNone c
quiet_ended c first o (inl free) = inl (o.free free)
quiet_ended c first o (inr none) = inr (sym (used_is c.seat.room c.seat.ctrl first c.seat.replies) ∙ none.1)

-- the path to the flash over a cycle

-- the front hears the same on the path as in the hub
pub heard_is : (front : SerialRegisters) (up : Option Up) → arrived_at front up ≡ heard_by front up
heard_is front None = refl
heard_is front (Some up) = refl

path_is : (board : Board) (c : ChipState) (h : HubStep) (touch : Touch) → h.hub.fronts.spi ≡ front_after (heard (path_in c)) touch
    → get_or h.downs (link_place Spi) None ≡ sent_by (heard (path_in c)) touch → path_in (stepped board c h) ≡ after_touch (path_in c) c.cycle touch
path_is board c h touch front sent = ap₂ (λ f d. path_after (path_in c) c.cycle f d) front sent

-- by what the hub did with the front that had heard the arrivals
pub path_by : (board : Board) (c : ChipState) (h : HubStep) (touch : Touch) → h.hub.fronts.spi ≡ front_after (arrived c.hub (arrivals c)).fronts.spi touch
    → get_or h.downs (link_place Spi) None ≡ sent_by (arrived c.hub (arrivals c)).fronts.spi touch
    → path_in (stepped board c h) ≡ after_touch (path_in c) c.cycle touch
path_by board c h touch front sent =
    let heard_here : (arrived c.hub (arrivals c)).fronts.spi ≡ heard (path_in c) = heard_is c.hub.fronts.spi (link_first c.units.spi.up) in
    path_is board c h touch (front ∙ ap (λ f. front_after f touch) heard_here) (sent ∙ ap (λ f. sent_by f touch) heard_here)

-- the chip after a cycle in which the hub isn't reset
abbrev pub worked_on : Board → ChipState → ChipState
worked_on board c = stepped board c (hub_worked c.hub c.seat c.cycle (arrivals c))

-- what holds whoever runs, after such a cycle
pub holds_on : (v : Values) (board : Board) (c : ChipState) → fire_in (link_first c.units.wdt.up) ≡ 0 → Holds v c → Holds v (worked_on board c)
holds_on v board c no_fire k =
    let h : HubStep = hub_worked c.hub c.seat c.cycle (arrivals c) in
    let r : Reaches (arrived c.hub (arrivals c)) h.hub h.downs = worked_reaches c.hub c.seat c.cycle (arrivals c) in
    let s : SameMonitor c.seat h.seat = worked_same c.hub c.seat c.cycle (arrivals c) in
    let p : path_in (stepped board c h) ≡ after_touch (path_in c) c.cycle r.touch = path_by board c h r.touch r.front r.sent in
    record {
      boot = s.boot ∙ k.boot;
      room = s.room ∙ k.room;
      clock = r.clock ∙ k.clock;
      imem = r.imem ∙ k.imem;
      dmem = r.dmem ∙ k.dmem;
      always = subst Always (sym p) (stays_always (path_in c) c.cycle r.touch k.always);
      bytes = subst CarriesBytes (sym p) (stays_bytes (path_in c) c.cycle r.touch k.bytes);
      watched = (stays_watched (watchdog_in c)).always c.cycle (get_or h.downs (link_place Wdt) None) (r.no_reset ∙ sym no_fire) k.watched;
    }

-- what stood in the flash, from the first cycle on in which the front is open

base_from : (base : Option (Option (List ℕ))) (n : ChipState) (first : Seen) → serial_is_open n.hub.fronts.spi ≡ true
    → WillHaveBase base n.units.spi.unit.flash first → HasBase (based base n) first
base_from base n first is_open (inl e) = ap (λ b. based b n) e
base_from base n first is_open (inr e) =
    ap (λ b. based b n) e.0 ∙ ap (λ b. if◌then◌else◌ {A = Option (Option (List ℕ))} b (Some (flash_in n)) None) is_open ∙ ap (λ (s : Seen). Some (base_of s)) e.1

pub base_none : (base : Option (Option (List ℕ))) (n : ChipState) → base ≡ None → serial_is_open n.hub.fronts.spi ≡ false → based base n ≡ None
base_none base n none shut = ap (λ b. based b n) none ∙ ap (λ b. if◌then◌else◌ {A = Option (Option (List ℕ))} b (Some (flash_in n)) None) shut

-- what the monitor knows, by the path to the flash after the cycle
pub flash_on : (room ctrl : ℕ) (base : Option (Option (List ℕ))) (before replies : List ℕ) (n : ChipState) (p : FlashPath) → path_in n ≡ p
    → FlashAt room ctrl base (WillHaveBase base n.units.spi.unit.flash) before replies p
    → FlashAt room ctrl (based base n) (HasBase (based base n)) before replies (path_in n)
flash_on room ctrl base before replies n p e (inl k) =
    let here : IsKnown room ctrl (WillHaveBase base n.units.spi.unit.flash) before replies (path_in n)
    = subst (IsKnown room ctrl (WillHaveBase base n.units.spi.unit.flash) before replies) (sym e) k in
    inl (record {
      first = here.first;
      away = here.away;
      since = base_from base n here.first (ap (λ owed. owed == 0) here.opened.owed) here.since;
      given = here.given;
      opened = here.opened;
    })
flash_on room ctrl base before replies n p e (inr k) =
    let shut : serial_is_open n.hub.fronts.spi ≡ false = ap (λ (p : FlashPath). serial_is_open p.front) e ∙ k.shut in
    inr (record { shut = shut; none = base_none base n k.none shut; waits = k.waits; nothing = k.nothing; given = k.given })
