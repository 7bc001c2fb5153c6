-- Law: under boot by monitor core 0 leaves the boot monitor exactly where the bytes that the monitor took are the gate.
use Rattle.std.specs.Prelude.{◌≡◌, ◌⊎◌, ◌<◌, ℕ, suc, true, false, List, [], length, Option, Some, Ok}
use Rattle.boot_gate.specs.Gate.{Gate, flash_of, held, said}
use Rattle.boot_gate.specs.Items.{IsSplit, Item}
use Rattle.boot_gate.specs.Laws.{BeginsWith, IsGoing}
use Rattle.boot_gate.specs.Replies.{base_of, world_after}
use Rattle.boot_monitor.specs.Standing.{IsMine}
use Rattle.boot_monitor.specs.Actions.{asking, load, spi_data, spi_select, store}
use Rattle.boot_monitor.specs.declared.exchange.MonitorOut.TheVariants.{Bus}
use Rattle.chip_base.specs.Settings.{Values}
use Rattle.chip_hub.specs.Access.{accessed}
use Rattle.chip_hub.specs.Seat.{asked}
use Rattle.chip_hub.specs.State.{HubState}
use Rattle.chip_hub.specs.Views.{boot_view}
use Rattle.chip_whole.specs.Chip.{Board, ChipState, after}
use Rattle.core_pair.specs.declared.phase.Phase.TheVariants.{Parked}
use Rattle.dma_unit.specs.declared.state.DmaState.TheVariants.{Idle}
use Rattle.flash_seen.specs.Seen.{Seen, seen}
use Rattle.flash_seen.specs.World.{World}
use Rattle.flash_seen.specs.World as stage
use Rattle.monitor_paths.specs.FlashPath.{FlashPath, waiting}
use Rattle.monitor_paths.specs.Laws.{BeginsExchange, EndsExchange}
use Rattle.monitor_paths.specs.Opened.{IsFree}
use Rattle.monitor_paths.specs.WatchdogPath.{WatchdogPath}
use Rattle.monitor_paths.specs.Watched.{IsWatched, IsWatchedByMonitor}
use Rattle.soc_bus.specs.Memory.{IsSize}
use Rattle.soc_bus.specs.declared.access.Request.{Request}
use Rattle.spi_flash.specs.declared.transfer.Transfer.TheVariants as transfer
use Rattle.unit_fronts.specs.SerialRegisters.{serial_is_open}
use Rattle.chip_gate.specs.Base.{base, flash_in, is_reset_next}
use Rattle.chip_gate.specs.Seated.{flash_used, in_monitor, sent, shows_monitor, shown_by, taken, todo}

-- the bytes that were taken are the gate of a payload, from what stood in the flash on
pub record IsGateOf (v : Values) (base : Option (Option (List ℕ))) (c : ChipState) (payload : List ℕ) : Type 0 where
  pub flash : Option (List ℕ)
  pub since : base ≡ Some flash
  pub gate : Gate v.imem flash (taken c) payload

-- they are the gate of some payload
pub record IsAtGate (v : Values) (base : Option (Option (List ℕ))) (c : ChipState) : Type 0 where
  pub payload : List ℕ
  pub gate : IsGateOf v base c payload

-- SPI's front, its links and its unit
abbrev pub path_in : ChipState → FlashPath
path_in c = record { front = c.hub.fronts.spi; down = c.units.spi.down; unit = c.units.spi.unit; up = c.units.spi.up }

-- no operation that the monitor started is under way: none is and nothing on its way starts one, or it sent the flash nothing since the last
-- reset or power-on
abbrev pub LeavesNone : ChipState → Type 0
LeavesNone c = IsFree c.units.spi.unit.flash (waiting (path_in c)) ⊎ (flash_used c ≡ false)

-- IMEM begins with it, and what a reset finds under way in the flash from here on was started by firmware
pub record HandsPayload (v : Values) (base : Option (Option (List ℕ))) (c : ChipState) : Type 0 where
  pub payload : List ℕ
  pub gate : IsGateOf v base c payload
  pub stored : BeginsWith c.hub.memory.imem payload
  pub ended : LeavesNone c

-- a command is awaited: what was taken are whole items, what was sent is said of them, what they store stands in the flash, and what they hold in IMEM,
-- and no operation that the monitor started is under way
pub record WaitsForCommand (v : Values) (base : Option (Option (List ℕ))) (c : ChipState) : Type 0 where
  pub flash : Option (List ℕ)
  pub since : base ≡ Some flash
  pub items : List Item
  pub split : IsSplit v.imem (taken c) items []
  pub says : sent c ≡ said v.imem (shown_by v) flash items
  pub stores : flash_in c ≡ flash_of v.imem flash items
  pub holds : (payload : List ℕ) → held v.imem flash items [] ≡ Some payload → BeginsWith c.hub.memory.imem payload
  pub ended : LeavesNone c

-- nothing but the monitor uses the bus, its requests are its own, and the memories have their sizes
pub record IsAlone (v : Values) (c : ChipState) : Type 0 where
  pub parked : c.hub.core1.phase ≡ Parked
  pub still : c.hub.clint.msip1 ≡ 0
  pub idle : c.hub.dma.state ≡ Idle
  pub mine : (request : Request) → asked c.seat ≡ Bus request → IsMine v.imem request
  pub imem : length c.hub.memory.imem ≡ v.imem
  pub dmem : length c.hub.memory.dmem ≡ v.dmem

-- the watchdog's unit and its links
abbrev pub watchdog_in : ChipState → WatchdogPath
watchdog_in c = record { down = c.units.wdt.down; unit = c.units.wdt.unit; up = c.units.wdt.up }

-- what is known of the flash by the replies that the monitor was given, where it was seen so before
abbrev pub world_in : Seen → ChipState → World
world_in first c = world_after c.seat.room c.seat.ctrl first c.seat.replies

-- the answer to a byte has come: it is the flash's, after all that was sent before the byte
pub record HasAnswer (base : Option (Option (List ℕ))) (c : ChipState) : Type 0 where
  -- the flash as it was seen when its bytes were those
  pub first : Seen
  pub away : first.transfer ≡ transfer.Idle
  pub since : base ≡ Some (base_of first)
  pub ends : EndsExchange (world_in first c) (path_in c)
  -- what is known of the flash is what stands in it
  pub flash : (world_in first c).flash ≡ seen c.units.spi.unit.flash

-- a selection or a deselect is at most the second one since the last answer, and there is a credit for it
pub record HasCredit (base : Option (Option (List ℕ))) (c : ChipState) : Type 0 where
  pub first : Seen
  pub away : first.transfer ≡ transfer.Idle
  pub since : base ≡ Some (base_of first)
  pub sent : ℕ
  pub stage : (world_in first c).stage ≡ stage.Idle sent
  pub few : sent < 2
  pub is_open : serial_is_open c.hub.fronts.spi ≡ true
  pub credits : 14 < c.hub.fronts.spi.credits

-- where the monitor is to send a byte to the flash, nothing of the last exchange is left, and where it is to take the answer, that has come
pub record ExchangesInTurn (base : Option (Option (List ℕ))) (c : ChipState) : Type 0 where
  pub begins : (value : ℕ) → asked c.seat ≡ store spi_data value → BeginsExchange (path_in c)
  pub ends : asked c.seat ≡ load spi_data → HasAnswer base c
  pub selects : (value : ℕ) → asked c.seat ≡ store spi_select value → HasCredit base c

-- what holds in one state and from it to the next, by what stood in the flash
pub record KeepsGate (v : Values) (base later : Option (Option (List ℕ))) (c next : ChipState) : Type 0 where
  pub left : in_monitor c ≡ false → IsAtGate v base c
  pub hands : in_monitor c ≡ true → in_monitor next ≡ false → HandsPayload v later next
  pub goes : in_monitor c ≡ true → (payload : List ℕ) → IsGateOf v base c payload → IsGoing (todo c)
  pub awaits : in_monitor c ≡ true → todo c ≡ asking → WaitsForCommand v base c
  pub alone : in_monitor c ≡ true → IsAlone v c
  pub exchanges : in_monitor c ≡ true → ExchangesInTurn base c
  pub watched : IsWatched (watchdog_in c)
  pub rests : in_monitor c ≡ true → IsWatchedByMonitor (watchdog_in c)
  -- so no reset comes inside a command
  pub unreset : in_monitor c ≡ true → is_reset_next c ≡ false
  -- a report shows a hand-over exactly where core 0 isn't in the monitor
  pub shows : shows_monitor (boot_view c.seat) ≡ in_monitor c

-- after k cycles
abbrev pub IsGatedAfter : Values → Board → ChipState → ℕ → Type 0
IsGatedAfter v board first k = KeepsGate v (base board first k) (base board first (suc k)) (after board first k) (after board first (suc k))

pub record IsAnswered (s : HubState) (request : Request) : Type 0 where
  pub word : ℕ
  pub answer : (accessed s request).answer ≡ Ok word

-- a hub refuses none of the monitor's requests
abbrev pub RefusesNone : HubState → Type 0
RefusesNone s = IsSize (length s.memory.imem) → IsSize (length s.memory.dmem) → (request : Request) → IsMine (length s.memory.imem) request → IsAnswered s request
