-- One cycle of the hub: a definition.
use Rattle.std.specs.Prelude.{◌==◌, ℕ, ◌+◌, Bool, List, Option, Some, None, Result, if◌then◌else◌, is_some, get_or}
use Rattle.chip_base.specs.Bits.{bit_if}
use Rattle.chip_base.specs.Messages.{fire_in}
use Rattle.chip_base.specs.declared.message.Up.{Up}
use Rattle.chip_base.specs.UnitTable.{link_place}
use Rattle.chip_base.specs.declared.chip_unit.ChipUnit.{ChipUnit}
use Rattle.chip_base.specs.declared.chip_unit.ChipUnit.TheVariants.{Uart0, Uart1, Spi, Gpio, Pwm, Slink, Wdt}
use Rattle.core_pair.specs.Access.{core_granted}
use Rattle.core_pair.specs.Clint.{clint_ticked}
use Rattle.core_pair.specs.Core.{CoreState, reset_core, started, wanted_in}
use Rattle.core_pair.specs.Turn.{turned}
use Rattle.core_pair.specs.declared.phase.Phase.{Phase}
use Rattle.core_pair.specs.declared.phase.Phase.TheVariants.{Monitor, Parked}
use Rattle.soc_bus.specs.Rotation.{granted, after_grant}
use Rattle.soc_bus.specs.declared.access.BusFault.{BusFault}
use Rattle.soc_bus.specs.declared.access.Request.{Request}
use Rattle.soc_bus.specs.declared.arbiter.Master.{Master}
use Rattle.soc_bus.specs.declared.arbiter.Master.TheVariants.{Core0, Core1, Dma}
use Rattle.dma_unit.specs.DmaRegisters.{dma_wanted, dma_granted}
use Rattle.unit_fronts.specs.GpioFront.{GpioRegisters, gpio_arrived, gpio_closed}
use Rattle.unit_fronts.specs.SerialRegisters.{SerialRegisters, serial_arrived, serial_closed}
use Rattle.unit_fronts.specs.PwmFront.{PwmRegisters, pwm_arrived, pwm_closed}
use Rattle.unit_fronts.specs.WdtFront.{WatchdogRegisters, watchdog_arrived, watchdog_closed}
use Rattle.chip_hub.specs.Access.{Accessed, accessed}
use Rattle.chip_hub.specs.Lines.{mip_of}
use Rattle.chip_hub.specs.Seat.{Seat, hands_over, reply_in, seat_answered, seat_reset, seat_turned, standing}
use Rattle.chip_hub.specs.Start.{hub_reset}
use Rattle.chip_hub.specs.State.{Fronts, HubState, HubStep}
use Rattle.chip_hub.specs.Units.{resets, silent}

-- 1. what arrives from the units reaches their fronts

abbrev pub arrived_at : SerialRegisters → Option Up → SerialRegisters
arrived_at front None = front
arrived_at front (Some up) = serial_arrived front up

abbrev pub arrived_at_gpio : GpioRegisters → Option Up → GpioRegisters
arrived_at_gpio front None = front
arrived_at_gpio front (Some up) = gpio_arrived front up

abbrev pub arrived_at_pwm : PwmRegisters → Option Up → PwmRegisters
arrived_at_pwm front None = front
arrived_at_pwm front (Some up) = pwm_arrived front up

abbrev pub arrived_at_watchdog : WatchdogRegisters → Option Up → WatchdogRegisters
arrived_at_watchdog front None = front
arrived_at_watchdog front (Some up) = watchdog_arrived front up

-- the message of a unit among those that arrive
abbrev pub arrival_of : ChipUnit → List (Option Up) → Option Up
arrival_of unit ups = get_or ups (link_place unit) None

abbrev pub arrived : HubState → List (Option Up) → HubState
arrived s ups = record s {
  fronts = record {
    uart0 = arrived_at s.fronts.uart0 (arrival_of Uart0 ups);
    uart1 = arrived_at s.fronts.uart1 (arrival_of Uart1 ups);
    spi = arrived_at s.fronts.spi (arrival_of Spi ups);
    gpio = arrived_at_gpio s.fronts.gpio (arrival_of Gpio ups);
    pwm = arrived_at_pwm s.fronts.pwm (arrival_of Pwm ups);
    slink = arrived_at s.fronts.slink (arrival_of Slink ups);
    wdt = arrived_at_watchdog s.fronts.wdt (arrival_of Wdt ups);
  };
}

-- 2. mtime adds one

abbrev pub timed : HubState → HubState
timed s = record s { clint = clint_ticked s.clint }

-- 3. core 0's turn, or the monitor's, which stands in core 0's place as long as core 0 is in the phase Monitor: where it hands over, core 0 is as at reset

abbrev pub turned0 : HubState → Seat → ℕ → Phase → CoreState
turned0 s seat now Monitor = if hands_over seat then reset_core 0 else s.core0
turned0 s seat now _ = (turned s.core0 now (mip_of s 0) s.memory).after

abbrev pub turn0 : HubState → Seat → ℕ → HubState
turn0 s seat now = record s { core0 = turned0 s seat now s.core0.phase }

abbrev pub seat_after : Seat → ℕ → Phase → Seat
seat_after seat now Monitor = seat_turned seat now
seat_after seat now _ = seat

-- 4. core 1's turn: while it is parked its software interrupt starts it, with pc and stack pointer from the mailbox

abbrev pub started_by : HubState → Bool → CoreState
started_by s wanted = if wanted then started s.core1 s.mailbox.pc s.mailbox.sp else s.core1

abbrev pub turned1 : HubState → ℕ → Phase → CoreState
turned1 s now Parked = started_by s (s.clint.msip1 == 1)
turned1 s now _ = (turned s.core1 now (mip_of s 1) s.memory).after

abbrev pub turn1 : HubState → ℕ → HubState
turn1 s now = record s { core1 = turned1 s now s.core1.phase }

-- 5. who wants the bus: bit 0 is core 0 or the monitor, bit 1 core 1, bit 2 the DMA

abbrev pub wanted0 : Seat → Phase → Option Request
wanted0 seat Monitor = standing seat
wanted0 seat phase = wanted_in phase

abbrev pub wants_of : HubState → Seat → ℕ
wants_of s seat =
    bit_if 0 (is_some (wanted0 seat s.core0.phase)) + bit_if 1 (is_some (wanted_in s.core1.phase)) + bit_if 2 (is_some (dma_wanted s.dma))

-- 6. one of them is granted its access, and is given the answer

abbrev pub nobody_served : HubState → Seat → HubStep
nobody_served s seat = record { hub = s; seat = seat; downs = silent }

abbrev pub core0_granted : CoreState → Result ℕ BusFault → Phase → CoreState
core0_granted core answer Monitor = core
core0_granted core answer _ = core_granted core answer

abbrev pub seat_granted : Seat → Result ℕ BusFault → Phase → Seat
seat_granted seat answer Monitor = seat_answered seat (reply_in answer)
seat_granted seat answer _ = seat

abbrev pub answered_core0 : Accessed → Seat → Phase → HubStep
answered_core0 a seat phase = record {
  hub = record a.hub { core0 = core0_granted a.hub.core0 a.answer phase };
  seat = seat_granted seat a.answer phase;
  downs = a.downs;
}

abbrev pub answered_core1 : Accessed → Seat → HubStep
answered_core1 a seat = record { hub = record a.hub { core1 = core_granted a.hub.core1 a.answer }; seat = seat; downs = a.downs }

abbrev pub answered_dma : Accessed → Seat → HubStep
answered_dma a seat = record { hub = record a.hub { dma = dma_granted a.hub.dma a.answer }; seat = seat; downs = a.downs }

abbrev pub served_core0 : HubState → Seat → Option Request → HubStep
served_core0 s seat None = nobody_served s seat
served_core0 s seat (Some request) = answered_core0 (accessed s request) seat s.core0.phase

abbrev pub served_core1 : HubState → Seat → Option Request → HubStep
served_core1 s seat None = nobody_served s seat
served_core1 s seat (Some request) = answered_core1 (accessed s request) seat

abbrev pub served_dma : HubState → Seat → Option Request → HubStep
served_dma s seat None = nobody_served s seat
served_dma s seat (Some request) = answered_dma (accessed s request) seat

abbrev pub served_to : HubState → Seat → Option Master → HubStep
served_to s seat None = nobody_served s seat
served_to s seat (Some Core0) = served_core0 s seat (wanted0 seat s.core0.phase)
served_to s seat (Some Core1) = served_core1 s seat (wanted_in s.core1.phase)
served_to s seat (Some Dma) = served_dma s seat (dma_wanted s.dma)

abbrev pub served : HubState → Seat → ℕ → HubStep
served s seat wants = served_to (record s { arbiter = after_grant s.arbiter wants }) seat (granted s.arbiter wants)

-- a cycle in which the hub isn't reset, in these six steps
unfoldable pub hub_worked : HubState → Seat → ℕ → List (Option Up) → HubStep
hub_worked s seat now ups =
    let with_arrivals = arrived s ups in
    let at_time = timed with_arrivals in
    let after_core0 = turn0 at_time seat now in
    let after_core1 = turn1 after_core0 now in
    let then_seat = seat_after seat now s.core0.phase in
    let wants = wants_of after_core1 then_seat in
    served after_core1 then_seat wants

-- the watchdog fired: a Fire arrives, whether or not its front is open
abbrev pub fires : List (Option Up) → Bool
fires ups = fire_in (arrival_of Wdt ups) == 1

-- every front closes
abbrev pub closed : Fronts → Fronts
closed f = record {
  uart0 = serial_closed f.uart0;
  uart1 = serial_closed f.uart1;
  spi = serial_closed f.spi;
  gpio = gpio_closed f.gpio;
  pwm = pwm_closed f.pwm;
  slink = serial_closed f.slink;
  wdt = watchdog_closed f.wdt;
}

-- a cycle in which a Fire arrives: answers to Resets are heard, and all else that arrives is lost; then the hub is reset, but for its memories, every front
-- closes, and a Reset goes down to every unit
abbrev pub reset_by : HubState → Seat → List (Option Up) → HubStep
reset_by s seat ups = record {
  hub = hub_reset seat.boot s.clock s.memory (closed (arrived s ups).fronts);
  seat = seat_reset seat;
  downs = resets;
}

-- one cycle
unfoldable pub hub_cycle : HubState → Seat → ℕ → List (Option Up) → HubStep
hub_cycle s seat now ups = if fires ups then reset_by s seat ups else hub_worked s seat now ups
