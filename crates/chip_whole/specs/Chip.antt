-- A definition: the chip: the hub and its units, joined by delay lines and stepped at once.
use Rattle.std.specs.Prelude.{ℕ, zero, suc, Bool, true, false, List, [], ◌∷◌, ◌++◌, Option, None, get_or, if◌then◌else◌, option_to_list}
use Rattle.std.specs.List.{list_any}
use Rattle.bench_parts.specs.Behave.{Behaviour}
use Rattle.board_units.specs.GpioCycle.{gpio_cycle}
use Rattle.board_units.specs.GpioState.{GpioState, gpio_start}
use Rattle.board_units.specs.PwmCycle.{pwm_cycle}
use Rattle.board_units.specs.PwmState.{PwmState, pwm_reset}
use Rattle.board_units.specs.WatchdogCycle.{watchdog_cycle}
use Rattle.board_units.specs.WatchdogState.{WatchdogState, watchdog_reset}
use Rattle.chip_base.specs.declared.boot.Boot.{Boot}
use Rattle.chip_base.specs.declared.event.Event.{Event}
use Rattle.chip_base.specs.declared.hart.IssueRecord.{IssueRecord}
use Rattle.chip_base.specs.declared.message.Down.{Down}
use Rattle.chip_base.specs.declared.message.Up.{Up}
use Rattle.chip_base.specs.declared.script.Script.{Script}
use Rattle.chip_base.specs.declared.script.UartStep.{UartStep}
use Rattle.chip_base.specs.declared.script.UartStep.TheVariants.{Image}
use Rattle.chip_base.specs.UnitTable.{link_place, unit_row}
use Rattle.chip_base.specs.declared.chip_unit.ChipUnit.TheVariants.{Uart0, Uart1, Spi, Gpio, Pwm, Slink, Wdt}
use Rattle.chip_base.specs.Settings.{Values}
use Rattle.chip_hub.specs.Cycle.{hub_cycle}
use Rattle.chip_hub.specs.Observed.{hub_issues, hub_stored}
use Rattle.chip_hub.specs.Seat.{Seat}
use Rattle.chip_hub.specs.Start.{hub_start, seat_start}
use Rattle.chip_hub.specs.State.{HubState, HubStep}
use Rattle.spi_flash.specs.SpiCycle.{SpiState, spi_cycle, spi_start}
use Rattle.soc_words.specs.Link.{link_first}
use Rattle.stream_link.specs.StreamCycle.{stream_cycle}
use Rattle.stream_link.specs.StreamState.{StreamState, stream_start}
use Rattle.uart_lane.specs.Cycle.{uart_cycle}
use Rattle.uart_lane.specs.State.{UartState, uart_start}
use Rattle.chip_whole.specs.Joined.{Joined, event_of, joined_after, joined_start}

-- what stands beside a chip and never changes: how the part behaves that its stream link is fitted with, as it was at power-on, if there is one
pub record Board : Type 0 where
  pub part : Option Behaviour

-- the units but the stream link's, which alone has a part
pub record Units : Type 0 where
  pub uart0 : Joined UartState
  pub uart1 : Joined UartState
  pub spi : Joined SpiState
  pub gpio : Joined GpioState
  pub pwm : Joined PwmState
  pub wdt : Joined WatchdogState

-- what arrives at the hub in this cycle, by unit, where this arrives from the stream link
abbrev pub arriving : Units → Option Up → List (Option Up)
arriving u slink =
    link_first u.uart0.up ∷ link_first u.uart1.up ∷ link_first u.spi.up ∷ link_first u.gpio.up ∷ link_first u.pwm.up ∷ slink ∷ link_first u.wdt.up ∷ []

-- these units after a cycle in which this was sent down, by unit
abbrev pub units_after : Units → ℕ → List (Option Down) → Units
units_after u now downs = record {
  uart0 = joined_after uart_cycle u.uart0 now (get_or downs (link_place Uart0) None);
  uart1 = joined_after uart_cycle u.uart1 now (get_or downs (link_place Uart1) None);
  spi = joined_after spi_cycle u.spi now (get_or downs (link_place Spi) None);
  gpio = joined_after gpio_cycle u.gpio now (get_or downs (link_place Gpio) None);
  pwm = joined_after pwm_cycle u.pwm now (get_or downs (link_place Pwm) None);
  wdt = joined_after watchdog_cycle u.wdt now (get_or downs (link_place Wdt) None);
}

-- what happens at the chip's edge in a cycle, by unit, where this happens at the stream link; the SPI unit tells nothing
abbrev pub told_by_units : Units → ℕ → Option Event → List (Option Event)
told_by_units u now slink =
    event_of uart_cycle u.uart0 now ∷ event_of uart_cycle u.uart1 now ∷ event_of gpio_cycle u.gpio now ∷ event_of pwm_cycle u.pwm now ∷ slink
    ∷ event_of watchdog_cycle u.wdt now ∷ []

-- those events that there are
abbrev pub events_of : List (Option Event) → List Event
events_of [] = []
events_of (e ∷ rest) = option_to_list e ++ events_of rest

pub record ChipState : Type 0 where
  pub hub : HubState
  -- core 0's seat in the hub
  pub seat : Seat
  pub units : Units
  pub slink : Joined StreamState
  -- the cycle that is next to be stepped
  pub cycle : ℕ
  -- all events since power-on, by cycle and then by unit
  pub events : List Event
  -- all issues since power-on, by cycle and then by hart
  pub issues : List IssueRecord
  -- the store that was granted in the last cycle: its address, and the number of its bytes
  pub stored : Option (ℕ × ℕ)

-- what arrives at the hub in the cycle that comes next, by unit
abbrev pub arrivals : ChipState → List (Option Up)
arrivals c = arriving c.units (link_first c.slink.up)

-- the chip after a cycle, by what the hub gives in it
abbrev pub stepped : Board → ChipState → HubStep → ChipState
stepped board c h = record {
  hub = h.hub;
  seat = h.seat;
  units = units_after c.units c.cycle h.downs;
  slink = joined_after (stream_cycle board.part) c.slink c.cycle (get_or h.downs (link_place Slink) None);
  cycle = suc c.cycle;
  events = c.events ++ events_of (told_by_units c.units c.cycle (event_of (stream_cycle board.part) c.slink c.cycle));
  issues = c.issues ++ hub_issues c.hub c.cycle (arrivals c);
  stored = hub_stored c.hub c.seat c.cycle (arrivals c);
}

-- one cycle: the hub and each unit from the state before it
unfoldable pub tick : Board → ChipState → ChipState
tick board c = stepped board c (hub_cycle c.hub c.seat c.cycle (arrivals c))

-- the chip after n cycles
unfoldable pub after : Board → ChipState → ℕ → ChipState
after board c zero = c
after board c (suc n) = tick board (after board c n)

-- the delay of a unit's lines, by its place among the settings
abbrev pub delay_of : Values → ℕ → ℕ
delay_of v place = get_or v.delay place 0

-- a step that sends the bytes of the image file
abbrev pub is_image : UartStep → Bool
is_image Image = true
is_image other = false

-- the bytes that a UART with these steps needs of the image file
abbrev pub image_for : List UartStep → List ℕ → List ℕ
image_for steps image = if list_any is_image steps then image else []

-- these units at power-on, with a script to come: nothing is on its way
abbrev pub units_start : Values → List ℕ → Script → Units
units_start v image script = record {
  uart0 = joined_start (uart_start (unit_row Uart0).number script.uart0 (image_for script.uart0 image)) (delay_of v (link_place Uart0));
  uart1 = joined_start (uart_start (unit_row Uart1).number script.uart1 (image_for script.uart1 image)) (delay_of v (link_place Uart1));
  spi = joined_start (spi_start v.flash) (delay_of v (link_place Spi));
  gpio = joined_start (gpio_start script.pins) (delay_of v (link_place Gpio));
  pwm = joined_start pwm_reset (delay_of v (link_place Pwm));
  wdt = joined_start watchdog_reset (delay_of v (link_place Wdt));
}

-- the chip at power-on, with core 0's boot mode and the bytes of the file: no event has come, and nothing is issued or stored yet
unfoldable pub start : Values → Boot → List ℕ → Script → ChipState
start v boot image script = record {
  hub = hub_start v boot image;
  seat = seat_start v boot;
  units = units_start v image script;
  slink = joined_start stream_start (delay_of v (link_place Slink));
  cycle = 0;
  events = [];
  issues = [];
  stored = None;
}
