-- The hub at power-on and after a reset: a definition.
use Rattle.std.specs.Prelude.{ℕ, ◌+◌, ◌*◌, Bool, true, List, [], ◌++◌, drop, length, nat_le, is_none}
use Rattle.chip_base.specs.Settings.{Values}
use Rattle.chip_base.specs.declared.boot.Boot.{Boot}
use Rattle.chip_base.specs.declared.boot.Boot.TheVariants.{Raw, Direct, Monitor}
use Rattle.core_pair.specs.Clint.{reset_clint}
use Rattle.core_pair.specs.Core.{CoreState, reset_core}
use Rattle.core_pair.specs.Mailbox.{reset_mailbox}
use Rattle.core_pair.specs.declared.phase.Phase.TheVariants.{Monitor as Held}
use Rattle.image_tool.specs.FirstFault.{image_fault}
use Rattle.soc_bus.specs.Memory.{MemoryState, zeros}
use Rattle.soc_bus.specs.declared.arbiter.Master.TheVariants.{Dma}
use Rattle.dma_unit.specs.DmaRegisters.{dma_reset}
use Rattle.unit_fronts.specs.GpioFront.{gpio_front_reset}
use Rattle.unit_fronts.specs.SerialRegisters.{serial_front_reset}
use Rattle.unit_fronts.specs.PwmFront.{pwm_front_reset}
use Rattle.unit_fronts.specs.WdtFront.{watchdog_front_start}
use Rattle.chip_hub.specs.Seat.{Seat, seat_begun}
use Rattle.chip_hub.specs.State.{Fronts, HubState}

-- a file can be what core 0 begins with, where IMEM has this many bytes
abbrev pub fits_in : Boot → List ℕ → ℕ → Bool
fits_in Raw image room = nat_le (length image) room
fits_in Direct image room = is_none (image_fault room image)
fits_in Monitor image room = true

-- what stands in IMEM from address 0 on, by the bytes of the file: all of them, or the payload behind the three words of an image's header, or nothing,
-- since the monitor takes its image from UART0
abbrev pub first_bytes : Boot → List ℕ → List ℕ
first_bytes Raw image = image
first_bytes Direct image = drop 12 image
first_bytes Monitor image = []

-- core 0 begins at once, or the monitor is in its place
abbrev pub first_core : Boot → CoreState
first_core Raw = reset_core 0
first_core Direct = reset_core 0
first_core Monitor = record (reset_core 0) { phase = Held }

-- a hub in which all but the clock, the memories and the fronts is as after a reset
abbrev pub hub_reset : Boot → ℕ → MemoryState → Fronts → HubState
hub_reset boot clock memory fronts = record {
  clock = clock;
  core0 = first_core boot;
  core1 = reset_core 1;
  memory = memory;
  arbiter = record { last = Dma };
  dma = dma_reset;
  clint = reset_clint;
  mailbox = reset_mailbox;
  fronts = fronts;
}

-- the memories at power-on, by the bytes of the file
abbrev pub memory_start : Values → Boot → List ℕ → MemoryState
memory_start v boot image = record { imem = first_bytes boot image ++ drop (length (first_bytes boot image)) (zeros v.imem); dmem = zeros v.dmem }

-- all fronts are open at power-on
abbrev pub fronts_start : Fronts
fronts_start = record {
  uart0 = serial_front_reset 0;
  uart1 = serial_front_reset 0;
  spi = serial_front_reset 0;
  gpio = gpio_front_reset 0;
  pwm = pwm_front_reset 0;
  slink = serial_front_reset 0;
  wdt = watchdog_front_start;
}

-- the hub at power-on, by the bytes of the file
unfoldable pub hub_start : Values → Boot → List ℕ → HubState
hub_start v boot image = hub_reset boot v.clock (memory_start v boot image) fronts_start

-- the word that the monitor stores to UART0's CTRL: enabled, with the prescaler and the baud of the settings
abbrev pub first_ctrl : Values → ℕ
first_ctrl v = 1 + v.prescaler * 8 + v.baud * 64

-- core 0's seat at power-on: the monitor acts in the first cycle
unfoldable pub seat_start : Values → Boot → Seat
seat_start v boot = seat_begun boot v.imem (first_ctrl v)
