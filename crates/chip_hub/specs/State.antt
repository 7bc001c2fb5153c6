-- A definition: the state of a hub.
use Rattle.std.specs.Prelude.{ℕ, List, Option}
use Rattle.chip_base.specs.declared.message.Down.{Down}
use Rattle.core_pair.specs.Clint.{ClintState}
use Rattle.core_pair.specs.Core.{CoreState}
use Rattle.core_pair.specs.Mailbox.{MailboxState}
use Rattle.soc_bus.specs.Memory.{MemoryState}
use Rattle.soc_bus.specs.Rotation.{ArbiterState}
use Rattle.dma_unit.specs.DmaRegisters.{DmaRegisters}
use Rattle.unit_fronts.specs.GpioFront.{GpioRegisters}
use Rattle.unit_fronts.specs.SerialRegisters.{SerialRegisters}
use Rattle.unit_fronts.specs.PwmFront.{PwmRegisters}
use Rattle.unit_fronts.specs.WdtFront.{WatchdogRegisters}
use Rattle.chip_hub.specs.Seat.{Seat}

-- the fronts of the units
pub record Fronts : Type 0 where
  pub uart0 : SerialRegisters
  pub uart1 : SerialRegisters
  pub spi : SerialRegisters
  pub gpio : GpioRegisters
  pub pwm : PwmRegisters
  pub slink : SerialRegisters
  pub wdt : WatchdogRegisters

pub record HubState : Type 0 where
  -- the clock in hertz, as the settings give it
  pub clock : ℕ
  pub core0 : CoreState
  pub core1 : CoreState
  pub memory : MemoryState
  pub arbiter : ArbiterState
  pub dma : DmaRegisters
  pub clint : ClintState
  pub mailbox : MailboxState
  pub fronts : Fronts

-- what a cycle gives: the state and the seat after it, and for each of the seven units the message that goes down to it
pub record HubStep : Type 0 where
  pub hub : HubState
  pub seat : Seat
  pub downs : List (Option Down)
