-- A definition: an access to the registers of a unit: it reaches the unit's own front alone, and sends a message to that unit alone.
use Rattle.std.specs.Prelude.{ℕ, List, Option, Some, None, Result, Ok, count_by, is_some, map, set}
use Rattle.chip_base.specs.UnitTable.{all_units, link_place}
use Rattle.chip_base.specs.declared.chip_unit.ChipUnit.{ChipUnit}
use Rattle.chip_base.specs.declared.chip_unit.ChipUnit.TheVariants.{Uart0, Uart1, Spi, Gpio, Pwm, Slink, Wdt}
use Rattle.chip_base.specs.declared.message.Down.{Down}
use Rattle.chip_base.specs.declared.message.Down.TheVariants.{Reset}
use Rattle.soc_bus.specs.declared.access.BusFault.{BusFault}
use Rattle.soc_bus.specs.declared.access.Request.{Request}
use Rattle.unit_fronts.specs.GpioFront.{GpioRegisters, gpio_word, gpio_stored, gpio_sent}
use Rattle.unit_fronts.specs.SerialRegisters.{SerialRegisters}
use Rattle.unit_fronts.specs.PwmFront.{PwmRegisters, pwm_word, pwm_stored, pwm_sent}
use Rattle.unit_fronts.specs.SerialFront.{SerialKind, serial_word, serial_loaded, serial_stored, serial_sent}
use Rattle.unit_fronts.specs.SlinkFront.{slink_kind}
use Rattle.unit_fronts.specs.SpiFront.{spi_kind}
use Rattle.unit_fronts.specs.UartFront.{uart_kind}
use Rattle.unit_fronts.specs.WdtFront.{WatchdogRegisters, watchdog_word, watchdog_stored, watchdog_sent}
use Rattle.chip_hub.specs.Parts.{part_of_word}
use Rattle.chip_hub.specs.State.{Fronts}

-- what an access gives at a front: the front after it, the word for its master, and the message for the unit
pub record AtFront (F : Type 0) : Type 0 where
  pub front : F
  pub word : ℕ
  pub down : Option Down

abbrev pub at_serial : SerialKind → SerialRegisters → Request → ℕ → Option ℕ → AtFront SerialRegisters
at_serial kind f r reg None = record { front = serial_loaded f reg; word = part_of_word r (serial_word f reg); down = None }
at_serial kind f r reg (Some value) = record { front = serial_stored kind f reg value; word = 0; down = serial_sent kind f reg value }

abbrev pub at_gpio : GpioRegisters → Request → ℕ → Option ℕ → AtFront GpioRegisters
at_gpio f r reg None = record { front = f; word = part_of_word r (gpio_word f reg); down = None }
at_gpio f r reg (Some value) = record { front = gpio_stored f reg value; word = 0; down = gpio_sent f reg value }

abbrev pub at_pwm : PwmRegisters → Request → ℕ → Option ℕ → AtFront PwmRegisters
at_pwm f r reg None = record { front = f; word = part_of_word r (pwm_word f reg); down = None }
at_pwm f r reg (Some value) = record { front = pwm_stored f reg value; word = 0; down = pwm_sent f reg value }

abbrev pub at_watchdog : WatchdogRegisters → Request → ℕ → Option ℕ → AtFront WatchdogRegisters
at_watchdog f r reg None = record { front = f; word = part_of_word r (watchdog_word f reg); down = None }
at_watchdog f r reg (Some value) = record { front = watchdog_stored f reg value; word = 0; down = watchdog_sent f reg value }

-- the fronts after an access to a unit's registers
abbrev pub fronts_after : Fronts → Request → ChipUnit → ℕ → Fronts
fronts_after f r Uart0 reg = record f { uart0 = (at_serial uart_kind f.uart0 r reg r.store).front }
fronts_after f r Uart1 reg = record f { uart1 = (at_serial uart_kind f.uart1 r reg r.store).front }
fronts_after f r Spi reg = record f { spi = (at_serial spi_kind f.spi r reg r.store).front }
fronts_after f r Gpio reg = record f { gpio = (at_gpio f.gpio r reg r.store).front }
fronts_after f r Pwm reg = record f { pwm = (at_pwm f.pwm r reg r.store).front }
fronts_after f r Slink reg = record f { slink = (at_serial slink_kind f.slink r reg r.store).front }
fronts_after f r Wdt reg = record f { wdt = (at_watchdog f.wdt r reg r.store).front }

-- the answer to its master
abbrev pub unit_answer : Fronts → Request → ChipUnit → ℕ → Result ℕ BusFault
unit_answer f r Uart0 reg = Ok (at_serial uart_kind f.uart0 r reg r.store).word
unit_answer f r Uart1 reg = Ok (at_serial uart_kind f.uart1 r reg r.store).word
unit_answer f r Spi reg = Ok (at_serial spi_kind f.spi r reg r.store).word
unit_answer f r Gpio reg = Ok (at_gpio f.gpio r reg r.store).word
unit_answer f r Pwm reg = Ok (at_pwm f.pwm r reg r.store).word
unit_answer f r Slink reg = Ok (at_serial slink_kind f.slink r reg r.store).word
unit_answer f r Wdt reg = Ok (at_watchdog f.wdt r reg r.store).word

-- the message that goes down to the unit
abbrev pub unit_down : Fronts → Request → ChipUnit → ℕ → Option Down
unit_down f r Uart0 reg = (at_serial uart_kind f.uart0 r reg r.store).down
unit_down f r Uart1 reg = (at_serial uart_kind f.uart1 r reg r.store).down
unit_down f r Spi reg = (at_serial spi_kind f.spi r reg r.store).down
unit_down f r Gpio reg = (at_gpio f.gpio r reg r.store).down
unit_down f r Pwm reg = (at_pwm f.pwm r reg r.store).down
unit_down f r Slink reg = (at_serial slink_kind f.slink r reg r.store).down
unit_down f r Wdt reg = (at_watchdog f.wdt r reg r.store).down

-- no message for any of the seven units
abbrev pub silent : List (Option Down)
silent = map (λ unit. None) all_units

-- a Reset for each of them
abbrev pub resets : List (Option Down)
resets = map (λ unit. Some Reset) all_units

-- this message for this unit, and none for the others
abbrev pub only_to : ChipUnit → Option Down → List (Option Down)
only_to unit down = set silent (link_place unit) down

-- how many messages there are
abbrev pub messages_in : List (Option Down) → ℕ
messages_in downs = count_by is_some downs
