-- A law over definitions: what loads of an open front's registers give after a store.
use Rattle.std.specs.Prelude.{◌≡◌, ◌≢◌, ℕ, ◌/◌, ◌%◌, ◌^◌, bit_and}
use Rattle.soc_words.specs.Registers.{SetsAt}
use Rattle.unit_fronts.specs.GpioFront.{GpioRegisters, gpio_word}
use Rattle.unit_fronts.specs.PwmFront.{PwmRegisters, pwm_word}
use Rattle.unit_fronts.specs.WdtFront.{WatchdogRegisters, watchdog_word}

-- OUT (4) and ENABLE (8) give the word that was stored there last, and a store to IN (0) is ignored; PENDING (12) loses bits by a store
-- to itself alone
pub record StoresPins (old : GpioRegisters) (reg word : ℕ) (new : GpioRegisters) : Type 0 where
  pub inputs : gpio_word new 0 ≡ gpio_word old 0
  pub outputs : SetsAt reg 4 word (gpio_word old 4) (gpio_word new 4)
  pub enable : SetsAt reg 8 word (gpio_word old 8) (gpio_word new 8)
  pub pending : reg ≢ 12 → gpio_word new 12 ≡ gpio_word old 12

-- CTRL (0) gives enable and prescaler, and DUTY0 to DUTY3 (4, 8, 12, 16) give the low eight bits of the word that was stored there last
pub record StoresDuties (old : PwmRegisters) (reg word : ℕ) (new : PwmRegisters) : Type 0 where
  pub control : SetsAt reg 0 (bit_and word 0x39) (pwm_word old 0) (pwm_word new 0)
  pub duty0 : SetsAt reg 4 (word % 256) (pwm_word old 4) (pwm_word new 4)
  pub duty1 : SetsAt reg 8 (word % 256) (pwm_word old 8) (pwm_word new 8)
  pub duty2 : SetsAt reg 12 (word % 256) (pwm_word old 12) (pwm_word new 12)
  pub duty3 : SetsAt reg 16 (word % 256) (pwm_word old 16) (pwm_word new 16)

-- CTRL (0) gives enable (bit 0) and timeout (8 to 31) as they were stored last, and reads zero between them; FEED (4) reads 0, and no
-- store changes CAUSE (8)
pub record StoresWatchdog (old : WatchdogRegisters) (reg word : ℕ) (new : WatchdogRegisters) : Type 0 where
  pub enable : reg ≡ 0 → watchdog_word new 0 % 2 ≡ word % 2
  pub between : reg ≡ 0 → watchdog_word new 0 / 2 % 2 ^ 7 ≡ 0
  pub timeout : reg ≡ 0 → watchdog_word new 0 / 2 ^ 8 ≡ word / 2 ^ 8
  pub elsewhere : reg ≢ 0 → watchdog_word new 0 ≡ watchdog_word old 0
  pub feed : watchdog_word new 4 ≡ 0
  pub cause : watchdog_word new 8 ≡ watchdog_word old 8
