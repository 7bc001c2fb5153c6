-- The outputs of a pulse-width modulation unit over many cycles: laws over definitions.
use Rattle.std.specs.Prelude.{◌≡◌, ◌<◌, ℕ, suc, ◌*◌, ◌%◌, true, false, nat_lt, get_or, None, Some, if◌then◌else◌}
use Rattle.std.specs.Int.{bit_at}
use Rattle.chip_base.specs.Prescalers.{prescaler_of}
use Rattle.chip_base.specs.Runs.{never, unit_after}
use Rattle.chip_base.specs.declared.message.Down.TheVariants.{Set}
use Rattle.board_units.specs.PwmState.{PwmState}
use Rattle.board_units.specs.PwmCycle.{configured, pwm_cycle}

-- the unit is enabled, and at the beginning of its first step
pub record Begins (s : PwmState) : Type 0 where
  pub enabled : s.enabled ≡ true
  pub no_count : s.count ≡ 0
  pub no_step : s.step ≡ 0

-- without a message, a channel's output is high in exactly the first duty * prescaler cycles of each period
abbrev pub MakesWave : PwmState → ℕ → Type 0
MakesWave s period = Begins s → (t k channel : ℕ) → channel < 4
    → bit_at (unit_after pwm_cycle s t never (suc k)).mask channel
    ≡ (if nat_lt (k % period) (get_or s.duties channel 0 * s.prescaler) then 1 else 0)

-- a wave that begins with a control word
pub record StartsWave (s : PwmState) (control : ℕ) : Type 0 where
  -- the cycle in which the word comes is already the first of the wave: it is as that of a unit that had the word before
  pub at_once : (t : ℕ) → pwm_cycle s t (Some (Set 0 control)) ≡ pwm_cycle (configured s control) t None
  pub begins : Begins (configured s control)
  pub wave : MakesWave (configured s control) (256 * prescaler_of control)

-- where a unit stands at the beginning of its first step, each control word that enables it starts a wave
abbrev pub StartsAtOnce : PwmState → Type 0
StartsAtOnce s = s.count ≡ 0 → s.step ≡ 0 → (control : ℕ) → control % 2 ≡ 1 → StartsWave s control

-- a disabled unit stands there
abbrev pub RestsDisabled : PwmState → Type 0
RestsDisabled s = s.enabled ≡ false → (s.count ≡ 0) × (s.step ≡ 0)
