-- The state of the pulse-width modulation unit: a definition.
use Rattle.std.specs.Prelude.{ℕ, Bool, false, List, [], ◌∷◌}

pub record PwmState : Type 0 where
  pub enabled : Bool
  -- how many cycles a step takes
  pub prescaler : ℕ
  -- of each channel, in how many steps of 256 its output is high
  pub duties : List ℕ
  -- how many cycles of the step have passed
  pub count : ℕ
  -- the number of the step, 0 to 255
  pub step : ℕ
  -- the outputs, as bits of a word
  pub mask : ℕ

-- the reset state: disabled, with the settings of words of zero
abbrev pub pwm_reset : PwmState
pwm_reset = record { enabled = false; prescaler = 2; duties = 0 ∷ 0 ∷ 0 ∷ 0 ∷ []; count = 0; step = 0; mask = 0 }
