-- The state of the unit of the general-purpose pins: a definition.
use Rattle.std.specs.Prelude.{ℕ, List}
use Rattle.chip_base.specs.declared.script.PinStep.{PinStep}

pub record GpioState : Type 0 where
  -- the script's pin changes that are still to come
  pub pins : List PinStep
  -- the levels of the pins, as bits of a word
  pub inputs : ℕ
  pub outputs : ℕ

-- the unit at power-on, with the whole script to come
abbrev pub gpio_start : List PinStep → GpioState
gpio_start pins = record { pins = pins; inputs = 0; outputs = 0 }
