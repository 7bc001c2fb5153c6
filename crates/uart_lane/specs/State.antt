-- The state of a UART unit: a definition.
use Rattle.std.specs.Prelude.{ℕ, Bool, false, List, []}
use Rattle.chip_base.specs.declared.script.UartStep.{UartStep}
use Rattle.uart_lane.specs.Receiver.{Receiver, at_first, dropped}

pub record UartState : Type 0 where
  -- the unit's number in events
  pub number : ℕ
  pub enabled : Bool
  -- how many cycles a bit takes
  pub bit : ℕ
  -- bytes that weren't sent yet, oldest first; the first is the one whose frame runs
  pub fifo : List ℕ
  -- how many cycles are left of the frame; no frame runs at 0
  pub left : ℕ
  -- what the unit receives
  pub receiver : Receiver

-- disabled, with the settings of a control word of zero, and without a frame; the script's place stays
abbrev pub uart_reset : ℕ → Receiver → UartState
uart_reset number receiver = record { number = number; enabled = false; bit = 2; fifo = []; left = 0; receiver = dropped receiver }

-- the unit at power-on, with these steps to come and these bytes for an image step
abbrev pub uart_start : ℕ → List UartStep → List ℕ → UartState
uart_start number steps image = uart_reset number (at_first steps image)
