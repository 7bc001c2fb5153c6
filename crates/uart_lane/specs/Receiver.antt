-- The state of a UART unit's receiver: a definition.
use Rattle.std.specs.Prelude.{ℕ, List, []}
use Rattle.chip_base.specs.declared.script.UartStep.{UartStep}

pub record Receiver : Type 0 where
  -- the steps that didn't pass yet; the first is the current one
  pub steps : List UartStep
  -- the bytes that an image step sends
  pub image : List ℕ
  -- how many bytes of the current step had a frame, also one that runs or was dropped
  pub begun_bytes : ℕ
  -- the bytes that left the unit in cycles after the step became the current one: the last 64, since no text to expect is longer
  pub heard : List ℕ
  -- how many cycles are left of a frame; no frame runs at 0
  pub left : ℕ
  -- the byte of the frame
  pub byte : ℕ

-- before the first cycle: all steps are still to come
abbrev pub at_first : List UartStep → List ℕ → Receiver
at_first steps image = record { steps = steps; image = image; begun_bytes = 0; heard = []; left = 0; byte = 0 }

-- a Reset drops the frame, and nothing else
abbrev pub dropped : Receiver → Receiver
dropped r = record r { left = 0 }
