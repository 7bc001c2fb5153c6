-- One cycle of a UART unit's receiver: a definition.
use Rattle.std.specs.Prelude.{◌==◌, ℕ, ◌+◌, ◌-◌, Bool, false, nat_le, eqb, List, [], ◌∷◌, ◌++◌, length, drop, slice_get, Option, None, Some, if◌then◌else◌}
use Rattle.std.specs.List.{ends_with}
use Rattle.chip_base.specs.declared.event.Event.{Event}
use Rattle.chip_base.specs.declared.script.UartStep.{UartStep}
use Rattle.chip_base.specs.declared.script.UartStep.TheVariants.{At, Expect, Send, Image}
use Rattle.uart_lane.specs.Receiver.{Receiver}

-- what a cycle gives: the receiver after it, and a byte that goes up
pub record Received : Type 0 where
  pub receiver : Receiver
  pub byte : Option ℕ

abbrev pub last_64 : List ℕ → List ℕ
last_64 bytes = drop (length bytes - 64) bytes

-- the byte that leaves the unit in this cycle is heard
abbrev pub heard_with : Receiver → Option Event → Receiver
heard_with r None = r
heard_with r (Some e) = record r { heard = last_64 (r.heard ++ e.value ∷ []) }

abbrev pub current : Receiver → Option UartStep
current r = slice_get r.steps 0

-- the bytes that a step sends
abbrev pub step_bytes : List ℕ → Option UartStep → List ℕ
step_bytes image None = []
step_bytes image (Some (At cycle)) = []
step_bytes image (Some (Expect text)) = []
step_bytes image (Some (Send text)) = text
step_bytes image (Some Image) = image

-- no byte of the current step is left
abbrev pub is_sent : Receiver → Bool
is_sent r = nat_le (length (step_bytes r.image (current r))) r.begun_bytes

-- whether a look at this step passes it
abbrev pub passes : Receiver → ℕ → Option UartStep → Bool
passes r now None = false
passes r now (Some (At cycle)) = nat_le cycle now
passes r now (Some (Expect text)) = ends_with eqb r.heard text
passes r now (Some (Send text)) = is_sent r
passes r now (Some Image) = is_sent r

-- the next step becomes the current one, and nothing was heard since
abbrev pub passed : Receiver → Receiver
passed r = record r { steps = drop 1 r.steps; begun_bytes = 0; heard = [] }

-- the frame of the current step's next byte begins, if there is one
abbrev pub framed : Receiver → ℕ → Option ℕ → Receiver
framed r frame None = r
framed r frame (Some byte) = record r { begun_bytes = r.begun_bytes + 1; left = frame; byte = byte }

-- a look at the script: the current step passes, or its next byte begins where the unit is enabled
abbrev pub looked : Receiver → ℕ → Bool → ℕ → Receiver
looked r now enabled frame =
    if passes r now (current r) then passed r
    else if enabled then framed r frame (slice_get (step_bytes r.image (current r)) r.begun_bytes)
    else r

-- the script is looked at where no frame runs
abbrev pub ready : Receiver → ℕ → Bool → ℕ → Receiver
ready r now enabled frame = if r.left == 0 then looked r now enabled frame else r

-- the frame is over; with its last byte the step passes
abbrev pub frame_received : Receiver → Receiver
frame_received r = if is_sent r then passed (record r { left = 0 }) else record r { left = 0 }

-- a frame that runs loses one cycle, and its byte goes up in the last
abbrev pub run : Receiver → Received
run r =
    if r.left == 0 then record { receiver = r; byte = None }
    else if r.left == 1 then record { receiver = frame_received r; byte = Some r.byte }
    else record { receiver = record r { left = r.left - 1 }; byte = None }

-- one cycle, in which the unit gives this event: what is heard first, then a look, then the frame
unfoldable pub receive : Receiver → ℕ → Option Event → Bool → ℕ → Received
receive r now event enabled frame = run (ready (heard_with r event) now enabled frame)
