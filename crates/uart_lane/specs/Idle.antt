-- Serves the code alone: when a cycle without a message leaves a unit as it is.
use Rattle.std.specs.Prelude.{◌==◌, ◌&&◌, Bool, length}
use Rattle.uart_lane.specs.Receiver.{Receiver}
use Rattle.uart_lane.specs.State.{UartState}

-- no frame runs and no step is left
abbrev pub is_over : Receiver → Bool
is_over r = (r.left == 0) && (length r.steps == 0)

-- nothing is sent, nothing waits, and nothing is received any more
abbrev pub is_idle : UartState → Bool
is_idle s = (s.left == 0) && (length s.fifo == 0) && is_over s.receiver
