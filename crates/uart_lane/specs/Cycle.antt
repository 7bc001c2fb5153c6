-- One cycle of a UART unit: a definition.
use Rattle.std.specs.Prelude.{◌==◌, ℕ, ◌+◌, ◌-◌, ◌*◌, ◌/◌, ◌%◌, Bool, ◌&&◌, nat_lt, List, [], ◌∷◌, ◌++◌, length, Option, None, Some, if◌then◌else◌}
use Rattle.chip_base.specs.declared.event.EventKind.TheVariants.{Tx}
use Rattle.chip_base.specs.declared.message.Down.{Down}
use Rattle.chip_base.specs.declared.message.Down.TheVariants.{Reset, Set}
use Rattle.chip_base.specs.declared.message.Up.{Up}
use Rattle.chip_base.specs.Given.{Given, quiet}
use Rattle.chip_base.specs.Messages.{credit_up, done_up, silent_up, with_word}
use Rattle.chip_base.specs.Prescalers.{prescaler_of}
use Rattle.uart_lane.specs.Receiving.{Received, receive}
use Rattle.uart_lane.specs.State.{UartState, uart_reset}

-- the cycles of a bit by a control word: prescaler times baud + 1
abbrev pub bit_time : ℕ → ℕ
bit_time control = prescaler_of control * (control / 64 % 1024 + 1)

-- a new control word; a frame that runs keeps its length
abbrev pub configured : UartState → ℕ → UartState
configured s control = record s { enabled = control % 2 == 1; bit = bit_time control }

-- one byte more; where sixteen wait it is lost
abbrev pub queued : UartState → ℕ → UartState
queued s byte = if nat_lt (length s.fifo) 16 then record s { fifo = s.fifo ++ byte ∷ [] } else s

-- after a register was set: the control word at 0, a byte at 4
abbrev pub set_in : UartState → ℕ → ℕ → UartState
set_in s reg word = if reg == 0 then configured s word else if reg == 4 then queued s (word % 256) else s

-- a frame is ten bits long: the start bit, eight bits of the byte, and the stop bit
abbrev pub frame_of : UartState → ℕ
frame_of s = 10 * s.bit

abbrev pub may_begin : UartState → Bool
may_begin s = s.left == 0 && s.enabled && nat_lt 0 (length s.fifo)

-- a frame begins where none runs, the unit is enabled and a byte waits
abbrev pub begun : UartState → UartState
begun s = if may_begin s then record s { left = frame_of s } else s

-- the frame's last cycle: its byte leaves
abbrev pub frame_sent : UartState → ℕ → List ℕ → Given UartState
frame_sent s now [] = quiet (record s { left = 0 })
frame_sent s now (byte ∷ rest) = record {
  unit = record s { fifo = rest; left = 0 };
  up = Some credit_up;
  event = Some (record { cycle = now; unit = s.number; kind = Tx; value = byte });
}

-- a frame that runs loses one cycle
abbrev pub sent : UartState → ℕ → Given UartState
sent s now = if s.left == 0 then quiet s else if s.left == 1 then frame_sent s now s.fifo else quiet (record s { left = s.left - 1 })

-- the received byte goes up beside what the transmitter says
abbrev pub with_byte : Option Up → Option ℕ → Option Up
with_byte up None = up
with_byte None (Some byte) = Some (with_word silent_up byte)
with_byte (Some up) (Some byte) = Some (with_word up byte)

-- what the receiver does after the transmitter, whose event it hears
abbrev pub heard_by : Given UartState → ℕ → Received
heard_by g now = receive g.unit.receiver now g.event g.unit.enabled (frame_of g.unit)

-- both parts of a cycle together
abbrev pub received : Given UartState → ℕ → Given UartState
received g now = record {
  unit = record g.unit { receiver = (heard_by g now).receiver };
  up = with_byte g.up (heard_by g now).byte;
  event = g.event;
}

-- a Reset drops both frames and the bytes that wait to be sent
abbrev pub reset : UartState → Given UartState
reset s = record { unit = uart_reset s.number s.receiver; up = Some done_up; event = None }

-- one cycle: the message first, then the transmitter, then the receiver
unfoldable pub uart_cycle : UartState → ℕ → Option Down → Given UartState
uart_cycle s now None = received (sent (begun s) now) now
uart_cycle s now (Some Reset) = reset s
uart_cycle s now (Some (Set reg word)) = received (sent (begun (set_in s reg word)) now) now
