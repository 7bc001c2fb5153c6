-- A definition: the front of a UART: CTRL at offset 0, DATA at offset 4.
use Rattle.std.specs.Prelude.{ℕ, ◌%◌, bit_and}
use Rattle.chip_base.specs.Messages.{at_data}
use Rattle.unit_fronts.specs.SerialFront.{SerialKind}

-- the bits of CTRL that a store writes: enable (0), prescaler (3 to 5), baud (6 to 15), interrupt enable (22)
abbrev pub uart_kept : ℕ → ℕ
uart_kept word = bit_and word 0x0040fff9

-- DATA sends the low byte
abbrev pub uart_kind : SerialKind
uart_kind = record { kept = uart_kept; takes = at_data; entry = λ reg word. word % 256 }
