-- A definition: the front of the SPI unit: CTRL at offset 0, DATA at offset 4, CS at offset 8.
use Rattle.std.specs.Prelude.{◌==◌, ℕ, ◌%◌, bit_and, if◌then◌else◌}
use Rattle.chip_base.specs.Messages.{at_either_data}
use Rattle.unit_fronts.specs.SerialFront.{SerialKind}

-- the bits of CTRL that a store writes: enable (0), prescaler (3 to 5), divider (6 to 9), interrupt enable (22)
abbrev pub spi_kept : ℕ → ℕ
spi_kept word = bit_and word 0x004003f9

-- DATA sends the low byte, and CS bit 0
abbrev pub spi_kind : SerialKind
spi_kind = record { kept = spi_kept; takes = at_either_data; entry = λ reg word. if reg == 4 then word % 256 else word % 2 }
