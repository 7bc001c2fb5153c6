-- A definition: the front of the stream link: CTRL at offset 0, DATA at offset 4, LAST at offset 8.
use Rattle.std.specs.Prelude.{ℕ, bit_and}
use Rattle.chip_base.specs.Messages.{at_either_data}
use Rattle.unit_fronts.specs.SerialFront.{SerialKind}

-- the bits of CTRL that a store writes: enable (0) and interrupt enable (22)
abbrev pub slink_kept : ℕ → ℕ
slink_kept word = bit_and word 0x00400001

-- DATA and LAST send the whole word
abbrev pub slink_kind : SerialKind
slink_kind = record { kept = slink_kept; takes = at_either_data; entry = λ reg word. word }
