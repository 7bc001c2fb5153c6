-- A definition: accesses to the bus.
use Rattle.std.specs.Prelude.{ℕ}
use Rattle.soc_bus.specs.declared.access.Width.{Width}
use Rattle.soc_bus.specs.declared.access.Width.TheVariants.{Byte, Half, Word}

-- how many bytes an access has
abbrev pub width_bytes : Width → ℕ
width_bytes Byte = 1
width_bytes Half = 2
width_bytes Word = 4
