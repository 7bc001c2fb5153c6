-- The printed names fit their places.
use Rattle.std.proofs.Common.{◌≡◌, ℕ, ◌≤◌, Bool, true, List, length, refl, arith}
use Rattle.std.specs.Prelude.{nat_le}
use mathlib.Core.Bool.{◌&&◌}
use Rattle.std.proofs.lemmas.Bool.Decides.{nat_tests}
use Rattle.rv_decode.specs.declared.instr.Op.{Op}
use Rattle.rv_decode.specs.declared.instr.Op.TheVariants.{Lui}
use Rattle.rv_decode.specs.Rows.{row_of}

-- a text has from 1 to 16 bytes
abbrev is_short : List ℕ → Bool
is_short text = nat_le 1 (length text) && nat_le (length text) 16

short_names : (op : Op) → is_short (row_of op).name ≡ true
short_names Lui = refl
short_names op = refl

bounds_of : (text : List ℕ) → is_short text ≡ true → (1 ≤ length text) × (length text ≤ 16)
bounds_of text short = (grind (arith, nat_tests), grind (arith, nat_tests))

-- the printed name of an operation has from 1 to 16 bytes
pub name_bounds : (op : Op) → (1 ≤ length (row_of op).name) × (length (row_of op).name ≤ 16)
name_bounds op = bounds_of (row_of op).name (short_names op)
