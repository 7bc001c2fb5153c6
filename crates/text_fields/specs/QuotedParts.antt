-- Serves the code alone: what the reader's places and steps in a quoted text stand for.
use Rattle.std.specs.Prelude.{ℕ, Bool, true, nat_lt, List, Vec}
use Rattle.std.specs.Borrow.{Bor}
use Rattle.std.specs.declared.alloc.Global.{Global}
use Rattle.text_fields.specs.Quoted.{Mode, Turn, plain, slash, high, low, closes, gives, goes, fails}
use Rattle.text_fields.specs.declared.quoted.Place.{Place}
use Rattle.text_fields.specs.declared.quoted.Place.TheVariants as place
use Rattle.text_fields.specs.declared.quoted.Comes.{Comes}
use Rattle.text_fields.specs.declared.quoted.Comes.TheVariants as comes

-- the mode of a place
abbrev pub mode_view : Place → Mode
mode_view place.Plain = plain
mode_view place.Slash = slash
mode_view place.High = high
mode_view (place.Low h) = low h

-- a digit that was read is below 16
abbrev pub is_small : Place → Bool
is_small (place.Low h) = nat_lt h 16
is_small _ = true

-- the turn of a step
abbrev pub turn_view : Comes → Turn
turn_view comes.Closes = closes
turn_view (comes.Gives b) = gives b
turn_view (comes.Goes p) = goes (mode_view p)
turn_view comes.Fails = fails

-- and its place is such a place
abbrev pub comes_small : Comes → Bool
comes_small (comes.Goes p) = is_small p
comes_small _ = true

-- the bytes and the text after them
abbrev pub quoted_view : Vec ℕ Global × Bor (List ℕ) → List ℕ × List ℕ
quoted_view p = (p.0.items, p.1.now)
