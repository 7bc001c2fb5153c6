-- Serves the code alone: names put lanes into groups, one after another.
use Rattle.std.specs.Prelude.{ℕ, ◌+◌, List, [], ◌∷◌, Option, Some, None, option_and_then, slice_get, slice_set}
use Rattle.chip_base.specs.UnitTable.{lane_named}
use Rattle.chip_base.specs.Groups.{Text}

-- for each lane the number of the group that it was put into, where it was
abbrev pub Places : Type 0
Places = List (Option ℕ)

-- no lane stands in a group
abbrev pub none_yet : Places
none_yet = None ∷ None ∷ None ∷ None ∷ None ∷ None ∷ None ∷ None ∷ []

-- the lane put into the group, unless it stands in one
abbrev pub put_free : ℕ → ℕ → Places → Option (Option ℕ) → Option Places
put_free lane group places (Some None) = Some (slice_set places lane (Some group))
put_free lane group places _ = None

-- the same for a lane that a name may not stand for
abbrev pub put : ℕ → Option ℕ → Places → Option Places
put group None places = None
put group (Some lane) places = put_free lane group places (slice_get places lane)

-- the lanes of these names put into their groups, in order
unfoldable pub put_all : List (Text × ℕ) → Places → Option Places
put_all [] places = Some places
put_all (p ∷ rest) places = option_and_then (put_all rest) (put p.1 (lane_named p.0) places)

-- how many lanes stand in a group
abbrev pub placed : Places → ℕ
placed [] = 0
placed (None ∷ rest) = placed rest
placed (Some group ∷ rest) = 1 + placed rest
