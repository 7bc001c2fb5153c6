-- A definition: texts of groups of lanes: groups between slashes, in each the names of lanes between commas; and, as a law, that what is printed is read.
use Rattle.std.specs.Prelude.{ℕ, ◌≡◌, ◌<◌, ◌+◌, ◌==◌, Bool, List, [], ◌∷◌, ◌++◌, All, Contains, map, filter, flat_map, length, slice_index, slice_index_or, IsPermutation, Option, Some, None, codes, if◌then◌else◌, option_map}
use Rattle.std.specs.List.{slice_split, list_any, list_all, join_with_byte}
use Rattle.std.specs.Str.{bytes_eq}
use Rattle.chip_base.specs.UnitTable.{lane_names}

-- a text as its bytes
abbrev pub Text : Type 0
Text = List ℕ

-- whether a name is a lane's
abbrev pub is_lane : Text → Bool
is_lane name = list_any (bytes_eq name) lane_names

-- the pieces of a text between separators, as `split` gives them: one where there is no separator
abbrev pub pieces : ℕ → Text → List Text
pieces separator text = slice_split (λ b. b == separator) text

-- the names of each group: between groups stands a slash (47), between names a comma (44)
abbrev pub named_groups : Text → List (List Text)
named_groups text = map (pieces 44) (pieces 47 text)

-- each name with the number of its group, where the first group has this number
unfoldable pub numbered : ℕ → List (List Text) → List (Text × ℕ)
numbered number [] = []
numbered number (names ∷ rest) = map (λ name. (name, number)) names ++ numbered (number + 1) rest

-- the numbers of the groups in which a lane stands, one for each time that its name stands there
abbrev pub groups_with : List (Text × ℕ) → Text → List ℕ
groups_with places lane = map (λ p. p.1) (filter (λ p. bytes_eq p.0 lane) places)

-- the element of a list of one element
abbrev pub only : List ℕ → Option ℕ
only [] = None
only (x ∷ []) = Some x
only (x ∷ y ∷ rest) = None

-- the values, where there is one in each place
abbrev pub all_some : List (Option ℕ) → Option (List ℕ)
all_some [] = Some []
all_some (None ∷ rest) = None
all_some (Some x ∷ rest) = option_map (λ more. x ∷ more) (all_some rest)

-- the number of each lane's group, where each name is a lane's and each lane stands in one place
unfoldable pub each_once : List (Text × ℕ) → Option (List ℕ)
each_once places = if list_all (λ p. is_lane p.0) places then all_some (map (λ lane. only (groups_with places lane)) lane_names) else None

-- the number of each lane's group
abbrev pub groups_of : Text → Option (List ℕ)
groups_of text =
    if bytes_eq text (codes "all") then Some (0 ∷ 0 ∷ 0 ∷ 0 ∷ 0 ∷ 0 ∷ 0 ∷ 0 ∷ [])
    else if bytes_eq text (codes "each") then Some (0 ∷ 1 ∷ 2 ∷ 3 ∷ 4 ∷ 5 ∷ 6 ∷ 7 ∷ [])
    else each_once (numbered 0 (named_groups text))

-- In other words: what a list of groups prints is read as these groups.

-- the text of a list of groups of names
abbrev pub text_of : List (List Text) → Text
text_of groups = join_with_byte 47 (map (join_with_byte 44) groups)

-- no group is empty, and their names are the lanes' in some order
pub record IsGrouping (groups : List (List Text)) : Type 0 where
  pub filled : All (λ names. 0 < length names) groups
  pub lanes : IsPermutation (flat_map (λ names. names) groups) lane_names

-- each lane has the number of the group in which its name stands
abbrev pub AreNumbersOf : List (List Text) → List ℕ → Type 0
AreNumbersOf groups numbers = (lane number : ℕ) → lane < 8 → Contains (slice_index_or groups number []) (slice_index_or lane_names lane []) → slice_index numbers lane ≡ number
