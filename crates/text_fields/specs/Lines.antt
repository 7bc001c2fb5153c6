-- A definition: the lines of a text.
use Rattle.std.specs.Prelude.{◌≡◌, ℕ, ◌+◌, ◌-◌, ◌==◌, ◌&&◌, Bool, true, not, List, [], ◌∷◌, ◌++◌, Option, Some, None, if◌then◌else◌, nat_lt, length, slice_index, take}
use Rattle.std.specs.List.{list_all}
use Rattle.text_fields.specs.Fields.{Text, add_front}

-- a byte that isn't a line feed
abbrev pub is_inside : ℕ → Bool
is_inside b = not (b == 10)

-- a text cut at each line feed: it has one piece more than line feeds
unfoldable pub pieces : Text → List Text
pieces [] = [] ∷ []
pieces (b ∷ rest) = if b == 10 then [] ∷ pieces rest else add_front b (pieces rest)

-- the last byte is a carriage return
abbrev pub ends_in_return : Text → Bool
ends_in_return line = nat_lt 0 (length line) && slice_index line (length line - 1) == 13

-- without one carriage return at the end
unfoldable pub without_return : Text → Text
without_return line = if ends_in_return line then take (length line - 1) line else line

-- a carriage return belongs to a line's end only where a line feed follows
unfoldable pub trimmed : List Text → List Text
trimmed [] = []
trimmed (line ∷ []) = line ∷ []
trimmed (line ∷ next ∷ more) = without_return line ∷ trimmed (next ∷ more)

-- the lines of a text, without what ends them
abbrev pub lines : Text → List Text
lines text = trimmed (pieces text)

-- the lines of what is left, where anything is
abbrev pub lines_after : Option Text → List Text
lines_after None = []
lines_after (Some text) = lines text

-- what follows a text's first line feed, where it has one
abbrev pub IsRest : Text → Option Text → Type 0
IsRest text None = list_all is_inside text ≡ true
IsRest text (Some rest) = (front : Text) × (list_all is_inside front ≡ true) × (text ≡ front ++ 10 ∷ rest)

-- its bytes, and one for its end
abbrev pub left_size : Option Text → ℕ
left_size None = 0
left_size (Some text) = 1 + length text
