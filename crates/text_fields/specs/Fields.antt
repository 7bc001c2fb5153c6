-- A definition: the fields of a line, which blanks separate.
use Rattle.std.specs.Prelude.{ℕ, ◌==◌, ◌||◌, Bool, true, not, List, [], ◌∷◌, if◌then◌else◌, take, drop}
use Rattle.std.specs.List.{prefix_len}

-- a text as its bytes
abbrev pub Text : Type 0
Text = List ℕ

-- a space or a tab
abbrev pub is_blank : ℕ → Bool
is_blank b = b == 32 || b == 9

-- a byte of a field
abbrev pub is_part : ℕ → Bool
is_part b = not (is_blank b)

-- a field ends here
abbrev pub ends_field : Text → Bool
ends_field [] = true
ends_field (b ∷ more) = is_blank b

-- a text without the blanks at its front
unfoldable pub skip : Text → Text
skip text = drop (prefix_len is_blank text) text

-- the field at the front of a text
unfoldable pub field : Text → Text
field text = take (prefix_len is_part text) text

-- what follows this field and the blanks after it
unfoldable pub after_field : Text → Text
after_field text = skip (drop (prefix_len is_part text) text)

-- the byte put before the first item
abbrev pub add_front : ℕ → List Text → List Text
add_front b [] = (b ∷ []) ∷ []
add_front b (first ∷ more) = (b ∷ first) ∷ more

-- the fields of a text, in their order
unfoldable pub fields : Text → List Text
fields [] = []
fields (b ∷ rest) = if is_blank b then fields rest else if ends_field rest then (b ∷ []) ∷ fields rest else add_front b (fields rest)
