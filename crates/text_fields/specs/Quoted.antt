-- A definition: texts in double quotes, with escapes.
use Rattle.std.specs.Prelude.{ℕ, ◌+◌, ◌*◌, ◌==◌, ◌&&◌, Bool, List, [], ◌∷◌, ◌++◌, Option, Some, None, if◌then◌else◌, nat_le}
use Rattle.hex.specs.Hex.{hex_digit_value}
use Rattle.text_fields.specs.Fields.{Text}

-- what the letter after a backslash stands for, but `x`
abbrev pub escape_value : ℕ → Option ℕ
escape_value c =
    if c == 114 then Some 13
    else if c == 110 then Some 10
    else if c == 116 then Some 9
    else if c == 92 then Some 92
    else if c == 34 then Some 34
    else None

-- a printable character of ASCII, or the space
abbrev pub is_printable : ℕ → Bool
is_printable c = nat_le 32 c && nat_le c 126

-- where a text stands: between characters, after a backslash, after `\x`, and after its first digit
pub data Mode : Type 0 where
  plain : Mode
  slash : Mode
  high : Mode
  low : ℕ → Mode

-- what one byte of a text comes to: the closing quote, a byte of its own, more to come, or a fault
pub data Turn : Type 0 where
  closes : Turn
  gives : ℕ → Turn
  goes : Mode → Turn
  fails : Turn

-- a byte, where there is one
abbrev pub gives_or_fails : Option ℕ → Turn
gives_or_fails None = fails
gives_or_fails (Some n) = gives n

-- the first digit after `\x`
abbrev pub goes_low : Option ℕ → Turn
goes_low None = fails
goes_low (Some n) = goes (low n)

-- the second digit
abbrev pub gives_pair : ℕ → Option ℕ → Turn
gives_pair h None = fails
gives_pair h (Some l) = gives (h * 16 + l)

-- what a byte comes to
unfoldable pub turn : Mode → ℕ → Turn
turn plain c =
    if c == 34 then closes
    else if c == 92 then goes slash
    else if is_printable c then gives c
    else fails
turn slash c = if c == 120 then goes high else gives_or_fails (escape_value c)
turn high c = goes_low (hex_digit_value c)
turn (low h) c = gives_pair h (hex_digit_value c)

-- the text after one byte
abbrev pub go_on : (Mode → List ℕ → Option (List ℕ × Text)) → List ℕ → Text → Turn → Option (List ℕ × Text)
go_on more found rest closes = Some (found, rest)
go_on more found rest (gives b) = more plain (found ++ b ∷ [])
go_on more found rest (goes mode) = more mode found
go_on more found rest fails = None

-- the bytes that a text stands for, after those found, and what follows its closing quote
unfoldable pub quoted : Text → Mode → List ℕ → Option (List ℕ × Text)
quoted [] mode found = None
quoted (c ∷ rest) mode found = go_on (quoted rest) found rest (turn mode c)

-- the same from right after the opening quote
abbrev pub quoted_text : Text → Option (List ℕ × Text)
quoted_text text = quoted text plain []
