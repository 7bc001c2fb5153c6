-- A law over definitions: what a text in double quotes is: written characters one after another, and the closing quote.
use Rattle.std.specs.Prelude.{◌≡◌, ◌⊎◌, ℕ, ◌+◌, ◌*◌, ◌==◌, ◌&&◌, Bool, true, not, List, [], ◌∷◌, ◌++◌, Some}
use Rattle.hex.specs.Hex.{hex_digit_value}
use Rattle.text_fields.specs.Fields.{Text}
use Rattle.text_fields.specs.Quoted.{escape_value, is_printable}

-- a character that stands for itself
abbrev pub stands_alone : ℕ → Bool
stands_alone b = is_printable b && (not (b == 34) && not (b == 92))

-- a backslash and a letter
pub record IsEscape (b : ℕ) (written : Text) : Type 0 where
  pub letter : ℕ
  pub means : escape_value letter ≡ Some b
  pub is : written ≡ 92 ∷ letter ∷ []

-- a backslash, `x` and two digits
pub record IsHexEscape (b : ℕ) (written : Text) : Type 0 where
  pub high : ℕ
  pub low : ℕ
  pub high_digit : ℕ
  pub low_digit : ℕ
  pub high_means : hex_digit_value high_digit ≡ Some high
  pub low_means : hex_digit_value low_digit ≡ Some low
  pub value : b ≡ high * 16 + low
  pub is : written ≡ 92 ∷ 120 ∷ high_digit ∷ low_digit ∷ []

-- one way to write a byte
abbrev pub IsWritten : ℕ → Text → Type 0
IsWritten b written = ((stands_alone b ≡ true) × (written ≡ b ∷ [])) ⊎ (IsEscape b written ⊎ IsHexEscape b written)

-- bytes as they are written, the closing quote, and the rest
abbrev pub IsQuoted : Text → List ℕ → Text → Type 0
IsQuoted text [] rest = text ≡ 34 ∷ rest
IsQuoted text (b ∷ bytes) rest = (written : Text) × (more : Text) × IsWritten b written × (text ≡ written ++ more) × IsQuoted more bytes rest
