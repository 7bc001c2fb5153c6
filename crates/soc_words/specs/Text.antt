-- A definition: printed texts, as lists of their bytes.
use Rattle.std.specs.Prelude.{ℕ, zero, suc, List, [], ◌∷◌, ◌++◌}
use Rattle.std.specs.Int.{w32, to_be_bytes}
use Rattle.hex.specs.Hex.{encode_lower}

-- a word in eight lower-case hexadecimal digits
abbrev pub hex_word : ℕ → List ℕ
hex_word word = encode_lower (to_be_bytes w32 word)

-- a text and the line feed that ends it
abbrev pub line : List ℕ → List ℕ
line text = text ++ 10 ∷ []

-- the texts that a function gives for the numbers below n, one after another
unfoldable pub joined_below : (ℕ → List ℕ) → ℕ → List ℕ
joined_below text zero = []
joined_below text (suc n) = joined_below text n ++ text n
