-- A definition: fields of a word, and numbers made of several fields.
use Rattle.std.specs.Prelude.{ℕ, ◌+◌, ◌-◌, ◌*◌, ◌^◌, List, [], ◌∷◌}
use Rattle.soc_words.specs.Word.{field_of}

-- bits high to low of a word, as a number
abbrev pub field : ℕ → ℕ → ℕ → ℕ
field high low word = field_of word low (high + 1 - low)

-- how many bits the fields have
abbrev pub bits_of : List (ℕ × ℕ) → ℕ
bits_of [] = 0
bits_of (f ∷ fs) = f.0 + 1 - f.1 + bits_of fs

-- the fields of a word joined, the first highest
abbrev pub joined : List (ℕ × ℕ) → ℕ → ℕ
joined [] word = 0
joined (f ∷ fs) word = field f.0 f.1 word * 2 ^ bits_of fs + joined fs word

-- the bits of n from `high` downwards, placed at the fields of the list in its order
abbrev pub placed : ℕ → List (ℕ × ℕ) → ℕ → ℕ
placed high [] n = 0
placed high (f ∷ fs) n =
    let width = f.0 + 1 - f.1 in
    field_of n (high + 1 - width) width * 2 ^ f.1 + placed (high - width) fs n

-- where the bits of an immediate lie in a word of the I format
abbrev pub i_bits : List (ℕ × ℕ)
i_bits = (31, 20) ∷ []

-- the same in the S format
abbrev pub s_bits : List (ℕ × ℕ)
s_bits = (31, 25) ∷ (11, 7) ∷ []

-- the same in the B format, without the low zero
abbrev pub b_bits : List (ℕ × ℕ)
b_bits = (31, 31) ∷ (7, 7) ∷ (30, 25) ∷ (11, 8) ∷ []

-- the same in the U format, without the low twelve zeros
abbrev pub u_bits : List (ℕ × ℕ)
u_bits = (31, 12) ∷ []

-- the same in the J format, without the low zero
abbrev pub j_bits : List (ℕ × ℕ)
j_bits = (31, 31) ∷ (19, 12) ∷ (20, 20) ∷ (30, 21) ∷ []
