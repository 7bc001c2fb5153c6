-- A definition: bits of words, and the halves of numbers of 64 bits.
use Rattle.std.specs.Prelude.{ℕ, ◌+◌, ◌*◌, ◌/◌, ◌%◌, ◌^◌, Bool, if◌then◌else◌}

-- a bit of a word, by its place, where it is set
abbrev pub bit_if : ℕ → Bool → ℕ
bit_if place is_set = if is_set then 2 ^ place else 0

-- the low and the high word of a number of 64 bits
abbrev pub low_of : ℕ → ℕ
low_of n = n % 2 ^ 32

abbrev pub high_of : ℕ → ℕ
high_of n = n / 2 ^ 32

-- the number with another low word, and with another high word
abbrev pub low_set : ℕ → ℕ → ℕ
low_set n word = n / 2 ^ 32 * 2 ^ 32 + word

abbrev pub high_set : ℕ → ℕ → ℕ
high_set n word = word * 2 ^ 32 + n % 2 ^ 32
