-- For the contracts of code: what a tally keeps of the bytes of an image.
use Rattle.std.specs.Prelude.{◌≡◌, ℕ, ◌+◌, ◌*◌, ◌%◌, ◌^◌, List, [], ◌∷◌, length, drop, get_or}
use Rattle.image_tool.specs.Image.{words, wrapping_sum}
use Rattle.boot_monitor.specs.Actions.{last_word}
use Rattle.boot_monitor.specs.declared.tally.Tally.{Tally}

-- a byte at its place in a word
abbrev pub spread_of : ℕ → ℕ → ℕ
spread_of byte place = byte * 2 ^ (8 * (place % 4))

-- the bytes after the last whole word
abbrev pub left_of : List ℕ → List ℕ
left_of (a ∷ b ∷ c ∷ d ∷ rest) = left_of rest
left_of bytes = bytes

-- the number of up to four bytes, low byte first
abbrev pub number_of : List ℕ → ℕ
number_of [] = 0
number_of (b ∷ bs) = b + 2 ^ 8 * number_of bs

pub record Counts (t : Tally) (bytes : List ℕ) : Type 0 where
  pub count : t.count ≡ length bytes
  pub part : t.part ≡ number_of (left_of bytes)
  pub last : length bytes % 4 ≡ 0 → t.last ≡ last_word bytes
  pub signature : t.signature ≡ get_or (words bytes) 0 0
  pub size : t.size ≡ get_or (words bytes) 1 0
  pub check : t.check ≡ get_or (words bytes) 2 0
  pub sum : t.sum ≡ wrapping_sum (drop 2 (words bytes))
