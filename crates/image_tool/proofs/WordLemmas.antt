-- Words among bytes.
use Rattle.std.proofs.Common.{zero, suc, ◌≡◌, ℕ, ◌+◌, ◌-◌, ◌*◌, ◌/◌, ◌%◌, ◌^◌, ◌<◌, ◌≤◌, List, [], ◌∷◌, ◌++◌, length, drop, get_or, ap, ◌∙◌, arith}
use Rattle.std.proofs.lemmas.List.{drop_more, get_or_append_left}
use Rattle.image_tool.specs.Image.{AreBytes, bytes_of, word_at, word_of, words, wrapping_sum}

-- four bytes are those of their word
pub bytes_of-word_of : (a b c d : ℕ) → a < 256 → b < 256 → c < 256 → d < 256 → bytes_of (word_of a b c d) ≡ a ∷ b ∷ c ∷ d ∷ []
bytes_of-word_of a b c d ha hb hc hd =
    let first : (a + 2 ^ 8 * b + 2 ^ 16 * c + 2 ^ 24 * d) % 2 ^ 8 ≡ a = omega arith in
    let second : (a + 2 ^ 8 * b + 2 ^ 16 * c + 2 ^ 24 * d) / 2 ^ 8 % 2 ^ 8 ≡ b = omega arith in
    let third : (a + 2 ^ 8 * b + 2 ^ 16 * c + 2 ^ 24 * d) / 2 ^ 16 % 2 ^ 8 ≡ c = omega arith in
    let fourth : (a + 2 ^ 8 * b + 2 ^ 16 * c + 2 ^ 24 * d) / 2 ^ 24 % 2 ^ 8 ≡ d = omega arith in
    cc

-- a word is that of its four bytes
pub word_of-bytes : (w : ℕ) → w < 2 ^ 32 → word_of (w % 2 ^ 8) (w / 2 ^ 8 % 2 ^ 8) (w / 2 ^ 16 % 2 ^ 8) (w / 2 ^ 24 % 2 ^ 8) ≡ w
word_of-bytes w fits = omega arith

-- the rest of some bytes begins with the four of a word
pub drop_word : (xs : List ℕ) (place : ℕ) → place + 4 ≤ length xs
    → drop place xs ≡ get_or xs place 0 ∷ get_or xs (place + 1) 0 ∷ get_or xs (place + 2) 0 ∷ get_or xs (place + 3) 0 ∷ drop (place + 4) xs
drop_word xs place within =
    let first : drop place xs ≡ get_or xs place 0 ∷ drop (place + 1) xs = drop_more xs place 0 (omega arith) in
    let second : drop (place + 1) xs ≡ get_or xs (place + 1) 0 ∷ drop (place + 2) xs =
    drop_more xs (place + 1) 0 (omega arith) ∙ ap (λ k. get_or xs (place + 1) 0 ∷ drop k xs) (omega arith) in
    let third : drop (place + 2) xs ≡ get_or xs (place + 2) 0 ∷ drop (place + 3) xs =
    drop_more xs (place + 2) 0 (omega arith) ∙ ap (λ k. get_or xs (place + 2) 0 ∷ drop k xs) (omega arith) in
    let fourth : drop (place + 3) xs ≡ get_or xs (place + 3) 0 ∷ drop (place + 4) xs =
    drop_more xs (place + 3) 0 (omega arith) ∙ ap (λ k. get_or xs (place + 3) 0 ∷ drop k xs) (omega arith) in
    cc

-- what is behind some bytes doesn't change their words
pub word_at-append_left : (xs ys : List ℕ) (place : ℕ) → place + 4 ≤ length xs → word_at (xs ++ ys) place ≡ word_at xs place
word_at-append_left xs ys place within =
    let first = get_or_append_left xs ys 0 place (omega arith) in
    let second = get_or_append_left xs ys 0 (place + 1) (omega arith) in
    let third = get_or_append_left xs ys 0 (place + 2) (omega arith) in
    let fourth = get_or_append_left xs ys 0 (place + 3) (omega arith) in
    cc

-- each of some bytes, and 0 behind them, is below 256
pub byte_below : (xs : List ℕ) (place : ℕ) → AreBytes xs → get_or xs place 0 < 256
byte_below [] place bytes = omega arith
byte_below (x ∷ xs) zero bytes = bytes.0
byte_below (x ∷ xs) (suc place) bytes = byte_below xs place bytes.1

-- the words of the rest begin with the word at its place
pub words-drop : (xs : List ℕ) (place : ℕ) → place + 4 ≤ length xs → words (drop place xs) ≡ word_at xs place ∷ words (drop (place + 4) xs)
words-drop xs place within = ap words (drop_word xs place within)

-- a sum of words is a word
pub wrapping_sum-fits : (ws : List ℕ) → wrapping_sum ws < 2 ^ 32
wrapping_sum-fits [] = omega arith
wrapping_sum-fits (w ∷ ws) = omega arith

-- a sum goes on downwards, by the word before the rest
pub sum_before : (xs : List ℕ) (left w total : ℕ) → 4 ≤ left → left ≤ length xs → w ≡ word_at xs (left - 4) → total ≡ wrapping_sum (words (drop left xs))
    → (total + w) % 2 ^ 32 ≡ wrapping_sum (words (drop (left - 4) xs))
sum_before xs left w total enough within word sum =
    let back : left - 4 + 4 ≡ left = omega arith in
    let next : words (drop (left - 4) xs) ≡ word_at xs (left - 4) ∷ words (drop left xs) =
    words-drop xs (left - 4) (omega arith) ∙ ap (λ k. word_at xs (left - 4) ∷ words (drop k xs)) back in
    rw next rw sum rw word (ap (λ n. n % 2 ^ 32) (omega arith))
