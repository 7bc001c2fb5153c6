-- Numbers and registers by their printed texts.
use Rattle.std.proofs.Common.{◌≡◌, ℕ, zero, suc, ◌+◌, ◌-◌, ◌/◌, ◌%◌, ◌<◌, ◌≤◌, ◌^◌, true, false, [], ◌∷◌, ◌++◌, take, drop, slice_index, Ok, refl, sym, ap, ◌∙◌, arith, inl, inr}
use Rattle.std.specs.Prelude.{nat_le, nat_lt}
use Rattle.std.specs.Int.{w32, to_be_bytes, from_be_bytes}
use Rattle.std.specs.List.{list_all}
use Rattle.std.specs.Fmt.{decimal}
use Rattle.std.proofs.lemmas.Bool.{cases_lt}
use Rattle.std.proofs.lemmas.Bool.Decides.{nat_tests}
use Rattle.std.proofs.lemmas.Fmt.{decimal_by_steps, decimal_injective}
use Rattle.std.proofs.lemmas.List.{take-append-drop}
use Rattle.std.proofs.lemmas.List.Folds.{list_all-append}
use Rattle.std.proofs.lemmas.Nat.{from_be_bytes-to_be_bytes_4}
use Rattle.rv_decode.proofs.Table.{list_all_at}
use Rattle.hex.specs.Hex.{IsBytes, decode_of, encode_with, lower_digits}
use Rattle.hex.proofs.HexLemmas.{decode_of-encode_lower}
use Rattle.soc_words.specs.Text.{hex_word}
use Rattle.trace_text.specs.Instruction.{Text, last_digits, register_name, signed_text}
use Rattle.trace_text.proofs.Cuts.{is_field, is_inner}

digit_above : (low d : ℕ) → low ≤ 48 → nat_le low (48 + d) ≡ true
digit_above low d h = grind (arith, nat_tests)

-- a number's digits have codes from 48 up
digits_above : (low n : ℕ) → low ≤ 48 → n < 2 ^ 64 → list_all (λ c. nat_le low c) (decimal n) ≡ true
digits_above low n h small =
    decimal_by_steps (λ n ds. list_all (λ c. nat_le low c) ds ≡ true)
    (λ d lt. rw (digit_above low d h) refl)
    (λ d ds le before. rw (list_all-append (λ c. nat_le low c) ds ((48 + d % 10) ∷ []), before, digit_above low (d % 10) h) refl)
    n small

-- a number has no mark in it
pub decimal_field : (n : ℕ) → n < 2 ^ 32 → is_field (decimal n) ≡ true
decimal_field n small = digits_above 45 n (omega arith) (omega (arith, small))

-- nor has a register
pub register_field : (n : ℕ) → n < 2 ^ 32 → is_field (register_name n) ≡ true
unfolding register_name
register_field n small = decimal_field n small

-- a register is told by its text
pub register_told : (m n : ℕ) → m < 2 ^ 32 → n < 2 ^ 32 → register_name m ≡ register_name n → m ≡ n
unfolding register_name
register_told m n below_m below_n e = decimal_injective m n (omega (arith, below_m)) (omega (arith, below_n)) (tail (decimal m) (decimal n) e)
  where
    tail : (xs ys : Text) → 120 ∷ xs ≡ 120 ∷ ys → xs ≡ ys
    tail xs ys e = cc

-- a number begins with no minus sign
no_sign : (n : ℕ) (text : Text) → n < 2 ^ 64 → decimal n ≡ 45 ∷ text → ⊥
no_sign n text small e =
    let above : list_all (λ c. nat_le 48 c) (decimal n) ≡ true = digits_above 48 n (omega arith) small in
    absurd (off (rw e at above))
  where
    off : false ≡ true → ⊥
    off e = absurd (cc)

signed_low : (word : ℕ) → word < 2 ^ 31 → signed_text word ≡ decimal word
unfolding signed_text
signed_low word low = let t : nat_lt word (2 ^ 31) ≡ true = grind (arith, nat_tests) in rw t refl

signed_high : (word : ℕ) → 2 ^ 31 ≤ word → signed_text word ≡ 45 ∷ decimal (2 ^ 32 - word)
unfolding signed_text
signed_high word high = let t : nat_lt word (2 ^ 31) ≡ false = grind (arith, nat_tests) in rw t refl

-- a signed number has no mark in it
pub signed_field : (word : ℕ) → word < 2 ^ 32 → is_field (signed_text word) ≡ true
signed_field word small = elim (cases_lt word (2 ^ 31)) [
  | inl low ↦ rw (signed_low word low) (decimal_field word small)
  | inr high ↦ rw (signed_high word high, digits_above 45 (2 ^ 32 - word) (omega arith) (omega arith)) refl
]

-- a word is told by its text in signed decimal
pub signed_told : (m n : ℕ) → m < 2 ^ 32 → n < 2 ^ 32 → signed_text m ≡ signed_text n → m ≡ n
signed_told m n below_m below_n e = elim (cases_lt m (2 ^ 31)) [
  | inl low_m ↦ elim (cases_lt n (2 ^ 31)) [
    | inl low_n ↦ decimal_injective m n (omega (arith, below_m)) (omega (arith, below_n)) (sym (signed_low m low_m) ∙ e ∙ signed_low n low_n)
    | inr high_n ↦ absurd (no_sign m (decimal (2 ^ 32 - n)) (omega (arith, below_m)) (sym (signed_low m low_m) ∙ e ∙ signed_high n high_n))
  ]
  | inr high_m ↦ elim (cases_lt n (2 ^ 31)) [
    | inl low_n ↦ absurd (no_sign n (decimal (2 ^ 32 - m)) (omega (arith, below_n)) (sym (signed_low n low_n) ∙ sym e ∙ signed_high m high_m))
    | inr high_n ↦
        let magnitude : 2 ^ 32 - m ≡ 2 ^ 32 - n = decimal_injective (2 ^ 32 - m) (2 ^ 32 - n) (omega arith) (omega arith)
        (tail (decimal (2 ^ 32 - m)) (decimal (2 ^ 32 - n)) (sym (signed_high m high_m) ∙ e ∙ signed_high n high_n)) in
        omega (arith, magnitude, below_m, below_n)
  ]
]
  where
    tail : (xs ys : Text) → 45 ∷ xs ≡ 45 ∷ ys → xs ≡ ys
    tail xs ys e = cc

four_bytes : (a b c d : ℕ) → a < 256 → b < 256 → c < 256 → d < 256 → IsBytes (a ∷ b ∷ c ∷ d ∷ [])
four_bytes a b c d ha hb hc hd zero = ha
four_bytes a b c d ha hb hc hd (suc zero) = hb
four_bytes a b c d ha hb hc hd (suc (suc zero)) = hc
four_bytes a b c d ha hb hc hd (suc (suc (suc zero))) = hd
four_bytes a b c d ha hb hc hd (suc (suc (suc (suc k)))) = omega arith

word_bytes : (n : ℕ) → IsBytes (to_be_bytes w32 n)
word_bytes n = four_bytes _ _ _ _ (omega arith) (omega arith) (omega arith) (omega arith)

-- a word is told by its eight digits
pub hex_told : (m n : ℕ) → m < 2 ^ 32 → n < 2 ^ 32 → hex_word m ≡ hex_word n → m ≡ n
hex_told m n below_m below_n e =
    let read : Ok (to_be_bytes w32 m) ≡ Ok (to_be_bytes w32 n) =
    sym (decode_of-encode_lower (to_be_bytes w32 m) (word_bytes m)) ∙ ap decode_of e ∙ decode_of-encode_lower (to_be_bytes w32 n) (word_bytes n) in
    let bytes : to_be_bytes w32 m ≡ to_be_bytes w32 n = cc in
    sym (from_be_bytes-to_be_bytes_4 m below_m) ∙ ap (from_be_bytes w32) bytes ∙ from_be_bytes-to_be_bytes_4 n below_n

-- a word below 2 ^ 20 begins with three zeros
three_zeros : (n : ℕ) → n < 2 ^ 20 → take 3 (hex_word n) ≡ 48 ∷ 48 ∷ 48 ∷ []
unfolding encode_with
three_zeros n small =
    let first : n / 16777216 % 256 / 16 ≡ 0 = omega arith in
    let second : n / 16777216 % 256 % 16 ≡ 0 = omega arith in
    let third : n / 65536 % 256 / 16 ≡ 0 = omega arith in
    rw (first, second, third) refl

-- one below 2 ^ 12 with five
five_zeros : (n : ℕ) → n < 2 ^ 12 → take 5 (hex_word n) ≡ 48 ∷ 48 ∷ 48 ∷ 48 ∷ 48 ∷ []
unfolding encode_with
five_zeros n small =
    let first : n / 16777216 % 256 / 16 ≡ 0 = omega arith in
    let second : n / 16777216 % 256 % 16 ≡ 0 = omega arith in
    let third : n / 65536 % 256 / 16 ≡ 0 = omega arith in
    let fourth : n / 65536 % 256 % 16 ≡ 0 = omega arith in
    let fifth : n / 256 % 256 / 16 ≡ 0 = omega arith in
    rw (first, second, third, fourth, fifth) refl

-- where the first digits of two words are alike, the others tell them
others_tell : (count m n : ℕ) → m < 2 ^ 32 → n < 2 ^ 32 → take count (hex_word m) ≡ take count (hex_word n)
    → drop count (hex_word m) ≡ drop count (hex_word n) → m ≡ n
others_tell count m n below_m below_n front back = hex_told m n below_m below_n (
    sym (take-append-drop count (hex_word m)) ∙ ap (λ text. text ++ drop count (hex_word m)) front
    ∙ ap (λ text. take count (hex_word n) ++ text) back ∙ take-append-drop count (hex_word n))

-- a number below 2 ^ 20 is told by its last five digits
pub five_told : (m n : ℕ) → m < 2 ^ 20 → n < 2 ^ 20 → last_digits 5 m ≡ last_digits 5 n → m ≡ n
unfolding last_digits
five_told m n below_m below_n e = others_tell 3 m n (omega (arith, below_m)) (omega (arith, below_n)) (three_zeros m below_m ∙ sym (three_zeros n below_n)) e

-- one below 2 ^ 12 by its last three
pub three_told : (m n : ℕ) → m < 2 ^ 12 → n < 2 ^ 12 → last_digits 3 m ≡ last_digits 3 n → m ≡ n
unfolding last_digits
three_told m n below_m below_n e = others_tell 5 m n (omega (arith, below_m)) (omega (arith, below_n)) (five_zeros m below_m ∙ sym (five_zeros n below_n)) e

digit_inner : (d : ℕ) → d < 16 → is_inner (slice_index lower_digits d) ≡ true
digit_inner d within = list_all_at is_inner lower_digits refl d within 0

-- three digits have no mark in them
pub three_field : (n : ℕ) → is_field (last_digits 3 n) ≡ true
unfolding last_digits encode_with
three_field n =
    rw (digit_inner (n / 256 % 256 % 16) (omega arith), digit_inner (n % 256 / 16) (omega arith), digit_inner (n % 256 % 16) (omega arith)) refl
