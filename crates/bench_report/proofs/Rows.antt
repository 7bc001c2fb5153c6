-- A row of bytes from the bytes of its words.
use Rattle.std.proofs.Common.{◌≡◌, ℕ, ◌+◌, ◌-◌, List, [], ◌∷◌, ◌++◌, length, take, drop, slice_range, slice_index_or, refl, ap, sym, ◌∙◌, arith}
use Rattle.std.proofs.Math.Seq.{take-add}
use Rattle.std.proofs.lemmas.List.{drop-drop}

abbrev items : List ℕ → List ℕ
items xs = slice_index_or xs 0 0 ∷ slice_index_or xs 1 0 ∷ slice_index_or xs 2 0 ∷ slice_index_or xs 3 0 ∷ []

-- a list of four is its items
four_items : (xs : List ℕ) → length xs ≡ 4 → items xs ≡ xs
four_items [] h = absurd (cc)
four_items (a ∷ []) h = absurd (cc)
four_items (a ∷ b ∷ []) h = absurd (cc)
four_items (a ∷ b ∷ c ∷ []) h = absurd (cc)
four_items (a ∷ b ∷ c ∷ d ∷ []) h = refl
four_items (a ∷ b ∷ c ∷ d ∷ e ∷ xs) h = absurd (grind arith)

pub four_fours : (a b c d : List ℕ) → length a ≡ 4 → length b ≡ 4 → length c ≡ 4 → length d ≡ 4
    → items a ++ items b ++ items c ++ items d ≡ a ++ b ++ c ++ d
four_fours a b c d ha hb hc hd =
    ap (λ t. t ++ items b ++ items c ++ items d) (four_items a ha)
    ∙ ap (λ t. a ++ t ++ items c ++ items d) (four_items b hb)
    ∙ ap (λ t. a ++ b ++ t ++ items d) (four_items c hc)
    ∙ ap (λ t. a ++ b ++ c ++ t) (four_items d hd)

-- two parts that touch are one
parts_touch : (xs : List ℕ) (from count more : ℕ)
    → slice_range xs from (from + count) ++ slice_range xs (from + count) (from + count + more) ≡ slice_range xs from (from + (count + more))
parts_touch xs from count more =
    let first : from + count - from ≡ count = omega arith in
    let second : from + count + more - (from + count) ≡ more = omega arith in
    let whole : from + (count + more) - from ≡ count + more = omega arith in
    rw (first, second, whole) (ap (λ r. take count (drop from xs) ++ take more r) (sym (drop-drop count from xs)) ∙ sym (take-add count more (drop from xs)))

-- four words that touch are a row
pub row_of_words : (xs : List ℕ) (from : ℕ)
    → slice_range xs from (from + 4) ++ slice_range xs (from + 4) (from + 4 + 4) ++ slice_range xs (from + 8) (from + 8 + 4)
    ++ slice_range xs (from + 12) (from + 12 + 4) ≡ slice_range xs from (from + 16)
row_of_words xs from =
    ap (λ t. t ++ slice_range xs (from + 8) (from + 8 + 4) ++ slice_range xs (from + 12) (from + 12 + 4))
    (joins from 4 4 (from + 4) (from + 4) (from + 4 + 4) (from + 8) refl refl refl (omega arith))
    ∙ ap (λ t. t ++ slice_range xs (from + 12) (from + 12 + 4))
    (joins from 8 4 (from + 8) (from + 8) (from + 8 + 4) (from + 12) refl refl refl (omega arith))
    ∙ joins from 12 4 (from + 12) (from + 12) (from + 12 + 4) (from + 16) refl refl refl (omega arith)
  where
    joins : (at count more end start next whole : ℕ) → end ≡ at + count → start ≡ at + count → next ≡ at + count + more → whole ≡ at + (count + more)
        → slice_range xs at end ++ slice_range xs start next ≡ slice_range xs at whole
    joins at count more end start next whole e s n w =
        ap (λ x. slice_range xs at x ++ slice_range xs start next) e
        ∙ ap (λ x. slice_range xs at (at + count) ++ slice_range xs x next) s
        ∙ ap (λ x. slice_range xs at (at + count) ++ slice_range xs (at + count) x) n
        ∙ parts_touch xs at count more ∙ ap (slice_range xs at) (sym w)
