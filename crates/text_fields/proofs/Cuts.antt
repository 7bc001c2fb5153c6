-- A text cut at its first line feed.
use Rattle.std.proofs.Common.{◌≡◌, ◌<◌, ◌+◌, ℕ, suc, true, List, [], ◌∷◌, ◌++◌, length, Some, take, drop, refl, ap, ◌∙◌, arith}
use Rattle.std.proofs.lemmas.Bool.{cases_Bool}
use Rattle.std.proofs.Common.{inl, inr}
use Rattle.std.specs.Prelude.{◌==◌}
use Rattle.std.proofs.lemmas.Bool.Decides.{nat_tests}
use Rattle.std.specs.List.{list_all, prefix_len}
use Rattle.text_fields.specs.Fields.{Text, add_front}
use Rattle.text_fields.specs.Lines.{IsRest, is_inside, pieces, trimmed, without_return}

pub pieces_last : (xs : Text) → prefix_len is_inside xs ≡ length xs → pieces xs ≡ xs ∷ []
unfolding pieces
pieces_last [] h = refl
pieces_last (x ∷ xs) h = elim (cases_Bool (x == 10)) [
  | inl feed ↦ let zero_is : 0 ≡ suc (length xs) = (rw feed at h) in absurd (omega arith)
  | inr other ↦ let more : 1 + prefix_len is_inside xs ≡ suc (length xs) = (rw other at h) in rw (other, pieces_last xs (omega arith)) refl
]

pub pieces_cut : (xs : Text) → prefix_len is_inside xs < length xs → pieces xs ≡ take (prefix_len is_inside xs) xs ∷ pieces (drop (prefix_len is_inside xs + 1) xs)
unfolding pieces
pieces_cut [] h = absurd (omega arith)
pieces_cut (x ∷ xs) h = elim (cases_Bool (x == 10)) [
  | inl feed ↦ rw feed refl
  | inr other ↦ let more : 1 + prefix_len is_inside xs < suc (length xs) = (rw other at h) in
      let next : 1 + prefix_len is_inside xs ≡ suc (prefix_len is_inside xs) = omega arith in
      let after : suc (prefix_len is_inside xs) + 1 ≡ suc (prefix_len is_inside xs + 1) = omega arith in
      rw (other, pieces_cut xs (omega arith), next, after) refl
]

pub trimmed_on : (line : Text) (more : List Text) → 0 < length more → trimmed (line ∷ more) ≡ without_return line ∷ trimmed more
unfolding trimmed
trimmed_on line [] h = absurd (omega arith)
trimmed_on line (next ∷ more) h = refl

front_some : (b : ℕ) (ls : List Text) → 0 < length (add_front b ls)
front_some b [] = omega arith
front_some b (l ∷ ls) = omega arith

pub pieces_some : (xs : Text) → 0 < length (pieces xs)
unfolding pieces
pieces_some [] = omega arith
pieces_some (x ∷ xs) = elim (cases_Bool (x == 10)) [
  | inl feed ↦ rw feed (omega arith)
  | inr other ↦ rw other (front_some x (pieces xs))
]

pub trimmed_last : (xs : Text) → prefix_len is_inside xs ≡ length xs → trimmed (pieces xs) ≡ xs ∷ []
unfolding trimmed
trimmed_last xs h = rw (pieces_last xs h) refl

pub trimmed_cut : (xs : Text) → prefix_len is_inside xs < length xs
    → trimmed (pieces xs) ≡ without_return (take (prefix_len is_inside xs) xs) ∷ trimmed (pieces (drop (prefix_len is_inside xs + 1) xs))
trimmed_cut xs h = ap trimmed (pieces_cut xs h) ∙ trimmed_on _ _ (pieces_some _)

-- a text without a line feed
pub rest_last : (xs : Text) → prefix_len is_inside xs ≡ length xs → list_all is_inside xs ≡ true
rest_last [] h = refl
rest_last (x ∷ xs) h = elim (cases_Bool (x == 10)) [
  | inl feed ↦ let zero_is : 0 ≡ suc (length xs) = (rw feed at h) in absurd (omega arith)
  | inr other ↦ let more : 1 + prefix_len is_inside xs ≡ suc (length xs) = (rw other at h) in rw (other, rest_last xs (omega arith)) refl
]

inside_front : (xs : Text) → list_all is_inside (take (prefix_len is_inside xs) xs) ≡ true
inside_front [] = refl
inside_front (x ∷ xs) = elim (cases_Bool (x == 10)) [
  | inl feed ↦ rw feed refl
  | inr other ↦ let next : 1 + prefix_len is_inside xs ≡ suc (prefix_len is_inside xs) = omega arith in rw (other, next, other, inside_front xs) refl
]

at_feed : (xs : Text) → prefix_len is_inside xs < length xs → xs ≡ take (prefix_len is_inside xs) xs ++ 10 ∷ drop (prefix_len is_inside xs + 1) xs
at_feed [] h = absurd (omega arith)
at_feed (x ∷ xs) h = elim (cases_Bool (x == 10)) [
  | inl feed ↦ let ten : x ≡ 10 = grind (arith, nat_tests, feed) in rw feed (ap (λ y. y ∷ xs) ten)
  | inr other ↦ let more : 1 + prefix_len is_inside xs < suc (length xs) = (rw other at h) in
      let next : 1 + prefix_len is_inside xs ≡ suc (prefix_len is_inside xs) = omega arith in
      let after : suc (prefix_len is_inside xs) + 1 ≡ suc (prefix_len is_inside xs + 1) = omega arith in
      rw (other, next, after) (ap (λ ys. x ∷ ys) (at_feed xs (omega arith)))
]

-- what follows the first line feed
pub rest_cut : (xs rest : Text) → prefix_len is_inside xs < length xs → rest ≡ drop (prefix_len is_inside xs + 1) xs → IsRest xs (Some rest)
rest_cut xs rest h is = (take (prefix_len is_inside xs) xs, inside_front xs, rw is (at_feed xs h))
