-- A line that was printed is read as this line.
use Rattle.std.proofs.Common.{◌≡◌, ◌-◌, ℕ, suc, true, false, [], ◌∷◌, ◌++◌, length, refl, ap, ◌∙◌, arith, slice_index}
use Rattle.std.proofs.lemmas.Bool.Decides.{nat_tests}
use Rattle.std.specs.Prelude.{◌==◌, Bool, nat_le}
use Rattle.std.specs.List.{list_all}
use Rattle.text_fields.specs.Fields.{Text}
use Rattle.text_fields.specs.Lines.{ends_in_return, lines, pieces, trimmed, without_return}
use Rattle.text_fields.proofs.Cuts.{pieces_some, trimmed_on}
use Rattle.text_fields.proofs.FieldRound.{left, right}

-- no control character
abbrev pub is_shown : ℕ → Bool
is_shown c = nat_le 32 c

not_feed : (c : ℕ) → is_shown c ≡ true → (c == 10) ≡ false
not_feed c h = grind (arith, nat_tests)

not_return : (c : ℕ) → is_shown c ≡ true → (c == 13) ≡ false
not_return c h = grind (arith, nat_tests)

pieces_line : (w rest : Text) → list_all is_shown w ≡ true → pieces (w ++ 10 ∷ rest) ≡ w ∷ pieces rest
unfolding pieces
pieces_line [] rest h = refl
pieces_line (c ∷ w) rest h = rw (not_feed c (left (is_shown c) (list_all is_shown w) h), pieces_line w rest (right (is_shown c) (list_all is_shown w) h)) refl

last_shown : (c : ℕ) (w : Text) → is_shown c ≡ true → list_all is_shown w ≡ true → is_shown (slice_index (c ∷ w) (length w)) ≡ true
last_shown c [] one h = one
last_shown c (d ∷ w) one h = last_shown d w (left (is_shown d) (list_all is_shown w) h) (right (is_shown d) (list_all is_shown w) h)

no_return : (w : Text) → list_all is_shown w ≡ true → ends_in_return w ≡ false
no_return [] h = refl
no_return (c ∷ w) h =
    let last = last_shown c w (left (is_shown c) (list_all is_shown w) h) (right (is_shown c) (list_all is_shown w) h) in
    let at : suc (length w) - 1 ≡ length w = omega arith in
    rw (at, not_return (slice_index (c ∷ w) (length w)) last) (grind (arith, nat_tests))

without_shown : (w : Text) → list_all is_shown w ≡ true → without_return w ≡ w
unfolding without_return
without_shown w h = rw (no_return w h) refl

-- a line of shown characters and its line feed are this line and the lines after it
pub lines_line : (w rest : Text) → list_all is_shown w ≡ true → lines (w ++ 10 ∷ rest) ≡ w ∷ lines rest
lines_line w rest h = ap trimmed (pieces_line w rest h) ∙ trimmed_on w (pieces rest) (pieces_some rest) ∙ ap (λ l. l ∷ lines rest) (without_shown w h)
