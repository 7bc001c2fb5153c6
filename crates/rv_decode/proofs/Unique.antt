-- At most one row matches a word, so the row that matches decides what the word decodes to.
use Rattle.std.proofs.Common.{◌≡◌, ℕ, Bool, true, eqb, get_or, List, [], ◌∷◌, Option, Some, None, refl, sym, ap, ◌∙◌, arith, bit_and, cond, map}
use Rattle.std.specs.List.{find, Contains, position_or_len}
use Rattle.std.specs.Option.{option_map}
use mathlib.Core.Bool.{not, ◌&&◌}
use Rattle.std.proofs.lemmas.Nat.Bits.{same_from_bits, bit_at_and}
use Rattle.std.proofs.lemmas.Bool.Decides.{nat_tests}
use Rattle.rv_decode.specs.declared.instr.Op.{Op}
use Rattle.rv_decode.specs.declared.instr.Op.TheVariants.{Lui}
use Rattle.rv_decode.specs.Rows.{Row, mask_of, pattern_of, ops, rows, matches, row_of, row_at, decoded, instr_of, HasRow}
use Rattle.rv_decode.proofs.Masks.{own_op}
use Rattle.rv_decode.proofs.Table.{all_apart, found_at, off_from}

-- two rows whose common mask tells their patterns apart
abbrev apart : Row → Row → Bool
apart r s = not (eqb (bit_and (bit_and (mask_of r.fields) (mask_of s.fields)) (pattern_of r.fields)) (bit_and (bit_and (mask_of r.fields) (mask_of s.fields)) (pattern_of s.fields)))

rows_apart : all_apart apart rows ≡ true
rows_apart = refl

-- under what two masks share, what a word has under the one is what it has under the other
pub common_mask : (m n w : ℕ) → bit_and (bit_and m n) (bit_and w m) ≡ bit_and (bit_and m n) (bit_and w n)
common_mask m n w = same_from_bits _ _ (λ i. simp bit_at_and (omega arith))

not_both : (w : ℕ) (r s : Row) → apart r s ≡ true → matches w r ≡ true → matches w s ≡ true → ⊥
not_both w r s far at_r at_s =
    let e : bit_and w (mask_of r.fields) ≡ (pattern_of r.fields) = grind (arith, nat_tests) in
    let f : bit_and w (mask_of s.fields) ≡ (pattern_of s.fields) = grind (arith, nat_tests) in
    let same : bit_and (bit_and (mask_of r.fields) (mask_of s.fields)) (pattern_of r.fields) ≡ bit_and (bit_and (mask_of r.fields) (mask_of s.fields)) (pattern_of s.fields) =
    ap (bit_and (bit_and (mask_of r.fields) (mask_of s.fields))) (sym e) ∙ common_mask (mask_of r.fields) (mask_of s.fields) w ∙ ap (bit_and (bit_and (mask_of r.fields) (mask_of s.fields))) f in
    grind (arith, nat_tests)

-- where a row stands in the table
place : Row → ℕ
place r = position_or_len (λ (s : Row). eqb (pattern_of s.fields) (pattern_of r.fields) && eqb (mask_of s.fields) (mask_of r.fields)) rows

-- the row of each operation is in the table
listed : (op : Op) → Contains rows (row_of op)
unfolding place
listed Lui = (place (row_of Lui), omega arith, refl)
listed op = (place (row_of op), omega arith, refl)

-- the row that matches is the one found
row_found : (w : ℕ) (r : Row) → Contains rows r → bit_and w (mask_of r.fields) ≡ pattern_of r.fields → row_at w ≡ Some r
row_found w r inside has =
    let on : matches w r ≡ true = tested (bit_and w (mask_of r.fields)) (pattern_of r.fields) has in
    let on_k : matches w (get_or rows inside.0 r) ≡ true = ap (matches w) inside.2 ∙ on in
    found_at (matches w) apart (not_both w) rows rows_apart inside.0 inside.1 r on_k ∙ ap (λ (x : Row). Some x) inside.2
  where
    tested : (x y : ℕ) → x ≡ y → eqb x y ≡ true
    tested x y e = grind (arith, nat_tests)

same_found : (o : Option Row) (r s : Row) → o ≡ Some r → o ≡ Some s → r ≡ s
same_found o r s e f = cc

-- at most one row matches
pub one_row : (w : ℕ) (o p : Op) → HasRow w o → HasRow w p → o ≡ p
one_row w o p h g =
    let e : row_at w ≡ Some (row_of o) = row_found w (row_of o) (listed o) h in
    let f : row_at w ≡ Some (row_of p) = row_found w (row_of p) (listed p) g in
    sym (own_op o) ∙ ap (λ (r : Row). r.op) (same_found (row_at w) (row_of o) (row_of p) e f) ∙ own_op p

-- the row that matches gives the instruction
pub decoded_row : (w : ℕ) (op : Op) → HasRow w op → decoded w ≡ Some (instr_of w (row_of op))
unfolding decoded
decoded_row w op h = ap (option_map (instr_of w)) (row_found w (row_of op) (listed op) h)

none_in : (w : ℕ) (os : List Op) → ((op : Op) → ¬ HasRow w op) → find (matches w) (map row_of os) ≡ None
none_in w [] h = refl
none_in w (op ∷ os) h = passed (row_of op) (h op) (find (matches w) (map row_of os)) (none_in w os h)
  where
    tested : (r : Row) → matches w r ≡ true → bit_and w (mask_of r.fields) ≡ (pattern_of r.fields)
    tested r on = grind (arith, nat_tests)

    passed : (r : Row) → ¬ (bit_and w (mask_of r.fields) ≡ pattern_of r.fields) → (rest : Option Row) → rest ≡ None → cond (matches w r) (Some r) rest ≡ None
    passed r off rest none = ap (λ (b : Bool). cond b (Some r) rest) (off_from _ (λ on. off (tested r on))) ∙ none

-- where no row matches, there is none
pub decoded_none : (w : ℕ) → ((op : Op) → ¬ HasRow w op) → decoded w ≡ None
unfolding decoded
decoded_none w h = ap (option_map (instr_of w)) (none_in w ops h)
