-- A printed text in double quotes is read as its bytes.
use Rattle.std.proofs.Common.{◌≡◌, ◌<◌, ◌+◌, ◌*◌, ◌/◌, ◌%◌, ℕ, Bool, true, false, List, [], ◌∷◌, ◌++◌, codes, Some, refl, ap, sym, ◌∙◌, arith, append_assoc, append-nil, inl, inr}
use Rattle.std.proofs.lemmas.Bool.{cases_Bool}
use Rattle.std.proofs.lemmas.Bool.Decides.{nat_tests}
use Rattle.std.specs.Prelude.{◌==◌, not}
use Rattle.std.specs.List.{flat_map, list_all}
use Rattle.hex.specs.Hex.{encode_with}
use Rattle.hex.proofs.HexLemmas.{IsDigits-lower_digits}
use Rattle.text_fields.specs.Fields.{Text}
use Rattle.text_fields.specs.Quoted.{is_printable, plain, quoted, quoted_text, turn}
use Rattle.text_fields.specs.QuotedMeaning.{stands_alone}
use Rattle.script_text.specs.ScriptText.{is_byte, quoted_byte}
use Rattle.script_text.proofs.Lists.{left, right}

not_true : (b : Bool) → not b ≡ true → b ≡ false
not_true true h = cc
not_true false h = refl

byte_round : (b : ℕ) (rest : Text) (found : List ℕ) → b < 256 → quoted (quoted_byte b ++ rest) plain found ≡ quoted rest plain (found ++ b ∷ [])
unfolding quoted turn quoted_byte encode_with
byte_round b rest found small = elim (cases_Bool (stands_alone b)) [
  | inl alone ↦
      let shown = left (is_printable b) _ alone in
      let others = right (is_printable b) _ alone in
      let quote = not_true (b == 34) (left (not (b == 34)) _ others) in
      let slash = not_true (b == 92) (right (not (b == 34)) _ others) in
      rw (alone, quote, slash, shown) refl
  | inr other ↦
      let high = IsDigits-lower_digits (b / 16) (omega arith) in
      let low = IsDigits-lower_digits (b % 16) (omega arith) in
      let whole : b / 16 * 16 + b % 16 ≡ b = omega arith in
      rw (other, high, low, whole) refl
]

bytes_round : (bs : List ℕ) (rest : Text) (found : List ℕ) → list_all is_byte bs ≡ true → quoted (flat_map quoted_byte bs ++ rest) plain found ≡ quoted rest plain (found ++ bs)
bytes_round [] rest found all = ap (quoted rest plain) (sym (append-nil found))
bytes_round (b ∷ bs) rest found all =
    let one = left (is_byte b) _ all in
    let small : b < 256 = grind (arith, nat_tests) in
    ap (λ t. quoted t plain found) (append_assoc (quoted_byte b) (flat_map quoted_byte bs) rest)
    ∙ byte_round b (flat_map quoted_byte bs ++ rest) found small
    ∙ bytes_round bs rest (found ++ b ∷ []) (right (is_byte b) _ all)
    ∙ ap (quoted rest plain) (append_assoc found (b ∷ []) bs)

quote_closes : (found : List ℕ) → quoted (34 ∷ []) plain found ≡ Some (found, [])
unfolding quoted turn
quote_closes found = refl

pub text_round : (bs : List ℕ) → list_all is_byte bs ≡ true → quoted_text (flat_map quoted_byte bs ++ codes "\"") ≡ Some (bs, [])
text_round bs all = bytes_round bs (codes "\"") [] all ∙ quote_closes bs
