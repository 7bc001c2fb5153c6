-- Printed lines have no control characters.
use Rattle.std.proofs.Common.{◌≡◌, ◌<◌, ◌^◌, ◌/◌, ◌%◌, ℕ, Bool, true, false, List, [], ◌∷◌, ◌++◌, codes, Some, slice_index, refl, ◌∙◌, arith, inl, inr}
use Rattle.std.proofs.lemmas.Bool.{cases_Bool}
use Rattle.std.proofs.lemmas.Bool.Decides.{nat_tests}
use Rattle.std.proofs.lemmas.List.Folds.{list_all-append}
use Rattle.std.specs.Fmt.{decimal}
use Rattle.std.specs.Prelude.{nat_le}
use Rattle.std.specs.List.{flat_map, list_all}
use Rattle.hex.specs.Hex.{encode_lower, encode_with, hex_digit_value, lower_digits}
use Rattle.hex.proofs.HexLemmas.{IsDigits-lower_digits}
use Rattle.text_fields.specs.Fields.{Text}
use Rattle.text_fields.specs.Numbers.{is_digit}
use Rattle.text_fields.specs.Quoted.{is_printable}
use Rattle.text_fields.specs.QuotedMeaning.{stands_alone}
use Rattle.text_fields.proofs.LinesRound.{is_shown}
use Rattle.text_fields.proofs.PrintedNumbers.{digits_of_decimal}
use Rattle.chip_base.specs.Steps.{is_pin, is_step}
use Rattle.chip_base.specs.declared.script.PinStep.{PinStep}
use Rattle.chip_base.specs.declared.script.UartStep.{UartStep}
use Rattle.chip_base.specs.declared.script.UartStep.TheVariants as step
use Rattle.script_text.specs.ScriptText.{has_bytes, is_byte, level_text, pin_text, quoted_byte, step_text}
use Rattle.script_text.proofs.Lists.{left, right}

pub joined : (xs ys : Text) → list_all is_shown xs ≡ true → list_all is_shown ys ≡ true → list_all is_shown (xs ++ ys) ≡ true
joined xs ys a b = list_all-append is_shown xs ys ∙ rw (a, b) refl

digit_shown : (d : ℕ) → is_digit d ≡ true → is_shown d ≡ true
digit_shown d h = grind (arith, nat_tests)

digits_shown : (ds : Text) → list_all is_digit ds ≡ true → list_all is_shown ds ≡ true
digits_shown [] h = refl
digits_shown (d ∷ ds) h = rw (digit_shown d (left (is_digit d) (list_all is_digit ds) h)) (digits_shown ds (right (is_digit d) (list_all is_digit ds) h))

decimal_shown : (n : ℕ) → n < 2 ^ 64 → list_all is_shown (decimal n) ≡ true
decimal_shown n small = digits_shown (decimal n) (digits_of_decimal n small)

level_shown : (l : Bool) → list_all is_shown (level_text l) ≡ true
unfolding level_text
level_shown true = refl
level_shown false = refl

pub pin_shown : (p : PinStep) → is_pin p ≡ true → list_all is_shown (pin_text p) ≡ true
unfolding pin_text
pin_shown p is =
    let a = left (nat_le p.pin 31) _ is in
    let b = right (nat_le p.pin 31) _ is in
    let low : p.pin < 2 ^ 64 = grind (arith, nat_tests) in
    let small : p.cycle < 2 ^ 64 = grind (arith, nat_tests) in
    let last = decimal p.pin ++ level_text p.level in
    let rest = codes " " ++ last in
    joined (codes "pin ") (decimal p.cycle ++ rest) refl (joined (decimal p.cycle) rest (decimal_shown p.cycle small) (joined (codes " ") last refl
    (joined (decimal p.pin) (level_text p.level) (decimal_shown p.pin low) (level_shown p.level))))

hex_shown : (c d : ℕ) → hex_digit_value c ≡ Some d → is_shown c ≡ true
hex_shown c d h = grind (arith, nat_tests, h)

encoded_shown : (bytes : List ℕ) → list_all is_byte bytes ≡ true → list_all is_shown (encode_lower bytes) ≡ true
unfolding encode_with
encoded_shown [] all = refl
encoded_shown (b ∷ bs) all =
    let one = left (is_byte b) _ all in
    let small : b < 256 = grind (arith, nat_tests) in
    let high = hex_shown (slice_index lower_digits (b / 16)) (b / 16) (IsDigits-lower_digits (b / 16) (omega arith)) in
    let low = hex_shown (slice_index lower_digits (b % 16)) (b % 16) (IsDigits-lower_digits (b % 16) (omega arith)) in
    rw (high, low) (encoded_shown bs (right (is_byte b) _ all))

printable_shown : (b : ℕ) → is_printable b ≡ true → is_shown b ≡ true
printable_shown b h = grind (arith, nat_tests)

byte_shown : (b : ℕ) → is_byte b ≡ true → list_all is_shown (quoted_byte b) ≡ true
unfolding quoted_byte
byte_shown b is = elim (cases_Bool (stands_alone b)) [
  | inl alone ↦ rw (alone, printable_shown b (left (is_printable b) _ alone)) refl
  | inr other ↦ rw other (joined (codes "\\x") (encode_lower (b ∷ [])) refl (encoded_shown (b ∷ []) (rw is refl)))
]

bytes_shown : (bs : List ℕ) → list_all is_byte bs ≡ true → list_all is_shown (flat_map quoted_byte bs) ≡ true
bytes_shown [] all = refl
bytes_shown (b ∷ bs) all = joined (quoted_byte b) (flat_map quoted_byte bs) (byte_shown b (left (is_byte b) _ all)) (bytes_shown bs (right (is_byte b) _ all))

pub step_shown : (u : UartStep) → is_step u ≡ true → has_bytes u ≡ true → list_all is_shown (step_text u) ≡ true
unfolding step_text
step_shown (step.At cycle) is all = let small : cycle < 2 ^ 64 = grind (arith, nat_tests) in joined (codes " at ") (decimal cycle) refl (decimal_shown cycle small)
step_shown (step.Expect bytes) is all = joined (codes " expect \"") (flat_map quoted_byte bytes ++ codes "\"") refl (joined (flat_map quoted_byte bytes) (codes "\"") (bytes_shown bytes all) refl)
step_shown (step.Send []) is all = refl
step_shown (step.Send (b ∷ more)) is all = joined (codes " hex ") (encode_lower (b ∷ more)) refl (encoded_shown (b ∷ more) all)
step_shown step.Image is all = refl
