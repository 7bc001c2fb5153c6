-- A printed number at the front of a line is read as this number.
use Rattle.std.proofs.Common.{◌≡◌, ◌<◌, ◌^◌, ◌-◌, ℕ, true, [], ◌∷◌, ◌++◌, length, Ok, refl, ap, sym, ◌∙◌, arith, length-append, append-nil}
use Rattle.std.specs.Fmt.{decimal}
use Rattle.std.proofs.lemmas.Fmt.{decimal_nonempty}
use Rattle.std.specs.List.{list_all}
use Rattle.text_fields.specs.Fields.{Text, after_field, ends_field, field, is_part, skip}
use Rattle.text_fields.specs.Numbers.{number_of}
use Rattle.text_fields.proofs.FieldRound.{after_run, digits_parts, field_run, skip_run}
use Rattle.text_fields.proofs.PrintedNumbers.{digits_of_decimal, number_of-decimal}
use Rattle.script_text.specs.ScriptLine.{number_field, or_fault}
use Rattle.script_text.specs.declared.script_fault.ScriptKind.TheVariants as kind

number_some : (t : Text) → 0 < length t → number_field t ≡ or_fault kind.Number (number_of 10 (2 ^ 32 - 1) (field t)) (after_field t)
unfolding number_field
number_some [] h = absurd (omega arith)
number_some (b ∷ more) h = refl

pub decimal_parts : (n : ℕ) → n < 2 ^ 64 → list_all is_part (decimal n) ≡ true
decimal_parts n small = digits_parts (decimal n) (digits_of_decimal n small)

pub number_run : (n : ℕ) (rest : Text) → n < 2 ^ 32 → ends_field rest ≡ true → number_field (decimal n ++ rest) ≡ Ok (n, skip rest)
number_run n rest h over =
    let small : n < 2 ^ 64 = omega arith in
    let some = decimal_nonempty n small in
    let parts = decimal_parts n small in
    rw (
      number_some (decimal n ++ rest) (omega (arith, some, length-append (decimal n) rest)),
      field_run (decimal n) rest parts over,
      after_run (decimal n) rest parts over,
      number_of-decimal (2 ^ 32 - 1) n (omega arith) (omega arith) small,
    ) refl

pub number_skip : (n : ℕ) (rest : Text) → n < 2 ^ 32 → skip (decimal n ++ rest) ≡ decimal n ++ rest
number_skip n rest h = let small : n < 2 ^ 64 = omega arith in skip_run (decimal n) rest (decimal_parts n small) (decimal_nonempty n small)

pub number_end : (n : ℕ) → n < 2 ^ 32 → number_field (decimal n) ≡ Ok (n, [])
unfolding skip
number_end n h = ap number_field (sym (append-nil (decimal n))) ∙ number_run n [] h refl

pub number_skip_end : (n : ℕ) → n < 2 ^ 32 → skip (decimal n) ≡ decimal n
number_skip_end n h = ap skip (sym (append-nil (decimal n))) ∙ number_skip n [] h ∙ append-nil (decimal n)
