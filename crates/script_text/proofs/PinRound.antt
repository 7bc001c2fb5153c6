-- A printed pin line is read as this pin's change.
use Rattle.std.proofs.Common.{◌≡◌, ◌<◌, ◌≤◌, ◌^◌, ◌+◌, ℕ, suc, Bool, true, false, [], ◌++◌, codes, Ok, refl, ap, ◌∙◌, arith}
use Rattle.std.proofs.lemmas.Bool.Decides.{nat_tests}
use Rattle.std.specs.Fmt.{decimal}
use Rattle.std.specs.Prelude.{◌==◌, nat_le, nat_lt}
use Rattle.std.specs.List.{prefix_len}
use Rattle.text_fields.specs.Fields.{Text, after_field, ends_field, field, is_blank, skip}
use Rattle.text_fields.specs.Numbers.{number_of}
use Rattle.text_fields.proofs.FieldRound.{skip_blank}
use Rattle.chip_base.specs.Steps.{is_pin}
use Rattle.chip_base.specs.declared.script.PinStep.{PinStep}
use Rattle.script_text.specs.ScriptFile.{line_of, with_item}
use Rattle.script_text.specs.ScriptLine.{number_field, pin_of}
use Rattle.script_text.specs.ScriptText.{level_text, pin_text}
use Rattle.script_text.specs.declared.script_item.Item.TheVariants as item
use Rattle.script_text.proofs.Lists.{left, right}
use Rattle.script_text.proofs.NumberRound.{number_run, number_skip}

-- the level's digit
abbrev level_of : Bool → ℕ
level_of true = 1
level_of false = 0

level_read : (l : Bool) → number_field (skip (level_text l)) ≡ Ok (level_of l, [])
unfolding level_text number_field number_of field after_field skip
level_read true = refl
level_read false = refl

level_low : (l : Bool) → nat_lt 1 (level_of l) ≡ false
level_low true = refl
level_low false = refl

level_bit : (l : Bool) → (level_of l == 1) ≡ l
level_bit true = refl
level_bit false = refl

level_over : (l : Bool) → ends_field (level_text l) ≡ true
unfolding level_text
level_over true = refl
level_over false = refl

pin_line_of : (last : ℕ) (x : Text) → line_of last (codes "pin " ++ x) ≡ with_item item.Pin (pin_of last (skip x))
unfolding line_of field after_field skip
pin_line_of last x = let one : 1 + prefix_len is_blank x ≡ suc (prefix_len is_blank x) = omega arith in rw one refl

pin_fields : (last cycle pin : ℕ) (l : Bool) → last ≤ cycle → cycle < 2 ^ 32 → pin ≤ 31
    → pin_of last (decimal cycle ++ (codes " " ++ (decimal pin ++ level_text l))) ≡ Ok (record { cycle = cycle; pin = pin; level = l })
unfolding pin_of
pin_fields last cycle pin l order small low =
    let rest = decimal pin ++ level_text l in
    let first = number_run cycle (codes " " ++ rest) small refl in
    let next : skip (codes " " ++ rest) ≡ rest = skip_blank rest ∙ number_skip pin (level_text l) (omega arith) in
    let second = number_run pin (level_text l) (omega arith) (level_over l) in
    let o : nat_lt cycle last ≡ false = grind (arith, nat_tests) in
    let q : nat_lt 31 pin ≡ false = grind (arith, nat_tests) in
    rw (first, o, next, second, q, level_read l, level_low l, level_bit l) refl

pub pin_read : (last : ℕ) (p : PinStep) → is_pin p ≡ true → nat_le last p.cycle ≡ true → line_of last (pin_text p) ≡ Ok (item.Pin p)
unfolding pin_text
pin_read last p is order =
    let a = left (nat_le p.pin 31) _ is in
    let b = right (nat_le p.pin 31) _ is in
    let low : p.pin ≤ 31 = grind (arith, nat_tests) in
    let small : p.cycle < 2 ^ 32 = grind (arith, nat_tests) in
    let after_last : last ≤ p.cycle = grind (arith, nat_tests) in
    let rest = codes " " ++ (decimal p.pin ++ level_text p.level) in
    pin_line_of last (decimal p.cycle ++ rest) ∙ ap (λ t. with_item item.Pin (pin_of last t)) (number_skip p.cycle rest small)
    ∙ ap (with_item item.Pin) (pin_fields last p.cycle p.pin p.level after_last small low)
