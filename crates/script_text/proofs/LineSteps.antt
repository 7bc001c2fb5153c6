-- The fields of a line, by their tests.
use Rattle.std.proofs.Common.{◌≡◌, ◌-◌, ◌^◌, ◌==◌, ℕ, suc, Bool, true, false, [], ◌∷◌, length, Ok, Err, Option, ap, arith, refl}
use Rattle.std.proofs.lemmas.Bool.Decides.{nat_tests}
use Rattle.text_fields.specs.Fields.{Text, after_field, field}
use Rattle.text_fields.specs.Numbers.{number_of}
use Rattle.script_text.specs.ScriptLine.{ends, number_field, or_fault}
use Rattle.script_text.specs.declared.script_fault.ScriptKind.TheVariants as kind

-- a text with a byte isn't empty
some : (n : ℕ) (empty : Bool) → empty ≡ (suc n == 0) → empty ≡ true → ⊥
some n empty is holds = grind (arith, nat_tests)

none : (empty : Bool) → empty ≡ true → empty ≡ false → ⊥
none empty is fails = absurd (cc)

pub ends_here : {A : Type 0} (a : A) (text : Text) (empty : Bool) → empty ≡ (length text == 0) → empty ≡ true → Ok a ≡ ends a text
ends_here a [] empty is holds = refl
ends_here a (b ∷ more) empty is holds = absurd (some (length more) empty is holds)

pub goes_on : {A : Type 0} (a : A) (text : Text) (empty : Bool) → empty ≡ (length text == 0) → empty ≡ false → Err kind.Word ≡ ends a text
goes_on a [] empty is fails = absurd (none empty is fails)
goes_on a (b ∷ more) empty is fails = refl

pub no_number : (text : Text) (empty : Bool) → empty ≡ (length text == 0) → empty ≡ true → Err kind.Word ≡ number_field text
unfolding number_field
no_number [] empty is holds = refl
no_number (b ∷ more) empty is holds = absurd (some (length more) empty is holds)

pub a_number : (text : Text) (value : Option ℕ) (empty : Bool) → empty ≡ (length text == 0) → empty ≡ false → value ≡ number_of 10 (2 ^ 32 - 1) (field text)
    → or_fault kind.Number value (after_field text) ≡ number_field text
unfolding number_field
a_number [] value empty is fails same = absurd (none empty is fails)
a_number (b ∷ more) value empty is fails same = ap (λ o. or_fault kind.Number o (after_field (b ∷ more))) same
