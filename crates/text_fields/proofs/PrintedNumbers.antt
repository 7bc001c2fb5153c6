-- A printed number is read as this number.
use Rattle.std.proofs.Common.{◌≡◌, ◌<◌, ◌≤◌, ◌^◌, ◌+◌, ◌-◌, ◌*◌, ℕ, Bool, true, false, ◌&&◌, length, Some, fold, refl, arith}
use Rattle.std.proofs.lemmas.Bool.Decides.{nat_tests}
use Rattle.std.specs.Prelude.{nat_lt, nat_le}
use Rattle.std.specs.List.{list_all}
use Rattle.std.specs.Fmt.{decimal}
use Rattle.std.proofs.lemmas.Str.Parse.{IsDigitsTest, IsNumeralModel, numerals_by_fold}
use Rattle.std.proofs.lemmas.Fmt.{decimal_nonempty, digits_decimal, digits_value-decimal, length-decimal-le}
use Rattle.text_fields.specs.Numbers.{decimal_value, is_digit, number_of}

both : (a b : Bool) → (a && b) ≡ true → (a ≡ true) × (b ≡ true)
both true b h = (refl, h)
both false b h = cc

from_parts : (c : ℕ) (rest : Bool) → 48 ≤ c → c ≤ 57 → rest ≡ true → (is_digit c && rest) ≡ true
from_parts c rest low high more = rw more (grind (arith, nat_tests))

tells : IsDigitsTest (λ ds. list_all is_digit ds ≡ true)
tells = record {
  empty = refl;
  parts = λ c cs h. let k = both (is_digit c) (list_all is_digit cs) h in let m = both (nat_le 48 c) (nat_le c 57) k.0 in ((grind (arith, nat_tests, m), grind (arith, nat_tests, m)), k.1);
  more = λ c cs k h. from_parts c (list_all is_digit cs) k.0 k.1 h;
}

model : IsNumeralModel (λ ds. list_all is_digit ds ≡ true) decimal_value
model = numerals_by_fold (λ ds. list_all is_digit ds ≡ true) tells (λ n ds. fold (λ m d. m * 10 + (d - 48)) n ds) (record { empty = λ n. refl; more = λ n c cs k. refl })

pub number_of-decimal : (limit n : ℕ) → n ≤ limit → n < 10 ^ 10 → n < 2 ^ 64 → number_of 10 limit (decimal n) ≡ Some n
unfolding number_of
number_of-decimal limit n most fits small =
    let some = decimal_nonempty n small in
    let short = length-decimal-le 10 n (omega arith) fits small in
    let digits = digits_decimal model n small in
    let value = digits_value-decimal model n small in
    let a : nat_lt 0 (length (decimal n)) ≡ true = grind (arith, nat_tests) in
    let b : nat_le (length (decimal n)) 10 ≡ true = grind (arith, nat_tests) in
    let d : nat_le n limit ≡ true = grind (arith, nat_tests) in
    rw (a, b, digits, value, d) refl

pub digits_of_decimal : (n : ℕ) → n < 2 ^ 64 → list_all is_digit (decimal n) ≡ true
digits_of_decimal n small = digits_decimal model n small
