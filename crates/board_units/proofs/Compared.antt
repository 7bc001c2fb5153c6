-- What tests of two numbers tell.
use Rattle.std.proofs.Common.{◌≡◌, ◌≤◌, ◌<◌, ℕ, ltb, leb, true, false, arith}
use Rattle.std.proofs.lemmas.Bool.Decides.{nat_tests}

pub is_at_most : (a b : ℕ) → leb a b ≡ true → a ≤ b
is_at_most a b h = grind (arith, nat_tests)

pub at_most : (a b : ℕ) → a ≤ b → leb a b ≡ true
at_most a b h = grind (arith, nat_tests)

pub is_later : (a b : ℕ) → leb a b ≡ false → b < a
is_later a b h = grind (arith, nat_tests)

pub later : (a b : ℕ) → b < a → leb a b ≡ false
later a b h = grind (arith, nat_tests)

pub is_below : (a b : ℕ) → ltb a b ≡ true → a < b
is_below a b h = grind (arith, nat_tests)

pub below : (a b : ℕ) → a < b → ltb a b ≡ true
below a b h = grind (arith, nat_tests)

pub is_from : (a b : ℕ) → ltb a b ≡ false → b ≤ a
is_from a b h = grind (arith, nat_tests)

pub not_below : (a b : ℕ) → b ≤ a → ltb a b ≡ false
not_below a b h = grind (arith, nat_tests)
