-- Bytes are below 256.
use Rattle.std.proofs.Common.{◌≡◌, ◌<◌, ℕ, zero, suc, true, List, [], ◌∷◌, slice_index, Fits, w8, refl, arith}
use Rattle.std.proofs.lemmas.Bool.Decides.{nat_tests}
use Rattle.std.specs.List.{list_all}
use Rattle.script_text.specs.ScriptText.{is_byte}
use Rattle.script_text.proofs.Lists.{left, right}

pub bytes_all : (xs : List ℕ) → ((i : ℕ) → Fits w8 (slice_index xs i)) → list_all is_byte xs ≡ true
bytes_all [] h = refl
bytes_all (x ∷ xs) h =
    let fits : Fits w8 x = h 0 in
    let small : x < 256 = grind (arith, fits) in
    let one : is_byte x ≡ true = grind (arith, nat_tests) in
    rw one (bytes_all xs (λ i. h (suc i)))

pub all_bytes : (xs : List ℕ) → list_all is_byte xs ≡ true → (i : ℕ) → slice_index xs i < 256
all_bytes [] h i = omega arith
all_bytes (x ∷ xs) h zero = let one = left (is_byte x) _ h in grind (arith, nat_tests)
all_bytes (x ∷ xs) h (suc i) = all_bytes xs (right (is_byte x) _ h) i
