-- The bytes of a file behind its first ones.
use Rattle.std.proofs.Common.{◌≡◌, ℕ, zero, suc, ◌-◌, List, [], ◌∷◌, length, take, drop, refl, ap, ◌∙◌, arith}

none_taken : (n : ℕ) → ◌≡◌ {A = List ℕ} (take n []) []
none_taken zero = refl
none_taken (suc n) = refl

all_taken : (bytes : List ℕ) → take (length bytes) bytes ≡ bytes
all_taken [] = refl
all_taken (b ∷ rest) = ap (λ bytes. b ∷ bytes) (all_taken rest)

-- all bytes from a place on
pub rest_taken : (place : ℕ) (bytes : List ℕ) → take (length bytes - place) (drop place bytes) ≡ drop place bytes
rest_taken zero bytes = ap (λ n. take n bytes) (omega arith) ∙ all_taken bytes
rest_taken (suc place) [] = none_taken (0 - suc place)
rest_taken (suc place) (b ∷ rest) = ap (λ n. take n (drop place rest)) (omega arith) ∙ rest_taken place rest
