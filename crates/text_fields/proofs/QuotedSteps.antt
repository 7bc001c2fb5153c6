-- One byte of a text.
use Rattle.std.proofs.Common.{◌≡◌, ◌<◌, ◌≤◌, ◌+◌, ℕ, zero, suc, List, [], ◌∷◌, length, drop, slice_index, None, refl, add-one, arith}
use Rattle.text_fields.specs.Quoted.{Mode, Turn, go_on, quoted, turn}

at_suc : (xs : List ℕ) (i : ℕ) (m : Mode) (found : List ℕ) (t : Turn) → i < length xs → t ≡ turn m (slice_index xs i)
    → quoted (drop i xs) m found ≡ go_on (quoted (drop (suc i) xs)) found (drop (suc i) xs) t
unfolding quoted
at_suc [] i m found t within is = absurd (omega arith)
at_suc (x ∷ xs) zero m found t within is = rw is refl
at_suc (x ∷ xs) (suc i) m found t within is = at_suc xs i m found t (omega arith) is

pub quoted_at : (xs : List ℕ) (i : ℕ) (m : Mode) (found : List ℕ) (t : Turn) → i < length xs → t ≡ turn m (slice_index xs i)
    → quoted (drop i xs) m found ≡ go_on (quoted (drop (i + 1) xs)) found (drop (i + 1) xs) t
quoted_at xs i m found t within is = rw (add-one i) (at_suc xs i m found t within is)

pub quoted_done : (xs : List ℕ) (i : ℕ) (m : Mode) (found : List ℕ) → length xs ≤ i → quoted (drop i xs) m found ≡ None
unfolding quoted
quoted_done [] zero m found past = refl
quoted_done [] (suc i) m found past = refl
quoted_done (x ∷ xs) zero m found past = absurd (omega arith)
quoted_done (x ∷ xs) (suc i) m found past = quoted_done xs i m found (omega arith)
