-- A test of what is made of each item.
use Rattle.std.proofs.Common.{◌≡◌, ◌<◌, ◌≤◌, ℕ, Bool, true, false, List, [], ◌∷◌, ◌||◌, map, take, length, get_or, ap, sym, ◌∙◌, refl}
use Rattle.std.proofs.lemmas.List.{take_all}
use Rattle.std.proofs.lemmas.List.Folds.{list_any_at}
use Rattle.std.specs.List.{list_any}

any_mapped : {X Y : Type 0} (f : X → Y) (test : Y → Bool) (xs : List X) → list_any test (map f xs) ≡ list_any (λ x. test (f x)) xs
any_mapped f test [] = refl
any_mapped f test (x ∷ xs) = ap (λ b. test (f x) || b) (any_mapped f test xs)

-- an item meets it
pub any_at : {X Y : Type 0} (f : X → Y) (test : Y → Bool) (xs : List X) (i : ℕ) (x : X) → i < length xs → x ≡ get_or xs i x
    → test (f x) ≡ true → list_any test (map f xs) ≡ true
any_at f test xs i x within e h =
    any_mapped f test xs ∙ list_any_at (λ x. test (f x)) xs i x within (ap (λ x. test (f x)) (sym e) ∙ h)

-- none of all meets it
pub any_none : {X Y : Type 0} (f : X → Y) (test : Y → Bool) (xs : List X) (i : ℕ) → length xs ≤ i
    → list_any (λ x. test (f x)) (take i xs) ≡ false → list_any test (map f xs) ≡ false
any_none f test xs i all h = any_mapped f test xs ∙ ap (λ ys. list_any (λ x. test (f x)) ys) (sym (take_all i xs all)) ∙ h
