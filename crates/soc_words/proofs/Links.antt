-- Messages on links.
use Rattle.std.proofs.Common.{◌≡◌, ◌≤◌, ℕ, ◌+◌, ◌⊎◌, inl, inr, List, [], ◌∷◌, ◌++◌, length, Option, refl, sym, ap, ◌∙◌, arith, append_assoc, append-nil}
use Rattle.soc_words.specs.Link.{NoneBehind, all_on, count_on}

-- one message more on a link
pub count_more : {M : Type 0} (count : Option M → ℕ) (line : List (Option M)) (m : Option M) → count_on count (line ++ m ∷ []) ≡ count_on count line + count m
count_more count [] m = omega arith
count_more count (x ∷ rest) m = let more : count_on count (rest ++ m ∷ []) ≡ count_on count rest + count m = count_more count rest m in omega (arith, more)

-- and what it carries
pub all_more : {M A : Type 0} (carried : Option M → List A) (line : List (Option M)) (m : Option M) → all_on carried (line ++ m ∷ []) ≡ all_on carried line ++ carried m
all_more carried [] m = append-nil (carried m)
all_more carried (x ∷ rest) m = ap (λ es. carried x ++ es) (all_more carried rest m) ∙ sym (append_assoc (carried x) (all_on carried rest) (carried m))

-- a message that isn't of the second kind, or behind none of the first
pub behind_more : {M : Type 0} (first second : Option M → ℕ) (line : List (Option M)) (m : Option M) → (second m ≡ 0) ⊎ (count_on first line ≡ 0)
    → NoneBehind first second line → NoneBehind first second (line ++ m ∷ [])
behind_more first second [] m h n = (λ e. refl, tt)
behind_more first second (x ∷ rest) m (inl none) n = (
  λ e. let before : count_on second rest ≡ 0 = n.0 e in
      let more : count_on second (rest ++ m ∷ []) ≡ count_on second rest + second m = count_more second rest m in
      omega (arith, before, more, none),
  behind_more first second rest m (inl none) n.1,
)
behind_more first second (x ∷ rest) m (inr none) n =
    (λ e. absurd (omega (arith, e, none)), behind_more first second rest m (inr (omega (arith, none))) n.1)

-- no more messages of a kind than places
pub count_most : {M : Type 0} (count : Option M → ℕ) → ((m : Option M) → count m ≤ 1) → (line : List (Option M)) → count_on count line ≤ length line
count_most count h [] = omega arith
count_most count h (x ∷ rest) = let l : count x ≤ 1 = h x in let m : count_on count rest ≤ length rest = count_most count h rest in omega (arith, l, m)
