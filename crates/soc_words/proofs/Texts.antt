-- Texts one after another.
use Rattle.std.proofs.Common.{◌≡◌, ℕ, zero, suc, ◌+◌, List, [], ◌++◌, refl, ap, sym, ◌∙◌, arith, append_assoc, append-nil, add-one}
use Rattle.soc_words.specs.Text.{joined_below}

pub joined_below-zero : (text : ℕ → List ℕ) → joined_below text 0 ≡ []
unfolding joined_below
joined_below-zero text = refl

pub joined_below-more : (text : ℕ → List ℕ) (n : ℕ) → joined_below text (n + 1) ≡ joined_below text n ++ text n
unfolding joined_below
joined_below-more text n = rw add-one refl

-- what stands after the first texts
pub joined_after : (text : ℕ → List ℕ) (n more : ℕ) → (rest : List ℕ) × (joined_below text n ++ rest ≡ joined_below text (n + more))
joined_after text n zero = ([], append-nil (joined_below text n) ∙ ap (joined_below text) (omega arith))
joined_after text n (suc more) =
    let r : (rest : List ℕ) × (joined_below text n ++ rest ≡ joined_below text (n + more)) = joined_after text n more in
    let e : n + suc more ≡ n + more + 1 = omega arith in (
      r.0 ++ text (n + more),
      sym (append_assoc (joined_below text n) r.0 (text (n + more))) ∙ ap (λ t. t ++ text (n + more)) r.1
          ∙ sym (joined_below-more text (n + more)) ∙ ap (joined_below text) (sym e),
    )
