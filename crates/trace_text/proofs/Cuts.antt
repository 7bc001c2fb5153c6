-- Texts cut where their first part ends.
use Rattle.std.proofs.Common.{◌≡◌, ℕ, Bool, true, false, ◌&&◌, [], ◌∷◌, ◌++◌, refl, sym, arith}
use Rattle.std.specs.Prelude.{nat_le, nat_lt}
use Rattle.std.specs.List.{list_all}
use Rattle.std.proofs.lemmas.Bool.Decides.{nat_tests}
use Rattle.trace_text.specs.Instruction.{Text}

-- what a name, a number or a register is made of: the marks between them are below these
abbrev pub is_inner : ℕ → Bool
is_inner c = nat_le 45 c

-- a text of such characters
abbrev pub is_field : Text → Bool
is_field text = list_all is_inner text

-- a text that ends, or that begins with a mark
abbrev pub begins_with_mark : Text → Bool
begins_with_mark [] = true
begins_with_mark (c ∷ text) = nat_lt c 45

pub both : (a b : Bool) → (a && b) ≡ true → (a ≡ true) × (b ≡ true)
both true b h = (refl, h)
both false b h = absurd (cc)

no_mark : (c d : ℕ) → is_inner c ≡ true → nat_lt d 45 ≡ true → c ≡ d → ⊥
no_mark c d inner mark same = absurd (grind (arith, nat_tests))

heads : (x y : ℕ) (xs ys : Text) → x ∷ xs ≡ y ∷ ys → x ≡ y
heads x y xs ys e = cc

tails : (x y : ℕ) (xs ys : Text) → x ∷ xs ≡ y ∷ ys → xs ≡ ys
tails x y xs ys e = cc

one_more : (x y : ℕ) (a c b d : Text) → x ≡ y → (a ≡ c) × (b ≡ d) → (x ∷ a ≡ y ∷ c) × (b ≡ d)
one_more x y a c b d e h = let first = h.0 in (cc, h.1)

ended : (x : ℕ) (b a d : Text) → begins_with_mark b ≡ true → is_field (x ∷ a) ≡ true → b ≡ x ∷ (a ++ d) → ⊥
ended x [] a d mark field e = absurd (cc)
ended x (y ∷ b) a d mark field e = no_mark x y (both (is_inner x) (is_field a) field).0 mark (heads x y (a ++ d) b (cc))

-- two texts that are alike are alike in what stands before their first marks, and in the rest
pub cut : (a b c d : Text) → is_field a ≡ true → is_field c ≡ true → begins_with_mark b ≡ true → begins_with_mark d ≡ true
    → a ++ b ≡ c ++ d → (a ≡ c) × (b ≡ d)
cut [] b [] d fa fc mb md e = (refl, e)
cut [] b (y ∷ c) d fa fc mb md e = absurd (ended y b c d mb fc e)
cut (x ∷ a) b [] d fa fc mb md e = absurd (ended x d a b md fa (sym e))
cut (x ∷ a) b (y ∷ c) d fa fc mb md e =
    one_more x y a c b d (heads x y (a ++ b) (c ++ d) e)
    (cut a b c d (both (is_inner x) (is_field a) fa).1 (both (is_inner y) (is_field c) fc).1 mb md (tails x y (a ++ b) (c ++ d) e))
