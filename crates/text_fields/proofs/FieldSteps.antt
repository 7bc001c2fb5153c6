-- The fields of a text, one after another.
use Rattle.std.proofs.Common.{◌≡◌, ◌<◌, ◌+◌, ℕ, suc, length, true, false, [], ◌∷◌, refl, sym, ap, ◌∙◌, arith, inl, inr}
use Rattle.std.proofs.lemmas.Bool.{cases_Bool}
use Rattle.std.specs.List.{prefix_len}
use Rattle.text_fields.specs.Fields.{Text, add_front, after_field, ends_field, field, fields, is_blank, is_part, skip}

at_part : (b : ℕ) (rest : Text) → is_blank b ≡ false → skip (b ∷ rest) ≡ b ∷ rest
unfolding skip
at_part b rest part = rw part refl

-- blanks at the front are no part of a field
pub fields_skip : (t : Text) → fields (skip t) ≡ fields t
unfolding fields skip
fields_skip [] = refl
fields_skip (b ∷ rest) = elim (cases_Bool (is_blank b)) [
  | inl blank ↦ let one : 1 + prefix_len is_blank rest ≡ suc (prefix_len is_blank rest) = omega arith in rw (blank, one) (fields_skip rest)
  | inr part ↦ ap fields (at_part b rest part)
]

-- a field of one byte
short_field : (b : ℕ) (rest : Text) → is_blank b ≡ false → ends_field rest ≡ true → fields (b ∷ rest) ≡ (b ∷ []) ∷ fields rest
unfolding fields
short_field b rest part over = rw (part, over) refl

-- a field that goes on
long_field : (b c : ℕ) (more : Text) → is_blank b ≡ false → is_blank c ≡ false → fields (b ∷ c ∷ more) ≡ add_front b (fields (c ∷ more))
unfolding fields
long_field b c more part inside = rw (part, inside) refl

field_over : (b : ℕ) (rest : Text) → is_blank b ≡ false → ends_field rest ≡ true → field (b ∷ rest) ≡ b ∷ []
unfolding field
field_over b [] part over = rw part refl
field_over b (c ∷ more) part over = rw (part, over) refl

after_over : (b : ℕ) (rest : Text) → is_blank b ≡ false → ends_field rest ≡ true → after_field (b ∷ rest) ≡ skip rest
unfolding after_field
after_over b [] part over = rw part refl
after_over b (c ∷ more) part over = rw (part, over) refl

field_on : (b c : ℕ) (more : Text) → is_blank b ≡ false → is_blank c ≡ false → field (b ∷ c ∷ more) ≡ b ∷ field (c ∷ more)
unfolding field
field_on b c more part inside = let one : 1 + (1 + prefix_len is_part more) ≡ suc (1 + prefix_len is_part more) = omega arith in rw (part, inside, one) refl

after_on : (b c : ℕ) (more : Text) → is_blank b ≡ false → is_blank c ≡ false → after_field (b ∷ c ∷ more) ≡ after_field (c ∷ more)
unfolding after_field
after_on b c more part inside = let one : 1 + (1 + prefix_len is_part more) ≡ suc (1 + prefix_len is_part more) = omega arith in rw (part, inside, one) refl

-- the first field of a text that begins with one, and the fields after it
fields_part : (b : ℕ) (rest : Text) → is_blank b ≡ false → fields (b ∷ rest) ≡ field (b ∷ rest) ∷ fields (after_field (b ∷ rest))
fields_part b [] part = short_field b [] part refl ∙ sym (rw (field_over b [] part refl, after_over b [] part refl, fields_skip []) refl)
fields_part b (c ∷ more) part = elim (cases_Bool (is_blank c)) [
  | inl blank ↦ short_field b (c ∷ more) part blank
      ∙ sym (rw (field_over b (c ∷ more) part blank, after_over b (c ∷ more) part blank, fields_skip (c ∷ more)) refl)
  | inr inside ↦ long_field b c more part inside ∙ ap (add_front b) (fields_part c more inside)
      ∙ sym (rw (field_on b c more part inside, after_on b c more part inside) refl)
]

same_first : (c b : ℕ) (t rest : Text) → c ∷ t ≡ b ∷ rest → c ≡ b
same_first c b t rest is = cc

-- what is left after the blanks at the front doesn't begin with one
skip_part : (t : Text) (b : ℕ) (rest : Text) → skip t ≡ b ∷ rest → is_blank b ≡ false
unfolding skip
skip_part [] b rest is = cc
skip_part (c ∷ t) b rest is = elim (cases_Bool (is_blank c)) [
  | inl blank ↦ let one : 1 + prefix_len is_blank t ≡ suc (prefix_len is_blank t) = omega arith in skip_part t b rest (rw (blank, one) at is)
  | inr part ↦ let same : c ∷ t ≡ b ∷ rest = (rw part at is) in ap is_blank (sym (same_first c b t rest same)) ∙ part
]

first_of : (t s : Text) → skip t ≡ s → 0 < length s → fields t ≡ field s ∷ fields (after_field s)
first_of t [] is some = absurd (omega arith)
first_of t (b ∷ rest) is some = sym (fields_skip t) ∙ ap fields is ∙ fields_part b rest (skip_part t b rest is)

pub first_field : (t : Text) → 0 < length (skip t) → fields t ≡ field (skip t) ∷ fields (after_field (skip t))
first_field t some = first_of t (skip t) refl some

none_of : (t s : Text) → skip t ≡ s → length s ≡ 0 → fields t ≡ []
unfolding fields
none_of t [] is none = sym (fields_skip t) ∙ ap fields is
none_of t (b ∷ rest) is none = absurd (omega arith)

pub no_field : (t : Text) → length (skip t) ≡ 0 → fields t ≡ []
no_field t none = none_of t (skip t) refl none
