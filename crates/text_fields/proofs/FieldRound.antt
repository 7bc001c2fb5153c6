-- A field that was printed is read as this field.
use Rattle.std.proofs.Common.{◌≡◌, ◌<◌, ◌+◌, ℕ, suc, Bool, true, false, ◌&&◌, [], ◌∷◌, ◌++◌, length, take, drop, refl, arith}
use Rattle.std.proofs.lemmas.Bool.Decides.{nat_tests}
use Rattle.std.proofs.lemmas.Grind.{common_steps}
use Rattle.std.specs.List.{list_all, prefix_len}
use Rattle.text_fields.specs.Fields.{Text, after_field, ends_field, field, is_blank, is_part, skip}
use Rattle.text_fields.specs.Numbers.{is_digit}

pub left : (a b : Bool) → (a && b) ≡ true → a ≡ true
left true b h = refl
left false b h = h

pub right : (a b : Bool) → (a && b) ≡ true → b ≡ true
right true b h = h
right false b h = cc

run_len : (w rest : Text) → list_all is_part w ≡ true → ends_field rest ≡ true → prefix_len is_part (w ++ rest) ≡ length w
run_len [] [] all over = refl
run_len [] (b ∷ more) all over = rw over refl
run_len (c ∷ w) rest all over = rw (left (is_part c) (list_all is_part w) all) (omega (arith, run_len w rest (right (is_part c) (list_all is_part w) all) over))

take_front : (w rest : Text) → take (length w) (w ++ rest) ≡ w
take_front w rest = grind (arith, common_steps)

drop_front : (w rest : Text) → drop (length w) (w ++ rest) ≡ rest
drop_front w rest = grind (arith, common_steps)

-- the field at the front is found
pub field_run : (w rest : Text) → list_all is_part w ≡ true → ends_field rest ≡ true → field (w ++ rest) ≡ w
unfolding field
field_run w rest all over = rw (run_len w rest all over) (take_front w rest)

-- and what follows it
pub after_run : (w rest : Text) → list_all is_part w ≡ true → ends_field rest ≡ true → after_field (w ++ rest) ≡ skip rest
unfolding after_field
after_run w rest all over = rw (run_len w rest all over, drop_front w rest) refl

-- a blank is passed over
pub skip_blank : (rest : Text) → skip (32 ∷ rest) ≡ skip rest
unfolding skip
skip_blank rest = let one : 1 + prefix_len is_blank rest ≡ suc (prefix_len is_blank rest) = omega arith in rw one refl

not_blank : (c : ℕ) → is_part c ≡ true → is_blank c ≡ false
not_blank c h = grind (arith, nat_tests)

-- a field has no blank at its front
pub skip_run : (w rest : Text) → list_all is_part w ≡ true → 0 < length w → skip (w ++ rest) ≡ w ++ rest
unfolding skip
skip_run [] rest all some = absurd (omega arith)
skip_run (c ∷ w) rest all some = rw (not_blank c (left (is_part c) (list_all is_part w) all)) refl

digit_part : (d : ℕ) → is_digit d ≡ true → is_part d ≡ true
digit_part d h = grind (arith, nat_tests)

-- digits are bytes of a field
pub digits_parts : (ds : Text) → list_all is_digit ds ≡ true → list_all is_part ds ≡ true
digits_parts [] h = refl
digits_parts (d ∷ ds) h = rw (digit_part d (left (is_digit d) (list_all is_digit ds) h)) (digits_parts ds (right (is_digit d) (list_all is_digit ds) h))
