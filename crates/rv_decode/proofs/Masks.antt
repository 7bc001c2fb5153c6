-- A row's test of a word by mask is its test of the word's fields.
use Rattle.std.proofs.Common.{◌≡◌, ℕ, ◌+◌, ◌-◌, ◌*◌, ◌/◌, ◌%◌, ◌^◌, ◌<◌, Bool, true, false, eqb, List, [], ◌∷◌, Option, Some, None, refl, ap, ◌∙◌, arith, bit_and, bit_or, cond, map}
use Rattle.std.specs.List.{find, list_all}
use Rattle.std.specs.Option.{option_map}
use Rattle.std.specs.Int.{bit_at}
use mathlib.Core.Bool.{◌&&◌}
use Rattle.std.proofs.lemmas.Nat.{and_comm, or_comm, pow_pos, same_from_place}
use Rattle.std.proofs.lemmas.Nat.Bits.{and_high, same_from_bits, bit_at_and, bit_at_or, bit_at-lt, bit_at-zero}
use Rattle.std.proofs.lemmas.Bool.Decides.{nat_tests}
use Rattle.rv_decode.specs.Fields.{field}
use Rattle.rv_decode.specs.declared.instr.Op.{Op}
use Rattle.rv_decode.specs.declared.instr.Op.TheVariants.{Lui}
use Rattle.rv_decode.specs.Rows.{ops, matches, field_mask, field_pattern, mask_of, pattern_of, row_of, decoded, operands, instr_of}
use Rattle.rv_decode.specs.ByFields.{has_field, op_at, instr_at}

-- where two masks share no bit, what lies under their union is p and q exactly where it lies under each
under_first : (w m n p q : ℕ) → bit_and m n ≡ 0 → bit_and p m ≡ p → bit_and q n ≡ q → bit_and w (bit_or m n) ≡ bit_or p q → bit_and w m ≡ p
under_first w m n p q far p_in q_in e = same_from_bits _ _ (λ i.
    let e_i : bit_at (bit_and w (bit_or m n)) i ≡ bit_at (bit_or p q) i = ap (λ (x : ℕ). bit_at x i) e in
    let far_i : bit_at (bit_and m n) i ≡ bit_at 0 i = ap (λ (x : ℕ). bit_at x i) far in
    let p_i : bit_at (bit_and p m) i ≡ bit_at p i = ap (λ (x : ℕ). bit_at x i) p_in in
    let q_i : bit_at (bit_and q n) i ≡ bit_at q i = ap (λ (x : ℕ). bit_at x i) q_in in
    omega (arith, e_i, far_i, p_i, q_i, bit_at_and w (bit_or m n) i, bit_at_or m n i, bit_at_or p q i, bit_at_and m n i, bit_at_and p m i, bit_at_and q n i, bit_at_and w m i, bit_at-zero i, bit_at-lt w i, bit_at-lt m i, bit_at-lt n i, bit_at-lt p i, bit_at-lt q i))

and_over_or : (w m n : ℕ) → bit_and w (bit_or m n) ≡ bit_or (bit_and w m) (bit_and w n)
and_over_or w m n = same_from_bits _ _ (λ i.
    omega (arith, bit_at_and w (bit_or m n) i, bit_at_or m n i, bit_at_or (bit_and w m) (bit_and w n) i, bit_at_and w m i, bit_at_and w n i))

tests_agree : (a b c p d q : ℕ) → (a ≡ b → c ≡ p) → (a ≡ b → d ≡ q) → (c ≡ p → d ≡ q → a ≡ b) → eqb a b ≡ (eqb c p && eqb d q)
tests_agree a b c p d q first second whole = grind (arith, nat_tests)

both_tests : (w m n p q : ℕ) → bit_and m n ≡ 0 → bit_and p m ≡ p → bit_and q n ≡ q
    → eqb (bit_and w (bit_or m n)) (bit_or p q) ≡ (eqb (bit_and w m) p && eqb (bit_and w n) q)
both_tests w m n p q far p_in q_in =
    tests_agree _ _ _ _ _ _
    (λ e. under_first w m n p q far p_in q_in e)
    (λ e. under_first w n m q p (and_comm n m ∙ far) q_in p_in (ap (bit_and w) (or_comm n m) ∙ e ∙ or_comm p q))
    (λ e f. and_over_or w m n ∙ ap (λ (x : ℕ). bit_or x (bit_and w n)) e ∙ ap (bit_or p) f)

same_scaled : (x v c : ℕ) → 0 < c → eqb (x * c) (v * c) ≡ eqb x v
same_scaled x v c positive = test_agrees _ _ _ _ (λ e. (same_from_place x 0 v 0 c positive positive (omega (arith, e))).0) (λ e. ap (λ (y : ℕ). y * c) e)
  where
    test_agrees : (a b d q : ℕ) → (a ≡ b → d ≡ q) → (d ≡ q → a ≡ b) → eqb a b ≡ eqb d q
    test_agrees a b d q there back = grind (arith, nat_tests)

one_test : (w : ℕ) (f : ℕ × ℕ × ℕ) → eqb (bit_and w (field_mask f)) (field_pattern f) ≡ has_field w f
one_test w f = ap (λ (x : ℕ). eqb x (field_pattern f)) (and_high w (f.0 + 1 - f.1) f.1) ∙ same_scaled (field f.0 f.1 w) f.2 (2 ^ f.1) (pow_pos f.1)

-- the fields share no bit, and each value has no bit beyond its field
abbrev well_formed : List (ℕ × ℕ × ℕ) → Bool
well_formed [] = true
well_formed (f ∷ fs) =
    eqb (bit_and (field_mask f) (mask_of fs)) 0 && eqb (bit_and (field_pattern f) (field_mask f)) (field_pattern f)
    && eqb (bit_and (pattern_of fs) (mask_of fs)) (pattern_of fs) && well_formed fs

-- a row's test by mask and pattern is the test of each of its fields
field_tests : (w : ℕ) (fs : List (ℕ × ℕ × ℕ)) → well_formed fs ≡ true → eqb (bit_and w (mask_of fs)) (pattern_of fs) ≡ list_all (has_field w) fs
field_tests w [] ok = ap (λ (x : ℕ). eqb x 0) (and_comm w 0)
field_tests w (f ∷ fs) ok =
    let far : bit_and (field_mask f) (mask_of fs) ≡ 0 = grind (arith, nat_tests) in
    let inside : bit_and (field_pattern f) (field_mask f) ≡ field_pattern f = grind (arith, nat_tests) in
    let others : bit_and (pattern_of fs) (mask_of fs) ≡ pattern_of fs = grind (arith, nat_tests) in
    let rest : well_formed fs ≡ true = grind arith in
    both_tests w (field_mask f) (mask_of fs) (field_pattern f) (pattern_of fs) far inside others
    ∙ ap (λ (b : Bool). b && eqb (bit_and w (mask_of fs)) (pattern_of fs)) (one_test w f)
    ∙ ap (λ (b : Bool). has_field w f && b) (field_tests w fs rest)

find_same : {X : Type 0} (p q ok : X → Bool) → ((x : X) → ok x ≡ true → p x ≡ q x) → (xs : List X) → list_all ok xs ≡ true → find p xs ≡ find q xs
find_same p q ok same [] _ = refl
find_same p q ok same (x ∷ xs) h =
    let here : ok x ≡ true = grind arith in
    let there : list_all ok xs ≡ true = grind arith in
    ap (λ (t : Bool). cond t (Some x) (find p xs)) (same x here) ∙ ap (λ (r : Option _). cond (q x) (Some x) r) (find_same p q ok same xs there)

ops_well_formed : list_all (λ (op : Op). well_formed (row_of op).fields) ops ≡ true
ops_well_formed = refl

-- the operation whose row a word has is the one that its fields choose
op_by_fields : (w : ℕ) → find (λ (op : Op). matches w (row_of op)) ops ≡ op_at (w / 1 % 0x80) (w / 0x1000 % 8) (w / 0x2000000 % 0x80) w
op_by_fields w =
    find_same (λ (op : Op). matches w (row_of op)) (λ (op : Op). list_all (has_field w) (row_of op).fields) (λ (op : Op). well_formed (row_of op).fields)
    (λ op ok. field_tests w (row_of op).fields ok) ops ops_well_formed

map_twice : {A B C : Type 0} (f : A → B) (g : B → C) (o : Option A) → option_map g (option_map f o) ≡ option_map (λ x. g (f x)) o
map_twice f g None = refl
map_twice f g (Some x) = refl

map_same : {A B : Type 0} (f g : A → B) → ((x : A) → f x ≡ g x) → (o : Option A) → option_map f o ≡ option_map g o
map_same f g same None = refl
map_same f g same (Some x) = ap (λ y. Some y) (same x)

find_mapped : {X Y : Type 0} (f : X → Y) (p : Y → Bool) (xs : List X) → find p (map f xs) ≡ option_map f (find (λ x. p (f x)) xs)
find_mapped f p [] = refl
find_mapped f p (x ∷ xs) = at (p (f x)) (find_mapped f p xs)
  where
    at : (b : Bool) → find p (map f xs) ≡ option_map f (find (λ x. p (f x)) xs)
        → cond b (Some (f x)) (find p (map f xs)) ≡ option_map f (cond b (Some x) (find (λ x. p (f x)) xs))
    at true rest = refl
    at false rest = rest

-- the row of an operation names it
pub own_op : (op : Op) → (row_of op).op ≡ op
own_op Lui = refl
own_op op = refl

-- the instruction of a word that has an operation's row
of_op : (w : ℕ) (op : Op) → instr_of w (row_of op) ≡ operands (row_of op).format op w
of_op w op = ap (λ (o : Op). operands (row_of op).format o w) (own_op op)

-- a word decodes by its opcode, funct3 and funct7
pub decoded_by_fields : (w : ℕ) → w < 2 ^ 32 → decoded w ≡ instr_at (w % 0x80) (w / 0x1000 % 8) (w / 0x2000000) w
unfolding decoded
decoded_by_fields w fits =
    let low : w / 1 % 0x80 ≡ w % 0x80 = omega arith in
    let top : w / 0x2000000 % 0x80 ≡ w / 0x2000000 = omega arith in
    ap (option_map (instr_of w)) (find_mapped row_of (matches w) ops)
    ∙ map_twice row_of (instr_of w) (find (λ (op : Op). matches w (row_of op)) ops)
    ∙ map_same (λ (op : Op). instr_of w (row_of op)) (λ (op : Op). operands (row_of op).format op w) (of_op w) (find (λ (op : Op). matches w (row_of op)) ops)
    ∙ ap (option_map (λ (op : Op). operands (row_of op).format op w)) (op_by_fields w)
    ∙ ap (λ (o : ℕ). instr_at o (w / 0x1000 % 8) (w / 0x2000000 % 0x80) w) low
    ∙ ap (λ (t : ℕ). instr_at (w % 0x80) (w / 0x1000 % 8) t w) top
