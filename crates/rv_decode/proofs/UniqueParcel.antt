-- At most one row matches a parcel.
use Rattle.std.proofs.Common.{◌≡◌, ℕ, ◌+◌, ◌-◌, ◌*◌, ◌^◌, Bool, true, false, eqb, get_or, List, [], ◌∷◌, Some, None, refl, sym, ap, ◌∙◌, arith, bit_and, inl, inr}
use Rattle.std.specs.List.{find, list_all, list_any}
use Rattle.std.specs.Option.{option_map}
use mathlib.Core.Bool.{not, ◌&&◌, ◌||◌}
use mathlib.Core.Logic.{◌⊎◌}
use Rattle.std.proofs.lemmas.Nat.Bits.{and_high}
use Rattle.std.proofs.lemmas.Bool.Decides.{nat_tests}
use Rattle.std.proofs.lemmas.List.Elements.{Contains-get_or}
use Rattle.rv_decode.specs.Fields.{field, joined}
use Rattle.rv_decode.specs.Parcels.{ParcelRow, parcel_rows, has_parcel_row, expanded, word_at, HasParcelRow}
use Rattle.rv_decode.proofs.Table.{all_apart, found_at, none_at, off_from}
use Rattle.rv_decode.proofs.Unique.{common_mask}

abbrev mask_of : ℕ → ℕ → ℕ
mask_of high low = 2 ^ (high + 1 - low + low) - 2 ^ low

-- two fields that can't both have their values
abbrev clash : ℕ × ℕ × ℕ → ℕ × ℕ × ℕ → Bool
clash c d =
    let both = bit_and (mask_of c.0 c.1) (mask_of d.0 d.1) in
    not (eqb (bit_and both (c.2 * 2 ^ c.1)) (bit_and both (d.2 * 2 ^ d.1)))

-- a field whose value is excluded
abbrev rules_out : ℕ × ℕ × ℕ → List (ℕ × ℕ) × ℕ → Bool
rules_out c (f ∷ [], v) = eqb c.0 f.0 && eqb c.1 f.1 && eqb c.2 v
rules_out c _ = false

abbrev any_pair : {X Y : Type 0} → (X → Y → Bool) → List X → List Y → Bool
any_pair p xs ys = list_any (λ x. list_any (p x) ys) xs

abbrev differ : ParcelRow → ParcelRow → Bool
differ r s = not (eqb r.low s.low) || not (eqb r.high s.high)

abbrev apart : ParcelRow → ParcelRow → Bool
apart r s =
    differ r s || any_pair clash r.fields s.fields
    || any_pair rules_out r.fields s.excluded || any_pair rules_out s.fields r.excluded

rows_apart : all_apart apart parcel_rows ≡ true
rows_apart = refl

field_mask : (high low h v : ℕ) → eqb (field high low h) v ≡ true → bit_and h (mask_of high low) ≡ v * 2 ^ low
field_mask high low h v t =
    let e : field high low h ≡ v = grind (arith, nat_tests) in
    and_high h (high + 1 - low) low ∙ ap (λ (x : ℕ). x * 2 ^ low) e

abbrev has_field : ℕ → ℕ × ℕ × ℕ → Bool
has_field h c = eqb (field c.0 c.1 h) c.2

abbrev lacks : ℕ → List (ℕ × ℕ) × ℕ → Bool
lacks h e = not (eqb (joined e.0 h) e.1)

no_clash : (h : ℕ) (c d : ℕ × ℕ × ℕ) → clash c d ≡ true → has_field h c ≡ true → has_field h d ≡ true → ⊥
no_clash h c d far on_c on_d =
    let m : ℕ = mask_of c.0 c.1 in
    let n : ℕ = mask_of d.0 d.1 in
    let e : bit_and h (mask_of c.0 c.1) ≡ c.2 * 2 ^ c.1 = field_mask c.0 c.1 h c.2 on_c in
    let f : bit_and h (mask_of d.0 d.1) ≡ d.2 * 2 ^ d.1 = field_mask d.0 d.1 h d.2 on_d in
    let same : bit_and (bit_and m n) (c.2 * 2 ^ c.1) ≡ bit_and (bit_and m n) (d.2 * 2 ^ d.1) =
    ap (bit_and (bit_and m n)) (sym e) ∙ common_mask m n h ∙ ap (bit_and (bit_and m n)) f in
    apart_same _ _ far same
  where
    apart_same : (x y : ℕ) → not (eqb x y) ≡ true → x ≡ y → ⊥
    apart_same x y far same = grind (arith, nat_tests)

not_ruled : (h : ℕ) (c : ℕ × ℕ × ℕ) (e : List (ℕ × ℕ) × ℕ) → rules_out c e ≡ true → has_field h c ≡ true → lacks h e ≡ true → ⊥
not_ruled h c (f ∷ [], v) out on off = grind (arith, nat_tests)
not_ruled h c ([], v) out on off = cc
not_ruled h c (f ∷ g ∷ fs, v) out on off = cc

no_any : {Y : Type 0} (r q : Y → Bool) → ((y : Y) → r y ≡ true → q y ≡ true → ⊥) → (ys : List Y) → list_any r ys ≡ true → list_all q ys ≡ true → ⊥
no_any r q never [] some all = cc
no_any r q never (y ∷ ys) some all =
    let here : q y ≡ true = grind arith in
    let rest : list_all q ys ≡ true = grind arith in
    let off : r y ≡ false = off_from (r y) (λ on. never y on here) in
    let more : list_any r ys ≡ true = grind arith in
    no_any r q never ys more rest

no_pair : {X Y : Type 0} (r : X → Y → Bool) (p : X → Bool) (q : Y → Bool) → ((x : X) (y : Y) → r x y ≡ true → p x ≡ true → q y ≡ true → ⊥)
    → (xs : List X) (ys : List Y) → any_pair r xs ys ≡ true → list_all p xs ≡ true → list_all q ys ≡ true → ⊥
no_pair r p q never xs ys some all_x all_y =
    no_any (λ x. list_any (r x) ys) p (λ x on here. no_any (r x) q (λ y hit q_y. never x y hit here q_y) ys on all_y) xs some all_x

or_cases : (a b : Bool) → (a || b) ≡ true → (a ≡ true) ⊎ (b ≡ true)
or_cases true b h = inl refl
or_cases false b h = inr h

not_both : (h : ℕ) (r s : ParcelRow) → apart r s ≡ true → has_parcel_row h r ≡ true → has_parcel_row h s ≡ true → ⊥
not_both h r s far on_r on_s =
    let low_r : eqb (field 1 0 h) r.low ≡ true = grind arith in
    let low_s : eqb (field 1 0 h) s.low ≡ true = grind arith in
    let high_r : eqb (field 15 13 h) r.high ≡ true = grind arith in
    let high_s : eqb (field 15 13 h) s.high ≡ true = grind arith in
    let with_r : list_all (has_field h) r.fields ≡ true = grind arith in
    let with_s : list_all (has_field h) s.fields ≡ true = grind arith in
    let out_r : list_all (lacks h) r.excluded ≡ true = grind arith in
    let out_s : list_all (lacks h) s.excluded ≡ true = grind arith in
    elim (or_cases (differ r s || any_pair clash r.fields s.fields || any_pair rules_out r.fields s.excluded) (any_pair rules_out s.fields r.excluded) far) [
      | inr e ↦ no_pair rules_out (has_field h) (lacks h) (not_ruled h) s.fields r.excluded e with_s out_r
      | inl rest ↦ elim (or_cases (differ r s || any_pair clash r.fields s.fields) (any_pair rules_out r.fields s.excluded) rest) [
        | inr e ↦ no_pair rules_out (has_field h) (lacks h) (not_ruled h) r.fields s.excluded e with_r out_s
        | inl more ↦ elim (or_cases (differ r s) (any_pair clash r.fields s.fields) more) [
          | inr e ↦ no_pair clash (has_field h) (has_field h) (no_clash h) r.fields s.fields e with_r with_s
          | inl e ↦ let differs : differ r s ≡ true = e in same_ends (field 1 0 h) (field 15 13 h) r s low_r low_s high_r high_s differs
        ]
      ]
    ]
  where
    same_ends : (x y : ℕ) (a b : ParcelRow) → eqb x a.low ≡ true → eqb x b.low ≡ true → eqb y a.high ≡ true → eqb y b.high ≡ true → differ a b ≡ true → ⊥
    same_ends x y a b la lb ha hb d = grind (arith, nat_tests)

-- the row that matches is the one found
parcel_row_found : (h : ℕ) (r : ParcelRow) → HasParcelRow h r → find (has_parcel_row h) parcel_rows ≡ Some r
parcel_row_found h r has =
    let on : has_parcel_row h (get_or parcel_rows has.0.0 r) ≡ true = ap (has_parcel_row h) has.0.2 ∙ has.1 in
    found_at (has_parcel_row h) apart (not_both h) parcel_rows rows_apart has.0.0 has.0.1 r on ∙ ap (λ (s : ParcelRow). Some s) has.0.2

-- at most one row matches
pub one_parcel_row : (h : ℕ) (r s : ParcelRow) → HasParcelRow h r → HasParcelRow h s → r ≡ s
one_parcel_row h r s has also =
    let e : find (has_parcel_row h) parcel_rows ≡ Some r = parcel_row_found h r has in
    let f : find (has_parcel_row h) parcel_rows ≡ Some s = parcel_row_found h s also in
    cc

-- the row that matches gives the word
pub expanded_row : (h : ℕ) (r : ParcelRow) → HasParcelRow h r → expanded h ≡ Some (word_at h r)
unfolding expanded
expanded_row h r has = ap (option_map (word_at h)) (parcel_row_found h r has)

-- where no row matches, there is none
pub expanded_none : (h : ℕ) → ((r : ParcelRow) → ¬ HasParcelRow h r) → expanded h ≡ None
unfolding expanded
expanded_none h never =
    ap (option_map (word_at h)) (none_at (has_parcel_row h) parcel_rows
    (λ k within d. off_from _ (λ on. never (get_or parcel_rows k d) (Contains-get_or parcel_rows k d within, on))))
