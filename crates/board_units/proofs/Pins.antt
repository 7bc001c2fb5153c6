-- Each change of a script in order is of a pin.
use Rattle.std.proofs.Common.{◌≡◌, ℕ, zero, suc, ◌&&◌, leb, Bool, true, false, List, [], ◌∷◌, take, drop, refl}
use Rattle.std.proofs.lemmas.Bool.{false≢true}
use Rattle.std.specs.List.{list_all}
use Rattle.std.specs.Cmp.Derive.{both_true}
use Rattle.chip_base.specs.declared.script.PinStep.{PinStep}
use Rattle.chip_base.specs.Steps.{is_pin, are_pins, are_pins_from}

pub left_true : (a b : Bool) → (a && b) ≡ true → a ≡ true
left_true true b h = refl
left_true false b h = h

pub right_true : (a b : Bool) → (a && b) ≡ true → b ≡ true
right_true true b h = h
right_true false b h = absurd (false≢true h)

all_pins : (last : ℕ) (ps : List PinStep) → are_pins_from last ps ≡ true → list_all is_pin ps ≡ true
all_pins last [] h = refl
all_pins last (p ∷ ps) h =
    both_true (left_true (is_pin p) (leb last p.cycle) (left_true (is_pin p && leb last p.cycle) (are_pins_from p.cycle ps) h))
    (all_pins p.cycle ps (right_true (is_pin p && leb last p.cycle) (are_pins_from p.cycle ps) h))

all_dropped : {X : Type 0} (test : X → Bool) (n : ℕ) (xs : List X) → list_all test xs ≡ true → list_all test (drop n xs) ≡ true
all_dropped test zero xs h = h
all_dropped test (suc n) [] h = refl
all_dropped test (suc n) (x ∷ xs) h = all_dropped test n xs (right_true (test x) (list_all test xs) h)

all_taken : {X : Type 0} (test : X → Bool) (n : ℕ) (xs : List X) → list_all test xs ≡ true → list_all test (take n xs) ≡ true
all_taken test zero xs h = refl
all_taken test (suc n) [] h = refl
all_taken test (suc n) (x ∷ xs) h =
    both_true (left_true (test x) (list_all test xs) h) (all_taken test n xs (right_true (test x) (list_all test xs) h))

-- each change in a part of a valid script is of a pin
pub part_is_pins : (n m : ℕ) (ps : List PinStep) → are_pins ps ≡ true → list_all is_pin (take m (drop n ps)) ≡ true
part_is_pins n m ps h = all_taken is_pin m (drop n ps) (all_dropped is_pin n ps (all_pins 0 ps h))
