-- Lists of actions that begin with no decision.
use Rattle.std.proofs.Common.{◌≡◌, ℕ, Bool, true, false, List, [], ◌∷◌, refl, arith}
use Rattle.std.proofs.lemmas.Bool.Decides.{nat_tests}
use Rattle.std.specs.Prelude.{if◌then◌else◌, ◌==◌}
use Rattle.boot_monitor.specs.Actions.{Action, Await, Save, Report, Get, Ask, Keep, Answer, Fetch, Leave, Again, Writable, Head, Tail, Mind, print, settled}

-- the first action is no decision
abbrev pub IsOpen : List Action → Type 0
IsOpen (Again ∷ rest) = ⊥
IsOpen (Writable ∷ rest) = ⊥
IsOpen (Head from ∷ rest) = ⊥
IsOpen (Tail ∷ rest) = ⊥
IsOpen _ = Unit {0}

-- such a list is left as it is
pub settled-open : (room ctrl : ℕ) (todo : List Action) (i : Mind) → IsOpen todo → settled room ctrl todo i ≡ record { todo = todo; mind = i }
settled-open room ctrl [] i h = refl
settled-open room ctrl (Await _ _ _ ∷ rest) i h = refl
settled-open room ctrl (Save _ _ ∷ rest) i h = refl
settled-open room ctrl (Report _ ∷ rest) i h = refl
settled-open room ctrl (Get ∷ rest) i h = refl
settled-open room ctrl (Ask ∷ rest) i h = refl
settled-open room ctrl (Keep _ ∷ rest) i h = refl
settled-open room ctrl (Answer _ ∷ rest) i h = refl
settled-open room ctrl (Fetch _ ∷ rest) i h = refl
settled-open room ctrl (Leave ∷ rest) i h = refl
settled-open room ctrl (Again ∷ rest) i h = elim h [ ]
settled-open room ctrl (Writable ∷ rest) i h = elim h [ ]
settled-open room ctrl (Head _ ∷ rest) i h = elim h [ ]
settled-open room ctrl (Tail ∷ rest) i h = elim h [ ]

-- so is one that prints before it
pub open-print : (text : List ℕ) (rest : List Action) → IsOpen rest → IsOpen (print text rest)
open-print [] rest h = h
open-print (byte ∷ text) rest h = tt

-- a choice whose test is known
pub if-true : {A : Type 0} (b : Bool) (x y : A) → b ≡ true → (if b then x else y) ≡ x
if-true true x y h = refl
if-true false x y h = cc

pub if-false : {A : Type 0} (b : Bool) (x y : A) → b ≡ false → (if b then x else y) ≡ y
if-false true x y h = cc
if-false false x y h = refl

-- a test for zero
pub zero-is : (a : ℕ) → a ≡ 0 → (a == 0) ≡ true
zero-is a h = grind (arith, nat_tests)

pub zero-not : (a : ℕ) → (a ≡ 0 → ⊥) → (a == 0) ≡ false
zero-not a h = grind (arith, nat_tests)
