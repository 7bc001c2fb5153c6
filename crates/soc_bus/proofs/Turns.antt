-- A master that goes on wanting is served within three grants.
use Rattle.std.proofs.Common.{◌≡◌, ◌<◌, ◌≤◌, ◌⊎◌, ℕ, suc, Bool, true, false, List, [], ◌∷◌, Option, Some, None, length, refl, ap, arith, inl, inr}
use Rattle.std.specs.Prelude.{Contains}
use Rattle.std.specs.List.{find}
use Rattle.std.specs.Option.{unwrap_or}
use Rattle.soc_bus.specs.Rotation.{ArbiterState, order_after, served_in_turn, wants_it}
use Rattle.soc_bus.specs.declared.arbiter.Master.{Master}
use Rattle.soc_bus.specs.declared.arbiter.Master.TheVariants.{Core0, Core1, Dma}

-- how many masters are asked before this one
abbrev before : Master → Master → ℕ
before Core0 Core1 = 0
before Core0 Dma = 1
before Core0 Core0 = 2
before Core1 Dma = 0
before Core1 Core0 = 1
before Core1 Core1 = 2
before Dma Core0 = 0
before Dma Core1 = 1
before Dma Dma = 2

at_most_two : (last m : Master) → before last m ≤ 2
at_most_two Core0 Core0 = omega arith
at_most_two Core0 Core1 = omega arith
at_most_two Core0 Dma = omega arith
at_most_two Core1 Core0 = omega arith
at_most_two Core1 Core1 = omega arith
at_most_two Core1 Dma = omega arith
at_most_two Dma Core0 = omega arith
at_most_two Dma Core1 = omega arith
at_most_two Dma Dma = omega arith

-- after a grant at which this master wanted: it was served, or fewer masters are asked before it
abbrev Nearer : Master → Master → Option Master → Type 0
Nearer last m None = ⊥
Nearer last m (Some served) = (served ≡ m) ⊎ (before served m < before last m)

-- this master is the first that is asked, the second, or the third
at_first : (p : Master → Bool) (last x y z : Master) → p x ≡ true → Nearer last x (find p (x ∷ y ∷ z ∷ []))
at_first p last x y z h = rw h (inl refl)

at_second : (p : Master → Bool) (last x y z : Master) (a : Bool) → p x ≡ a → p y ≡ true → before x y < before last y → Nearer last y (find p (x ∷ y ∷ z ∷ []))
at_second p last x y z true e h less = rw e (inr less)
at_second p last x y z false e h less = rw (e, h) (inl refl)

at_third : (p : Master → Bool) (last x y z : Master) (a b : Bool) → p x ≡ a → p y ≡ b → p z ≡ true → before x z < before last z → before y z < before last z
    → Nearer last z (find p (x ∷ y ∷ z ∷ []))
at_third p last x y z true b e f h less other = rw e (inr less)
at_third p last x y z false true e f h less other = rw (e, f) (inr other)
at_third p last x y z false false e f h less other = rw (e, f, h) (inl refl)

one_grant : (p : Master → Bool) (last m : Master) → p m ≡ true → Nearer last m (find p (order_after last))
one_grant p Core0 Core1 h = at_first p Core0 Core1 Dma Core0 h
one_grant p Core0 Dma h = at_second p Core0 Core1 Dma Core0 (p Core1) refl h (omega arith)
one_grant p Core0 Core0 h = at_third p Core0 Core1 Dma Core0 (p Core1) (p Dma) refl refl h (omega arith) (omega arith)
one_grant p Core1 Dma h = at_first p Core1 Dma Core0 Core1 h
one_grant p Core1 Core0 h = at_second p Core1 Dma Core0 Core1 (p Dma) refl h (omega arith)
one_grant p Core1 Core1 h = at_third p Core1 Dma Core0 Core1 (p Dma) (p Core0) refl refl h (omega arith) (omega arith)
one_grant p Dma Core0 h = at_first p Dma Core0 Core1 Dma h
one_grant p Dma Core1 h = at_second p Dma Core0 Core1 Dma (p Core0) refl h (omega arith)
one_grant p Dma Dma h = at_third p Dma Core0 Core1 Dma (p Core0) (p Core1) refl refl h (omega arith) (omega arith)

-- this master wants at each of these grants
abbrev WantsAtAll : Master → List ℕ → Type 0
WantsAtAll m [] = Unit {0}
WantsAtAll m (wants ∷ rest) = (wants_it wants m ≡ true) × WantsAtAll m rest

later : (x y : Option Master) (xs : List (Option Master)) → Contains xs x → Contains (y ∷ xs) x
later x y xs (k, within, here) = (suc k, omega arith, here)

-- it is served here, or in what comes after a grant that left fewer masters before it
here_or_later : (last m : Master) (rest : List ℕ) (served : Option Master) → Nearer last m served
    → ((s : Master) → before s m < before last m → Contains (served_in_turn (record { last = s }) rest) (Some m))
    → Contains (served ∷ served_in_turn (record { last = unwrap_or served last }) rest) (Some m)
here_or_later last m rest None never next = absurd never
here_or_later last m rest (Some s) (inl same) next = (0, omega arith, ap (λ x. Some x) same)
here_or_later last m rest (Some s) (inr less) next = later (Some m) (Some s) (served_in_turn (record { last = s }) rest) (next s less)

-- it is served in one grant more than masters are asked before it
served_after : (last m : Master) (all : List ℕ) → before last m < length all → WantsAtAll m all → Contains (served_in_turn (record { last = last }) all) (Some m)
served_after last m [] short wants = absurd (omega arith)
served_after last m (w ∷ rest) short wants =
    here_or_later last m rest (find (wants_it w) (order_after last)) (one_grant (wants_it w) last m wants.0) (λ s less. served_after s m rest (omega arith) wants.1)

pub served_soon : (turns : ArbiterState) (first : ℕ) (m : Master) (second third : ℕ) → wants_it first m ≡ true → wants_it second m ≡ true → wants_it third m ≡ true
    → Contains (served_in_turn turns (first ∷ second ∷ third ∷ [])) (Some m)
served_soon turns first m second third e f g =
    let most = at_most_two turns.last m in
    served_after turns.last m (first ∷ second ∷ third ∷ []) (omega (arith, most)) (e, (f, (g, tt)))
