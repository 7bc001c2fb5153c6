-- What comes in a cycle stands behind what came before, by its place.
use Rattle.std.proofs.Common.{◌≡◌, ◌≤◌, ◌<◌, ℕ, suc, ◌⊎◌, inl, inr, List, [], ◌∷◌, ◌++◌, Option, None, Some, arith, append-nil}
use Rattle.std.specs.Prelude.{option_to_list}
use Rattle.chip_whole.specs.Order.{AreOrdered, AreOrderedBefore, ArePast, Precedes}

-- it holds of each
abbrev pub EachOf : {A : Type 0} → (A → Type 0) → List A → Type 0
EachOf P [] = Unit {0}
EachOf P (x ∷ rest) = P x × EachOf P rest

module _ {A : Type 0} (cycle place : A → ℕ) where
  -- one, if there is one, is of this place and cycle
  abbrev pub IsAt : ℕ → ℕ → Option A → Type 0
  IsAt at now None = Unit {0}
  IsAt at now (Some x) = (cycle x ≡ now) × (place x ≡ at)

  -- before this place in this cycle
  abbrev pub IsBefore : ℕ → ℕ → A → Type 0
  IsBefore now at x = (cycle x < now) ⊎ ((cycle x ≡ now) × (place x < at))

  -- in order, all before this place in this cycle
  pub record EndBefore (now at : ℕ) (all : List A) : Type 0 where
    pub order : AreOrdered cycle place all
    pub before : EachOf (IsBefore now at) all

  each_weaker : (P Q : A → Type 0) → ((x : A) → P x → Q x) → (all : List A) → EachOf P all → EachOf Q all
  each_weaker P Q f [] h = tt
  each_weaker P Q f (x ∷ rest) h = (f x h.0, each_weaker P Q f rest h.1)

  each_more : (P : A → Type 0) (all : List A) (x : A) → EachOf P all → P x → EachOf P (all ++ x ∷ [])
  each_more P [] x h p = (p, tt)
  each_more P (a ∷ rest) x h p = (h.0, each_more P rest x h.1 p)

  order_more : (all : List A) (x : A) → AreOrdered cycle place all → EachOf (λ a. Precedes cycle place a x) all → AreOrdered cycle place (all ++ x ∷ [])
  order_more [] x o h = tt
  order_more (a ∷ []) x o h = (h.0, tt)
  order_more (a ∷ b ∷ rest) x o h = (o.0, order_more (b ∷ rest) x o.1 h.1)

  -- a place further on
  pub later_place : (now at more : ℕ) (all : List A) → at ≤ more → EndBefore now at all → EndBefore now more all
  later_place now at more all l h = record { order = h.order; before = each_weaker (IsBefore now at) (IsBefore now more) weaker all h.before }
    where
      weaker : (x : A) → IsBefore now at x → IsBefore now more x
      weaker x (inl earlier) = inl earlier
      weaker x (inr here) = inr (here.0, omega (arith, here.1, l))

  -- the cycle is over
  pub next_cycle : (now at : ℕ) (all : List A) → EndBefore now at all → EndBefore (suc now) 0 all
  next_cycle now at all h = record { order = h.order; before = each_weaker (IsBefore now at) (IsBefore (suc now) 0) weaker all h.before }
    where
      weaker : (x : A) → IsBefore now at x → IsBefore (suc now) 0 x
      weaker x (inl earlier) = inl (omega (arith, earlier))
      weaker x (inr here) = inl (omega (arith, here.0))

  -- one comes at this place, or none
  pub comes_next : (now at : ℕ) (all : List A) (one : Option A) → IsAt at now one → EndBefore now at all → EndBefore now (suc at) (all ++ option_to_list one)
  comes_next now at all None t h = rw (append-nil all) (later_place now at (suc at) all (omega arith) h)
  comes_next now at all (Some x) t h = record {
    order = order_more all x h.order (each_weaker (IsBefore now at) (λ a. Precedes cycle place a x) precedes all h.before);
    before = each_more (IsBefore now (suc at)) all x (later_place now at (suc at) all (omega arith) h).before (inr (t.0, omega (arith, t.1)));
  }
    where
      precedes : (a : A) → IsBefore now at a → Precedes cycle place a x
      precedes a (inl earlier) = inl (omega (arith, earlier, t.0))
      precedes a (inr here) = inr (omega (arith, here.0, t.0), omega (arith, here.1, t.1))

  -- all are in the past before the first place
  pub are_past : (now : ℕ) (all : List A) → EndBefore now 0 all → AreOrderedBefore cycle place now all
  are_past now all h = record { order = h.order; past = all_past all h.before }
    where
      past : (x : A) → IsBefore now 0 x → cycle x < now
      past x (inl earlier) = earlier
      past x (inr here) = absurd (omega (arith, here.1))

      all_past : (all : List A) → EachOf (IsBefore now 0) all → ArePast cycle place now all
      all_past [] b = tt
      all_past (x ∷ rest) b = (past x b.0, all_past rest b.1)

  -- two come in a cycle, at the first two places, or fewer
  pub two_come : (now : ℕ) (all : List A) (first second : Option A) → IsAt 0 now first → IsAt 1 now second → EndBefore now 0 all
      → EndBefore (suc now) 0 (all ++ option_to_list first ++ option_to_list second)
  two_come now all first second f s h =
      next_cycle now 2 (all ++ option_to_list first ++ option_to_list second)
      (comes_next now 1 (all ++ option_to_list first) second s (comes_next now 0 all first f h))
