-- An interrupt is pending exactly where a bit that mie may have is set.
use Rattle.std.proofs.Common.{◌≡◌, ◌==◌, ℕ, zero, suc, ◌<◌, Bool, true, false, ◌&&◌, ◌||◌, List, [], ◌∷◌, Option, Some, None, refl, ap, arith, sym, ◌∙◌, bit_and, min, ◌≤◌, ◌⊎◌, inl, inr, lit<, ◌↔◌, if◌then◌else◌}
use Rattle.std.proofs.lemmas.Bool.{eqb-true, or_cases, cases_lt}
use Rattle.std.proofs.Math.Nat.{min-zero}
use Rattle.std.specs.Int.{bit_at}
use Rattle.std.specs.List.{find, list_any}
use Rattle.std.proofs.lemmas.Nat.Bits.{bit_at_and, bit_at-lt, bit_at-zero, bit_at_above, same_from_bits}
use Rattle.csr_file.specs.Traps.{interrupt_order, first_cause, pending_in, enabled}
use Rattle.csr_file.specs.Causes.{interrupt_cause}
use Rattle.csr_file.specs.State.{CsrsState}
use Rattle.std.specs.Option.{option_map}
use Rattle.std.proofs.lemmas.Nat.{and_assoc}

-- a test holds at each number below n
all_below : (ℕ → Bool) → ℕ → Bool
all_below p zero = true
all_below p (suc n) = p n && all_below p n

at_below : (p : ℕ → Bool) (n i : ℕ) → all_below p n ≡ true → i < n → p i ≡ true
unfolding all_below
at_below p zero i h less = grind arith
at_below p (suc n) i h less = grind (arith, at_below p n i)

-- each bit that mie may have is the bit of an interrupt
is_listed : ℕ → Bool
is_listed i = (bit_at 0xffff0888 i == 0) || list_any (λ n. n == i) interrupt_order

every_bit : all_below is_listed 32 ≡ true
unfolding all_below is_listed
every_bit = refl

unset : (ready i : ℕ) (xs : List ℕ) → find (λ n. bit_at ready n == 1) xs ≡ None → list_any (λ n. n == i) xs ≡ true → (bit_at ready i == 1) ≡ false
unset ready i [] h listed = grind arith
unset ready i (x ∷ xs) h listed = grind (arith, unset ready i xs)

-- with no interrupt set, no bit is set
masked_bit : (ready i : ℕ) → bit_and ready 0xffff0888 ≡ ready → bit_at 0xffff0888 i ≡ 0 → bit_at ready i ≡ 0
masked_bit ready i inside clear =
    let masked : bit_at (bit_and ready 0xffff0888) i ≡ min (bit_at ready i) (bit_at 0xffff0888 i) = bit_at_and ready 0xffff0888 i in
    let same : bit_at (bit_and ready 0xffff0888) i ≡ bit_at ready i = ap (λ x. bit_at x i) inside in
    sym same ∙ masked ∙ ap (λ b. min (bit_at ready i) b) clear ∙ min-zero (bit_at ready i)

zero_bit : (b : ℕ) → b < 2 → (b == 1) ≡ false → b ≡ 0
zero_bit b bound h = grind arith

listed_bit : (ready i : ℕ) → find (λ n. bit_at ready n == 1) interrupt_order ≡ None → bit_and ready 0xffff0888 ≡ ready → is_listed i ≡ true → bit_at ready i ≡ 0
unfolding is_listed
listed_bit ready i none inside h =
    elim (or_cases (bit_at 0xffff0888 i == 0) (list_any (λ n. n == i) interrupt_order) h) [
      | inl clear ↦ masked_bit ready i inside (eqb-true (bit_at 0xffff0888 i) 0 clear)
      | inr listed ↦ zero_bit (bit_at ready i) (bit_at-lt ready i) (unset ready i interrupt_order none listed)
    ]

any_bit : (ready i : ℕ) → find (λ n. bit_at ready n == 1) interrupt_order ≡ None → bit_and ready 0xffff0888 ≡ ready → (i < 32) ⊎ (32 ≤ i) → bit_at ready i ≡ 0
any_bit ready i none inside (inl less) = listed_bit ready i none inside (at_below is_listed 32 i every_bit less)
any_bit ready i none inside (inr more) = masked_bit ready i inside (bit_at_above 0xffff0888 32 i (lit< tt) more)

pub none_ready : (ready : ℕ) → find (λ n. bit_at ready n == 1) interrupt_order ≡ None → bit_and ready 0xffff0888 ≡ ready → ready ≡ 0
none_ready ready none inside = same_from_bits ready 0 (λ i. any_bit ready i none inside (cases_lt i 32) ∙ sym (bit_at-zero i))

-- the interrupt that is taken
map_none : (o : Option ℕ) → option_map interrupt_cause o ≡ None → o ≡ None
map_none None h = refl
map_none (Some n) h = grind arith

none_set : (n : ℕ) (xs : List ℕ) → find (λ n. bit_at 0 n == 1) xs ≡ None
none_set n [] = refl
none_set n (x ∷ xs) = grind (arith, bit_at-zero, none_set n xs)

masked : (mip mie : ℕ) → bit_and mie 0xffff0888 ≡ mie → bit_and (bit_and mip mie) 0xffff0888 ≡ bit_and mip mie
masked mip mie inside = and_assoc 0xffff0888 mip mie ∙ ap (λ m. bit_and mip m) inside

none_by : (on : Bool) (ready : ℕ) → bit_and ready 0xffff0888 ≡ ready → (if on then first_cause ready else None) ≡ None → (on ≡ false) ⊎ (ready ≡ 0)
none_by true ready inside h = inr (none_ready ready (map_none (find (λ n. bit_at ready n == 1) interrupt_order) h) inside)
none_by false ready inside h = inl refl

by_none : (on : Bool) (ready : ℕ) → (on ≡ false) ⊎ (ready ≡ 0) → (if on then first_cause ready else None) ≡ None
by_none false ready h = refl
by_none true ready (inl h) = grind arith
by_none true ready (inr h) = rw h (ap (λ o. option_map interrupt_cause o) (none_set 0 interrupt_order))

pub pending_none : (s : CsrsState) (mip : ℕ) → bit_and s.mie 0xffff0888 ≡ s.mie → (pending_in s mip ≡ None) ↔ ((enabled s ≡ false) ⊎ (bit_and mip s.mie ≡ 0))
unfolding pending_in
pending_none s mip inside = (none_by (enabled s) (bit_and mip s.mie) (masked mip s.mie inside), by_none (enabled s) (bit_and mip s.mie))
