-- The bits of CTRL, read and written.
use Rattle.std.proofs.Common.{◌≡◌, ◌≤◌, ◌↔◌, ℕ, ◌+◌, ◌*◌, ◌/◌, ◌%◌, ◌^◌, Bool, true, false, cond, refl, sym, ◌∙◌, arith, subst}
use Rattle.std.specs.Prelude.{◌==◌}
use Rattle.std.specs.Int.{bit_at}
use Rattle.std.proofs.lemmas.Bool.{false≢true}
use Rattle.std.proofs.lemmas.Bool.Decides.{nat_tests}
use Rattle.chip_base.specs.Bits.{bit_if}
use Rattle.dma_unit.specs.declared.state.DmaState.{DmaState}
use Rattle.dma_unit.specs.declared.state.DmaState.TheVariants.{Idle, Reading, Writing, Done, Fault}
use Rattle.dma_unit.specs.Control.{TellsDmaControl, StartsCopy}
use Rattle.dma_unit.specs.DmaRegisters.{DmaRegisters, dma_control, dma_control_stored, has_bit, is_busy, is_done, is_fault, state_before}

-- a bit of a word that is set where something holds
abbrev digit : Bool → ℕ
digit is_set = cond is_set 1 0

digit_below : (b : Bool) → digit b ≤ 1
digit_below true = omega arith
digit_below false = omega arith

placed : (place : ℕ) (b : Bool) → bit_if place b ≡ 2 ^ place * digit b
placed place true = omega arith
placed place false = omega arith

tells_if : (P : Type 0) (b : Bool) (bit : ℕ) → bit ≡ digit b → (b ≡ true → P) → (P → b ≡ true) → (bit ≡ 1) ↔ P
tells_if P true bit e f g = (λ x. f refl, λ p. e)
tells_if P false bit e f g = (λ x. absurd (omega (arith, x, e)), λ p. absurd (false≢true (g p)))

abbrev sum_of : ℕ → ℕ → ℕ → ℕ → ℕ → ℕ → ℕ
sum_of a b c d e f = a + 2 * b + 4 * c + 8 * d + 256 * e + 512 * f

-- the six bits stand at their places
record HasDigits (a b c d e f word : ℕ) : Type 0 where
  busy : word / 1 % 2 ≡ a
  interrupt : word / 2 % 2 ≡ b
  source_fixed : word / 4 % 2 ≡ c
  destination_fixed : word / 8 % 2 ≡ d
  at_end : word / 256 % 2 ≡ e
  refused : word / 512 % 2 ≡ f
  kept : word / 2 % 8 ≡ b + 2 * c + 4 * d
  below_done : word / 16 % 16 ≡ 0
  above_fault : word / 1024 ≡ 0

has_digits : (a b c d e f : ℕ) → a ≤ 1 → b ≤ 1 → c ≤ 1 → d ≤ 1 → e ≤ 1 → f ≤ 1 → HasDigits a b c d e f (sum_of a b c d e f)
has_digits a b c d e f ha hb hc hd he hf = record {
  busy = omega arith;
  interrupt = omega arith;
  source_fixed = omega arith;
  destination_fixed = omega arith;
  at_end = omega arith;
  refused = omega arith;
  kept = omega arith;
  below_done = omega arith;
  above_fault = omega arith;
}

abbrev HasDigitsOf : DmaRegisters → ℕ → Type 0
HasDigitsOf s word = HasDigits (digit (is_busy s.state)) (digit s.interrupt) (digit s.source_fixed) (digit s.destination_fixed)
    (digit (is_done s.state)) (digit (is_fault s.state)) word

control_digits : (s : DmaRegisters) → HasDigitsOf s (dma_control s)
control_digits s =
    let e : dma_control s ≡ sum_of (digit (is_busy s.state)) (digit s.interrupt) (digit s.source_fixed) (digit s.destination_fixed)
    (digit (is_done s.state)) (digit (is_fault s.state))
    = rw (placed 0 (is_busy s.state), placed 1 s.interrupt, placed 2 s.source_fixed, placed 3 s.destination_fixed, placed 8 (is_done s.state), placed 9 (is_fault s.state)) (omega arith) in
    subst (λ w. HasDigitsOf s w) (sym e)
    (has_digits _ _ _ _ _ _ (digit_below (is_busy s.state)) (digit_below s.interrupt) (digit_below s.source_fixed) (digit_below s.destination_fixed)
    (digit_below (is_done s.state)) (digit_below (is_fault s.state)))

done_is : (s : DmaState) → is_done s ≡ true → s ≡ Done
done_is Done e = refl
done_is Idle e = grind arith
done_is Reading e = grind arith
done_is Writing e = grind arith
done_is Fault e = grind arith

fault_is : (s : DmaState) → is_fault s ≡ true → s ≡ Fault
fault_is Fault e = refl
fault_is Idle e = grind arith
fault_is Reading e = grind arith
fault_is Writing e = grind arith
fault_is Done e = grind arith

tells_bits : (s : DmaRegisters) (word : ℕ) → HasDigitsOf s word → TellsDmaControl s word
tells_bits s word h = record {
  busy = tells_if (is_busy s.state ≡ true) (is_busy s.state) _ h.busy (λ e. e) (λ e. e);
  interrupt = tells_if (s.interrupt ≡ true) s.interrupt _ h.interrupt (λ e. e) (λ e. e);
  source_fixed = tells_if (s.source_fixed ≡ true) s.source_fixed _ h.source_fixed (λ e. e) (λ e. e);
  destination_fixed = tells_if (s.destination_fixed ≡ true) s.destination_fixed _ h.destination_fixed (λ e. e) (λ e. e);
  at_end = tells_if (s.state ≡ Done) (is_done s.state) _ h.at_end (done_is s.state) (λ e. rw e refl);
  refused = tells_if (s.state ≡ Fault) (is_fault s.state) _ h.refused (fault_is s.state) (λ e. rw e refl);
  below_done = h.below_done;
  above_fault = h.above_fault;
}

-- what a load of CTRL gives tells each bit
pub tells_control : (s : DmaRegisters) (word : ℕ) → word ≡ dma_control s → TellsDmaControl s word
tells_control s word e = tells_bits s word (subst (λ w. HasDigitsOf s w) (sym e) (control_digits s))

read_back : (word place : ℕ) → digit (has_bit word place) ≡ word / 2 ^ place % 2
read_back word place = by_bit (has_bit word place) refl
  where
    by_bit : (b : Bool) → has_bit word place ≡ b → digit b ≡ word / 2 ^ place % 2
    by_bit true e = grind (arith, nat_tests)
    by_bit false e = grind (arith, nat_tests)

three_bits : (word : ℕ) → word / 2 % 2 + 2 * (word / 4 % 2) + 4 * (word / 8 % 2) ≡ word / 2 % 8
three_bits word = omega arith

starts_if : (c : DmaRegisters) (word : ℕ) → bit_at word 0 ≡ 1 → (dma_control_stored c word).state ≡ state_before c.count
starts_if c word h = let e : has_bit word 0 ≡ true = grind (arith, nat_tests) in rw e refl

-- a store to CTRL starts a copy by bit 0, and keeps the three bits beside it
pub starts_copy : (c : DmaRegisters) (word : ℕ) → StartsCopy c word (dma_control_stored c word)
starts_copy c word = record {
  kept = (control_digits (dma_control_stored c word)).kept ∙ rw (read_back word 1, read_back word 2, read_back word 3) (three_bits word);
  starts = λ h some. starts_if c word h ∙ (let e : (c.count == 0) ≡ false = grind (arith, nat_tests) in rw e refl);
  ends = λ h none. starts_if c word h ∙ (let e : (c.count == 0) ≡ true = grind (arith, nat_tests) in rw e refl);
  rests = λ h. let e : has_bit word 0 ≡ false = grind (arith, nat_tests) in rw e refl;
}
