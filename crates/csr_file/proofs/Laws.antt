-- What reads give after a write, a trap, a return and a count, and what the table says of reset values and of read-only numbers.
use Rattle.std.proofs.Common.{◌≡◌, ◌==◌, ℕ, ◌/◌, ◌%◌, ◌^◌, ◌<◌, Bool, true, false, List, [], ◌∷◌, Option, Some, None, IsSome, refl, ap, arith, sym, ◌∙◌, ◌≢◌, ◌⊎◌, inl, inr, ◌↔◌}
use Rattle.std.proofs.lemmas.Bool.{eqb-true}
use Rattle.std.specs.List.{find}
use Rattle.std.specs.Option.{option_map}
use mathlib.Core.Bool.{not}
use Rattle.csr_file.specs.State.{CsrsState}
use Rattle.csr_file.specs.Table.{csr_row, held_word, with_word, kept, csr_at, allows_write, every, fresh, at_reset, read_at, after_write, after_write_in, writable, allows_write_in}
use Rattle.csr_file.specs.Traps.{after_tick, after_retire}
use Rattle.csr_file.specs.declared.names.Csr.{Csr}

-- the number of the CSR that a look-up gives
find_holds : (p : Csr → Bool) (xs : List Csr) (c : Csr) → find p xs ≡ Some c → p c ≡ true
find_holds p [] c h = grind arith
find_holds p (x ∷ xs) c h = grind (arith, find_holds p xs c)

number_of : (n : ℕ) (c : Csr) → csr_at n ≡ Some c → (csr_row c).number ≡ n
unfolding csr_at
number_of n c h = eqb-true _ _ (find_holds (λ d. (csr_row d).number == n) every c h)

-- what a write leaves
own_word : (s : CsrsState) (mip value : ℕ) (c : Csr) → value < 2 ^ 32 → held_word (with_word s c (kept (csr_row c).rule (held_word s 0 c) value)) mip c ≡ kept (csr_row c).rule (held_word s mip c) value
own_word s mip value c bound = grind arith

other_word : (s : CsrsState) (mip value : ℕ) (c d : Csr) → value < 2 ^ 32 → (csr_row c).number ≢ (csr_row d).number → held_word (with_word s c (kept (csr_row c).rule (held_word s 0 c) value)) mip d ≡ held_word s mip d
other_word s mip value c d bound apart = grind arith

own_in : (s : CsrsState) (mip value : ℕ) (o : Option Csr) → value < 2 ^ 32 → option_map (held_word (after_write_in s o value) mip) o ≡ option_map (λ c. kept (csr_row c).rule (held_word s mip c) value) o
own_in s mip value None bound = refl
own_in s mip value (Some c) bound = ap Some (own_word s mip value c bound)

other_in : (s : CsrsState) (mip value n m : ℕ) (o p : Option Csr) → csr_at n ≡ o → csr_at m ≡ p → value < 2 ^ 32 → n ≢ m → option_map (held_word (after_write_in s o value) mip) p ≡ option_map (held_word s mip) p
other_in s mip value n m None p at_n at_m bound apart = refl
other_in s mip value n m (Some c) None at_n at_m bound apart = refl
other_in s mip value n m (Some c) (Some d) at_n at_m bound apart =
    ap Some (other_word s mip value c d bound (λ same. apart (sym (number_of n c at_n) ∙ same ∙ number_of m d at_m)))

pub write_own : (s : CsrsState) (n value mip : ℕ) → value < 2 ^ 32 → read_at (after_write s n value) n mip ≡ option_map (λ c. kept (csr_row c).rule (held_word s mip c) value) (csr_at n)
unfolding read_at after_write
write_own s n value mip bound = own_in s mip value (csr_at n) bound

pub write_others : (s : CsrsState) (n value m mip : ℕ) → value < 2 ^ 32 → n ≢ m → read_at (after_write s n value) m mip ≡ read_at s m mip
unfolding read_at after_write
write_others s n value m mip bound apart = other_in s mip value n m (csr_at n) (csr_at m) refl refl bound apart

-- a refused write
refused_in : (s : CsrsState) (value : ℕ) (o : Option Csr) → allows_write_in o ≡ false → after_write_in s o value ≡ s
refused_in s value None h = refl
refused_in s value (Some c) h = grind arith

pub write_refused : (s : CsrsState) (n value : ℕ) → writable n ≡ false → after_write s n value ≡ s
unfolding after_write writable
write_refused s n value h = refused_in s value (csr_at n) h

-- the bits 11 and 10 of a read-only number
by_bits : (c : Csr) → allows_write (csr_row c).rule ≡ not ((csr_row c).number / 2 ^ 10 % 4 == 3)
by_bits c = grind arith

by_bits_in : (n : ℕ) (o : Option Csr) → csr_at n ≡ o → IsSome o → allows_write_in o ≡ not (n / 2 ^ 10 % 4 == 3)
by_bits_in n None at_n h = grind arith
by_bits_in n (Some c) at_n h = by_bits c ∙ ap (λ k. not (k / 2 ^ 10 % 4 == 3)) (number_of n c at_n)

three : (n : ℕ) → not (n / 2 ^ 10 % 4 == 3) ≡ false → n / 2 ^ 10 % 4 ≡ 3
three n h = grind arith

-- the causes of a refused write
refusal_in : (n : ℕ) (o : Option Csr) → csr_at n ≡ o → allows_write_in o ≡ false → (o ≡ None) ⊎ (n / 2 ^ 10 % 4 ≡ 3)
refusal_in n None at_n h = inl refl
refusal_in n (Some c) at_n h = inr (three n (sym (by_bits_in n (Some c) at_n refl) ∙ h))

in_refusal : (n : ℕ) (o : Option Csr) → csr_at n ≡ o → (o ≡ None) ⊎ (n / 2 ^ 10 % 4 ≡ 3) → allows_write_in o ≡ false
in_refusal n None at_n h = refl
in_refusal n (Some c) at_n (inl h) = grind arith
in_refusal n (Some c) at_n (inr h) = by_bits_in n (Some c) at_n refl ∙ ap (λ k. not (k == 3)) h

pub refused_by : (n : ℕ) → (writable n ≡ false) ↔ ((csr_at n ≡ None) ⊎ (n / 2 ^ 10 % 4 ≡ 3))
unfolding writable
refused_by n = (refusal_in n (csr_at n) refl, in_refusal n (csr_at n) refl)

-- the values at reset
reset_in : (hart mip : ℕ) (o : Option Csr) → option_map (held_word (fresh hart) mip) o ≡ option_map (at_reset hart mip) o
reset_in hart mip None = refl
reset_in hart mip (Some c) = grind arith

pub reset_reads : (hart n mip : ℕ) → read_at (fresh hart) n mip ≡ option_map (at_reset hart mip) (csr_at n)
unfolding read_at
reset_reads hart n mip = reset_in hart mip (csr_at n)

-- a step that leaves the word of a number's CSR
same_in : (s t : CsrsState) (mip n : ℕ) (o : Option Csr) → csr_at n ≡ o → ((c : Csr) → (csr_row c).number ≡ n → held_word t mip c ≡ held_word s mip c) → option_map (held_word t mip) o ≡ option_map (held_word s mip) o
same_in s t mip n None at_n same = refl
same_in s t mip n (Some c) at_n same = ap Some (same c (number_of n c at_n))

-- a trap, whatever it makes of mstatus
trap_word : (s : CsrsState) (pc cause value status mip n : ℕ) → n ≢ 0x300 → n ≢ 0x341 → n ≢ 0x342 → n ≢ 0x343 → (c : Csr) → (csr_row c).number ≡ n → held_word (record s { mepc = pc; mcause = cause; mtval = value; mstatus = status }) mip c ≡ held_word s mip c
trap_word s pc cause value status mip n status_apart pc_apart cause_apart value_apart c at_n = grind arith

pub trap_others : (s : CsrsState) (pc cause value status n mip : ℕ) → n ≢ 0x300 → n ≢ 0x341 → n ≢ 0x342 → n ≢ 0x343 → read_at (record s { mepc = pc; mcause = cause; mtval = value; mstatus = status }) n mip ≡ read_at s n mip
unfolding read_at
trap_others s pc cause value status n mip status_apart pc_apart cause_apart value_apart =
    same_in s (record s { mepc = pc; mcause = cause; mtval = value; mstatus = status }) mip n (csr_at n) refl (trap_word s pc cause value status mip n status_apart pc_apart cause_apart value_apart)

pub status_read : (s : CsrsState) (mip : ℕ) → read_at s 0x300 mip ≡ Some s.mstatus
unfolding read_at csr_at
status_read s mip = refl

pub trap_set : (s : CsrsState) (mip : ℕ) → (read_at s 0x341 mip ≡ Some s.mepc) × (read_at s 0x342 mip ≡ Some s.mcause) × (read_at s 0x343 mip ≡ Some s.mtval)
unfolding read_at csr_at
trap_set s mip = (refl, refl, refl)

-- a return from a trap, whatever it makes of mstatus
return_word : (s : CsrsState) (status mip n : ℕ) → n ≢ 0x300 → (c : Csr) → (csr_row c).number ≡ n → held_word (record s { mstatus = status }) mip c ≡ held_word s mip c
return_word s status mip n apart c at_n = grind arith

pub return_others : (s : CsrsState) (status n mip : ℕ) → n ≢ 0x300 → read_at (record s { mstatus = status }) n mip ≡ read_at s n mip
unfolding read_at
return_others s status n mip apart = same_in s (record s { mstatus = status }) mip n (csr_at n) refl (return_word s status mip n apart)

-- the counters
tick_word : (s : CsrsState) (mip n : ℕ) → n ≢ 0xb00 → n ≢ 0xb80 → (c : Csr) → (csr_row c).number ≡ n → held_word (after_tick s) mip c ≡ held_word s mip c
tick_word s mip n low_apart high_apart c at_n = grind arith

pub tick_others : (s : CsrsState) (n mip : ℕ) → n ≢ 0xb00 → n ≢ 0xb80 → read_at (after_tick s) n mip ≡ read_at s n mip
unfolding read_at
tick_others s n mip low_apart high_apart = same_in s (after_tick s) mip n (csr_at n) refl (tick_word s mip n low_apart high_apart)

retire_word : (s : CsrsState) (mip n : ℕ) → n ≢ 0xb02 → n ≢ 0xb82 → (c : Csr) → (csr_row c).number ≡ n → held_word (after_retire s) mip c ≡ held_word s mip c
retire_word s mip n low_apart high_apart c at_n = grind arith

pub retire_others : (s : CsrsState) (n mip : ℕ) → n ≢ 0xb02 → n ≢ 0xb82 → read_at (after_retire s) n mip ≡ read_at s n mip
unfolding read_at
retire_others s n mip low_apart high_apart = same_in s (after_retire s) mip n (csr_at n) refl (retire_word s mip n low_apart high_apart)

write_word_leaves_mcycle : (s : CsrsState) (value n : ℕ) (c : Csr) → (csr_row c).number ≡ n → n ≢ 0xb00 → n ≢ 0xb80 → (with_word s c (kept (csr_row c).rule (held_word s 0 c) value)).mcycle ≡ s.mcycle
write_word_leaves_mcycle s value n c at_n low_apart high_apart = grind arith

-- a write leaves mcycle where it names neither half of it
write_leaves_mcycle_in : (s : CsrsState) (value n : ℕ) (o : Option Csr) → csr_at n ≡ o → n ≢ 0xb00 → n ≢ 0xb80 → (after_write_in s o value).mcycle ≡ s.mcycle
write_leaves_mcycle_in s value n None at_n low_apart high_apart = refl
write_leaves_mcycle_in s value n (Some c) at_n low_apart high_apart = write_word_leaves_mcycle s value n c (number_of n c at_n) low_apart high_apart

-- serves those who count turns: a write of another CSR leaves mcycle
pub write_leaves_mcycle : (s : CsrsState) (n value : ℕ) → n ≢ 0xb00 → n ≢ 0xb80 → (after_write s n value).mcycle ≡ s.mcycle
unfolding after_write
write_leaves_mcycle s n value low_apart high_apart = write_leaves_mcycle_in s value n (csr_at n) refl low_apart high_apart
