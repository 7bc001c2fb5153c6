-- Over many cycles an output of a pulse-width modulation unit is high in the first cycles of each period.
use Rattle.std.proofs.Common.{◌≡◌, ◌≤◌, ◌<◌, ℕ, zero, suc, ◌+◌, ◌*◌, ◌%◌, ◌&&◌, ltb, leb, cond, Bool, true, false, List, [], ◌∷◌, get_or, None, refl, sym, ap, subst, ◌∙◌, arith}
use Rattle.std.proofs.Math.Nat.{mod-eq_of_lt, mod_self, mul-le-mul_right, suc-mod, zero-mod}
use Rattle.std.specs.Int.{bit_at}
use Rattle.chip_base.specs.Runs.{never, unit_after}
use Rattle.chip_base.proofs.Runs.{after_more, after_none}
use Rattle.board_units.specs.PwmState.{PwmState}
use Rattle.board_units.specs.PwmCycle.{is_high, outputs_of, counted, pwm_cycle}
use Rattle.board_units.specs.PwmWave.{Begins, MakesWave}
use Rattle.board_units.proofs.Compared.{is_at_most, is_later, below, not_below, is_below, is_from}

-- the unit that makes a wave, k cycles after its beginning
record Within (p : ℕ) (duties : List ℕ) (k : ℕ) (u : PwmState) : Type 0 where
  enabled : u.enabled ≡ true
  prescaler : u.prescaler ≡ p
  same_duties : u.duties ≡ duties
  place : u.step * p + u.count ≡ k % (256 * p)
  in_step : u.count < p
  in_period : u.step < 256

next-place_by : (step p : ℕ) (last : Bool) → leb 255 step ≡ last → step < 256 → 0 < p → (step + 1) % 256 * p + 0 ≡ (step * p + p) % (256 * p)
next-place_by step p true e h q =
    let o : 255 ≤ step = is_at_most 255 step e in
    let s : step ≡ 255 = omega arith in
    let z : (255 + 1) % 256 * p + 0 ≡ 0 = omega arith in
    let whole : 255 * p + p ≡ 256 * p = omega arith in
    rw s (z ∙ sym (ap (λ n. n % (256 * p)) whole ∙ mod_self (256 * p)))
next-place_by step p false e h q =
    let o : step < 255 = is_later 255 step e in
    let m : (step + 2) * p ≤ 256 * p = mul-le-mul_right p (omega arith) in
    let n : (step + 1) % 256 ≡ step + 1 = mod-eq_of_lt (omega arith) in
    rw n (omega arith ∙ sym (mod-eq_of_lt {n = step * p + p} {m = 256 * p} (omega arith)))

next-within_by : (p : ℕ) (duties : List ℕ) (k : ℕ) (u : PwmState) (mask : ℕ) (full : Bool) → leb u.prescaler (u.count + 1) ≡ full → 0 < p
    → Within p duties k u → Within p duties (suc k) (counted (record u { mask = mask }))
next-within_by p duties k u mask true e q w =
    let o : u.prescaler ≤ u.count + 1 = is_at_most u.prescaler (u.count + 1) e in
    let i : u.count < p = w.in_step in
    let r : u.prescaler ≡ p = w.prescaler in
    let whole : suc (u.step * p + u.count) ≡ u.step * p + p = omega arith in
    rw (w.enabled, e) record {
      enabled = refl;
      prescaler = w.prescaler;
      same_duties = w.same_duties;
      place = next-place_by u.step p _ refl w.in_period q ∙ sym (suc-mod k (256 * p)
          ∙ ap (λ n. suc n % (256 * p)) (sym w.place) ∙ ap (λ n. n % (256 * p)) whole);
      in_step = q;
      in_period = omega arith;
    }
next-within_by p duties k u mask false e q w =
    let o : u.count + 1 < u.prescaler = is_later u.prescaler (u.count + 1) e in
    let r : u.prescaler ≡ p = w.prescaler in
    let h : u.step < 256 = w.in_period in
    let m : (u.step + 1) * p ≤ 256 * p = mul-le-mul_right p (omega arith) in
    let below_end : suc (u.step * p + u.count) < 256 * p = omega arith in
    rw (w.enabled, e) record {
      enabled = refl;
      prescaler = w.prescaler;
      same_duties = w.same_duties;
      place = omega arith ∙ sym (suc-mod k (256 * p) ∙ ap (λ n. suc n % (256 * p)) (sym w.place) ∙ mod-eq_of_lt below_end);
      in_step = omega arith;
      in_period = w.in_period;
    }

next-within : (p : ℕ) (duties : List ℕ) (k : ℕ) (u : PwmState) (mask : ℕ) → 0 < p → Within p duties k u
    → Within p duties (suc k) (counted (record u { mask = mask }))
next-within p duties k u mask q w = next-within_by p duties k u mask _ refl q w

-- a unit that is given no message
abbrev alone : PwmState → ℕ → ℕ → PwmState
alone s t k = unit_after pwm_cycle s t never k

cycle-alone : (s : PwmState) (now : ℕ) → (pwm_cycle s now None).unit ≡ counted (record s { mask = outputs_of s })
unfolding pwm_cycle
cycle-alone s now = refl

next-unit : (s : PwmState) (t k : ℕ) → alone s t (suc k) ≡ counted (record (alone s t k) { mask = outputs_of (alone s t k) })
next-unit s t k = after_more pwm_cycle s t never k ∙ cycle-alone (alone s t k) (t + k)

first-unit : (s : PwmState) (t : ℕ) → alone s t 0 ≡ s
first-unit s t = after_none pwm_cycle s t never

within : (s : PwmState) (t k : ℕ) → 0 < s.prescaler → Begins s → Within s.prescaler s.duties k (alone s t k)
within s t zero q b = subst (Within s.prescaler s.duties 0) (sym (first-unit s t)) record {
  enabled = b.enabled;
  prescaler = refl;
  same_duties = refl;
  place =
      let z : 0 * s.prescaler + 0 ≡ 0 = omega arith in
      rw (b.no_step, b.no_count) (z ∙ sym (zero-mod (256 * s.prescaler)));
  in_step = subst (λ c. c < s.prescaler) (sym b.no_count) q;
  in_period = subst (λ c. c < 256) (sym b.no_step) (omega arith);
}
within s t (suc k) q b = subst (Within s.prescaler s.duties (suc k)) (sym (next-unit s t k))
    (next-within s.prescaler s.duties k (alone s t k) (outputs_of (alone s t k)) q (within s t k q b))

counted-mask_by : (u : PwmState) (on full : Bool) → u.enabled ≡ on → leb u.prescaler (u.count + 1) ≡ full → (counted u).mask ≡ u.mask
counted-mask_by u true true p q = rw (p, q) refl
counted-mask_by u true false p q = rw (p, q) refl
counted-mask_by u false full p q = rw p refl

counted-mask : (u : PwmState) → (counted u).mask ≡ u.mask
counted-mask u = counted-mask_by u _ _ refl refl

abbrev one : Bool → ℕ
one b = cond b 1 0

one-less : (b : Bool) → one b < 2
one-less true = omega arith
one-less false = omega arith

bit-times : (b : Bool) (n : ℕ) → cond b n 0 ≡ one b * n
bit-times true n = omega arith
bit-times false n = omega arith

sum-is : (a b c d : Bool) → cond a 1 0 + cond b 2 0 + cond c 4 0 + cond d 8 0 ≡ one a + one b * 2 + one c * 4 + one d * 8
sum-is a b c d = rw (bit-times b 2, bit-times c 4, bit-times d 8) refl

bits-are : (a b c d channel : ℕ) → a < 2 → b < 2 → c < 2 → d < 2 → channel < 4
    → bit_at (a + b * 2 + c * 4 + d * 8) channel ≡ get_or (a ∷ b ∷ c ∷ d ∷ []) channel 0
bits-are a b c d zero ha hb hc hd k = omega arith
bits-are a b c d (suc zero) ha hb hc hd k = omega arith
bits-are a b c d (suc (suc zero)) ha hb hc hd k = omega arith
bits-are a b c d (suc (suc (suc zero))) ha hb hc hd k = omega arith
bits-are a b c d (suc (suc (suc (suc n)))) ha hb hc hd k = absurd (omega arith)

highs : (u : PwmState) (channel : ℕ) → channel < 4
    → get_or (one (is_high u 0) ∷ one (is_high u 1) ∷ one (is_high u 2) ∷ one (is_high u 3) ∷ []) channel 0 ≡ one (is_high u channel)
highs u zero k = refl
highs u (suc zero) k = refl
highs u (suc (suc zero)) k = refl
highs u (suc (suc (suc zero))) k = refl
highs u (suc (suc (suc (suc n)))) k = absurd (omega arith)

-- a channel's bit in the mask
mask-bit : (u : PwmState) (channel : ℕ) → channel < 4 → bit_at (outputs_of u) channel ≡ one (is_high u channel)
mask-bit u channel k =
    ap (λ m. bit_at m channel) (sum-is (is_high u 0) (is_high u 1) (is_high u 2) (is_high u 3))
    ∙ bits-are (one (is_high u 0)) (one (is_high u 1)) (one (is_high u 2)) (one (is_high u 3)) channel
    (one-less (is_high u 0)) (one-less (is_high u 1)) (one-less (is_high u 2)) (one-less (is_high u 3)) k
    ∙ highs u channel k

-- a step is below the duty where its cycles are
scaled : (step p count duty : ℕ) (b : Bool) → ltb step duty ≡ b → count < p → ltb step duty ≡ ltb (step * p + count) (duty * p)
scaled step p count duty true e h =
    let o : step < duty = is_below step duty e in
    let m : (step + 1) * p ≤ duty * p = mul-le-mul_right p (omega arith) in
    e ∙ sym (below (step * p + count) (duty * p) (omega arith))
scaled step p count duty false e h =
    let o : duty ≤ step = is_from step duty e in
    let m : duty * p ≤ step * p = mul-le-mul_right p o in
    e ∙ sym (not_below (step * p + count) (duty * p) (omega arith))

high-is : (p : ℕ) (duties : List ℕ) (k : ℕ) (u : PwmState) (channel : ℕ) → Within p duties k u
    → is_high u channel ≡ ltb (k % (256 * p)) (get_or duties channel 0 * p)
high-is p duties k u channel w =
    ap (λ b. b && ltb u.step (get_or u.duties channel 0)) w.enabled
    ∙ ap (λ d. ltb u.step (get_or d channel 0)) w.same_duties
    ∙ scaled u.step p u.count (get_or duties channel 0) _ refl w.in_step
    ∙ ap (λ n. ltb n (get_or duties channel 0 * p)) w.place

-- an output is high in exactly the first duty * prescaler cycles of each period
pub makes_wave : (s : PwmState) (period : ℕ) → period ≡ 256 * s.prescaler → 0 < s.prescaler → MakesWave s period
makes_wave s period e q b t k channel h = rw e
    (ap (λ u. bit_at u.mask channel) (next-unit s t k)
    ∙ ap (λ m. bit_at m channel) (counted-mask (record (alone s t k) { mask = outputs_of (alone s t k) }))
    ∙ mask-bit (alone s t k) channel h
    ∙ ap one (high-is s.prescaler s.duties k (alone s t k) channel (within s t k q b)))
