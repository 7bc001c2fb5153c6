-- Runs of cycles: their laws, and how a unit stands after some cycles.
use Rattle.std.proofs.Common.{◌≡◌, ℕ, zero, suc, ◌+◌, refl, sym, ap, ap₂, ◌∙◌, arith, append_assoc, append-nil, add-suc, add-zero, zero-add}
use Rattle.std.specs.Prelude.{Option}
use Rattle.chip_base.specs.Given.{Given}
use Rattle.chip_base.specs.RunLaws.{RunsByArrivals, RunsInParts, RunsQuietly}
use Rattle.chip_base.specs.Runs.{Transcript, given_after, transcript_then, quiet_transcript, ran, unit_after}
use Rattle.chip_base.specs.declared.message.Down.{Down}

then_quiet : {S X Y : Type 0} (r : Transcript S X Y) → transcript_then r (quiet_transcript r.state) ≡ r
then_quiet r = ap₂ (λ xs ys. record { state = r.state; sent = xs; told = ys }) (append-nil r.sent) (append-nil r.told)

then_assoc : {S X Y : Type 0} (a b c : Transcript S X Y) → transcript_then (transcript_then a b) c ≡ transcript_then a (transcript_then b c)
then_assoc a b c = ap₂ (λ xs ys. record { state = c.state; sent = xs; told = ys }) (append_assoc a.sent b.sent c.sent) (append_assoc a.told b.told c.told)

module _ {S A X Y : Type 0} (step : S → ℕ → A → Transcript S X Y) where
  -- a run of cycles is that of the first ones and then that of the rest
  pub runs_in_parts : RunsInParts step
  unfolding ran
  runs_in_parts s start arrives a zero =
      ap (ran step s start arrives) (add-zero a) ∙ sym (then_quiet (ran step s start arrives a))
  runs_in_parts s start arrives a (suc b) =
      let r : Transcript S X Y = ran step s start arrives a in
      let q : Transcript S X Y = ran step r.state (start + a) arrives b in
      let e : start + (a + b) ≡ start + a + b = omega arith in
      ap (ran step s start arrives) (add-suc a b)
      ∙ ap (λ x. transcript_then x (step x.state (start + (a + b)) (arrives (start + (a + b))))) (runs_in_parts s start arrives a b)
      ∙ ap (λ t. transcript_then (transcript_then r q) (step q.state t (arrives t))) e
      ∙ then_assoc r q (step q.state (start + a + b) (arrives (start + a + b)))

  -- only what arrives in its cycles counts
  pub runs_by_arrivals : RunsByArrivals step
  unfolding ran
  runs_by_arrivals s start f g zero h = refl
  runs_by_arrivals s start f g (suc n) h =
      ap₂ (λ x a. transcript_then x (step x.state (start + n) a))
      (runs_by_arrivals s start f g n (λ t p q. h t p (omega (arith, q))))
      (h (start + n) (omega arith) (omega arith))

  -- cycles that say nothing
  pub runs_quietly : RunsQuietly step
  unfolding ran
  runs_quietly f start arrives zero h = refl
  runs_quietly f start arrives (suc n) h =
      ap (λ x. transcript_then x (step x.state (start + n) (arrives (start + n)))) (runs_quietly f start arrives n (λ k p. h k (omega (arith, p))))
      ∙ h n (omega arith)

module _ {S : Type 0} (cycle : S → ℕ → Option Down → Given S) (s : S) (start : ℕ) (downs : ℕ → Option Down) where
  -- a unit before its first cycle
  pub after_none : unit_after cycle s start downs 0 ≡ s
  unfolding unit_after ran
  after_none = refl

  -- and after one cycle more
  pub after_more : (n : ℕ) → unit_after cycle s start downs (suc n) ≡ (given_after cycle s start downs n).unit
  unfolding unit_after ran
  after_more n = refl

-- from the cycle 0 on, the number of cycles is the next cycle
pub given_from_zero : {S : Type 0} (cycle : S → ℕ → Option Down → Given S) (s : S) (downs : ℕ → Option Down) (n : ℕ)
    → given_after cycle s 0 downs n ≡ cycle (unit_after cycle s 0 downs n) n (downs n)
given_from_zero cycle s downs n = ap (λ t. cycle (unit_after cycle s 0 downs n) t (downs t)) (zero-add n)
