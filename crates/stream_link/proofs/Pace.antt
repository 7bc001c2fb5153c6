-- Two words are four cycles apart.
use Rattle.std.proofs.Common.{◌≡◌, ◌<◌, ◌≤◌, ℕ, zero, suc, ◌+◌, ◌-◌, true, List, [], ◌∷◌, length, Option, None, Some, IsSome, refl, sym, ap, subst, ◌∙◌, arith, add-zero, add-suc}
use Rattle.bench_parts.specs.Behave.{Behaviour}
use Rattle.chip_base.proofs.Runs.{after_more}
use Rattle.chip_base.specs.Given.{Given}
use Rattle.chip_base.specs.Messages.{reset_in}
use Rattle.chip_base.specs.Runs.{given_after, unit_after}
use Rattle.chip_base.specs.declared.event.Event.{Event}
use Rattle.chip_base.specs.declared.message.Down.{Down}
use Rattle.chip_base.specs.declared.message.Down.TheVariants.{Reset, Set}
use Rattle.stream_link.proofs.Order.{cycle_works, message_gap, with_message}
use Rattle.stream_link.proofs.Works.{Next, Passes, Rests, next_of, worked_works}
use Rattle.stream_link.specs.Laws.{KeepsPace}
use Rattle.stream_link.specs.StreamCycle.{next_word, passing, stream_cycle, worked}
use Rattle.stream_link.specs.StreamState.{StreamState}
use Rattle.stream_link.specs.declared.word.StreamWord.{StreamWord}

abbrev Paced : Given StreamState → Type 0
Paced g = (e : Event) → g.event ≡ Some e → (g.unit.queue.gap ≡ 3) × (g.unit.queue.enabled ≡ true)

-- a word leaves a gap of three cycles
cycle_paced : (part : Option Behaviour) (s : StreamState) (now : ℕ) (down : Option Down) → Paced (stream_cycle part s now down)
unfolding stream_cycle
cycle_paced part s now None = (worked_works part s now).paced
cycle_paced part s now (Some Reset) = λ e h. absurd (cc)
cycle_paced part s now (Some (Set reg word)) = (worked_works part (with_message s (Some (Set reg word))) now).paced

abbrev Held : StreamState → Given StreamState → Type 0
Held s g = (g.event ≡ None) × (g.unit.queue.gap ≡ s.queue.gap - 1)

-- while it lasts no word is passed
cycle_held : (part : Option Behaviour) (s : StreamState) (now : ℕ) (down : Option Down) → reset_in down ≡ 0 → 0 < s.queue.gap
    → Held s (stream_cycle part s now down)
cycle_held part s now down r h =
    let same : (with_message s down).queue.gap ≡ s.queue.gap = message_gap s.queue down in
    let held = (worked_works part (with_message s down) now).held (subst (λ n. 0 < n) (sym same) h) in
    subst (Held s) (sym (cycle_works part s now down r)) (held.0, held.1 ∙ ap (λ n. n - 1) same)

abbrev less_gap : StreamState → ℕ → StreamState
less_gap s gap = record s { queue = record s.queue { gap = gap } }

-- and without a message nothing else changes
cycle_quiet : (part : Option Behaviour) (s : StreamState) (now : ℕ) → 0 < s.queue.gap → (stream_cycle part s now None).unit ≡ less_gap s (s.queue.gap - 1)
unfolding stream_cycle
cycle_quiet part s now h = by_next (next_of s.queue)
  where
    by_next : Next s.queue → (worked part s now).unit ≡ less_gap s (s.queue.gap - 1)
    by_next (Passes word rest on free w e) = absurd (omega (arith, h, free))
    by_next (Rests e) = ap (λ m. (passing part s now m).unit) e

-- once it is over, the first word that waits is passed
cycle_next : (part : Option Behaviour) (s : StreamState) (now : ℕ) → s.queue.enabled ≡ true → s.queue.gap ≡ 0 → 0 < length s.queue.waiting
    → IsSome (stream_cycle part s now None).event
unfolding stream_cycle
cycle_next part s now on free h = by_waiting s.queue.waiting refl h
  where
    by_waiting : (waiting : List StreamWord) → s.queue.waiting ≡ waiting → 0 < length waiting → IsSome (worked part s now).event
    by_waiting [] w l = absurd (omega (arith, l))
    by_waiting (word ∷ rest) w l =
        let next : next_word s.queue ≡ Some word = rw (on, free, w) refl in
        subst (λ m. IsSome (passing part s now m).event) (sym next) refl

module _ (part : Option Behaviour) (s : StreamState) (start : ℕ) (downs : ℕ → Option Down) (n : ℕ) (e : Event)
    (told : (given_after (stream_cycle part) s start downs n).event ≡ Some e) where
  abbrev unit : ℕ → StreamState
  unit k = unit_after (stream_cycle part) s start downs k

  abbrev given : ℕ → Given StreamState
  given k = given_after (stream_cycle part) s start downs k

  abbrev NoReset : ℕ → Type 0
  NoReset k = (j : ℕ) → 0 < j → j ≤ k → reset_in (downs (start + (n + j))) ≡ 0

  first : (given n).unit.queue.gap ≡ 3
  first = (cycle_paced part (unit n) (start + n) (downs (start + n)) e told).0

  no_reset : (k : ℕ) → NoReset (suc k) → reset_in (downs (start + (suc n + k))) ≡ 0
  no_reset k r =
      let same : n + suc k ≡ suc n + k = omega arith in
      subst (λ x. reset_in (downs (start + x)) ≡ 0) same (r (suc k) (omega arith) (omega arith))

  -- the gap in the cycles after the word
  gaps : (k : ℕ) → k < 4 → NoReset k → (unit (suc n + k)).queue.gap ≡ 3 - k
  gaps zero l r =
      ap (λ m. (unit m).queue.gap) (add-zero (suc n)) ∙ ap (λ (u : StreamState). u.queue.gap) (after_more (stream_cycle part) s start downs n) ∙ first
  gaps (suc k) l r =
      let m : ℕ = suc n + k in
      let earlier : (unit m).queue.gap ≡ 3 - k = gaps k (omega (arith, l)) (λ j p q. r j p (omega (arith, q))) in
      let more : 0 < (unit m).queue.gap = omega (arith, earlier, l) in
      let held = cycle_held part (unit m) (start + m) (downs (start + m)) (no_reset k r) more in
      let less : 3 - k - 1 ≡ 3 - suc k = omega arith in
      ap (λ x. (unit x).queue.gap) (add-suc (suc n) k) ∙ ap (λ (u : StreamState). u.queue.gap) (after_more (stream_cycle part) s start downs m)
      ∙ held.1 ∙ ap (λ g. g - 1) earlier ∙ less

  apart : (k : ℕ) → 0 < k → k < 4 → NoReset k → (given (n + k)).event ≡ None
  apart zero p l r = absurd (omega (arith, p))
  apart (suc k) p l r =
      let m : ℕ = suc n + k in
      let now : (unit m).queue.gap ≡ 3 - k = gaps k (omega (arith, l)) (λ j p q. r j p (omega (arith, q))) in
      let more : 0 < (unit m).queue.gap = omega (arith, now, l) in
      let same : n + suc k ≡ suc n + k = omega arith in
      ap (λ x. (given x).event) same ∙ (cycle_held part (unit m) (start + m) (downs (start + m)) (no_reset k r) more).0

  abbrev NoMessage : Type 0
  NoMessage = (j : ℕ) → 0 < j → j ≤ 4 → downs (start + (n + j)) ≡ None

  no_message : (k : ℕ) → k < 4 → NoMessage → downs (start + (suc n + k)) ≡ None
  no_message k l q =
      let same : n + suc k ≡ suc n + k = omega arith in
      subst (λ x. downs (start + x) ≡ None) same (q (suc k) (omega arith) (omega (arith, l)))

  -- without messages nothing but the gap changes
  waits : (k : ℕ) → k < 4 → NoMessage → unit (suc n + k) ≡ less_gap (given n).unit (3 - k)
  waits zero l q =
      ap unit (add-zero (suc n)) ∙ after_more (stream_cycle part) s start downs n ∙ ap (less_gap (given n).unit) first
  waits (suc k) l q =
      let m : ℕ = suc n + k in
      let earlier : unit m ≡ less_gap (given n).unit (3 - k) = waits k (omega (arith, l)) q in
      let now : (unit m).queue.gap ≡ 3 - k = ap (λ (u : StreamState). u.queue.gap) earlier in
      let more : 0 < (unit m).queue.gap = omega (arith, now, l) in
      let less : 3 - k - 1 ≡ 3 - suc k = omega arith in
      ap unit (add-suc (suc n) k) ∙ after_more (stream_cycle part) s start downs m
      ∙ ap (λ d. (stream_cycle part (unit m) (start + m) d).unit) (no_message k (omega (arith, l)) q)
      ∙ cycle_quiet part (unit m) (start + m) more
      ∙ ap (λ (u : StreamState). less_gap u (u.queue.gap - 1)) earlier
      ∙ ap (less_gap (given n).unit) less

  follows : 0 < length (given n).unit.queue.waiting → NoMessage → IsSome (given (n + 4)).event
  follows h q =
      let on : (given n).unit.queue.enabled ≡ true = (cycle_paced part (unit n) (start + n) (downs (start + n)) e told).1 in
      let m : ℕ = suc n + 3 in
      let same : suc n + 3 ≡ n + 4 = omega arith in
      let here : unit m ≡ less_gap (given n).unit (3 - 3) = waits 3 (omega arith) q in
      let next : IsSome (stream_cycle part (unit m) (start + m) None).event
      = subst (λ u. IsSome (stream_cycle part u (start + m) None).event) (sym here) (cycle_next part (less_gap (given n).unit (3 - 3)) (start + m) on refl h) in
      subst (λ x. IsSome (given x).event) same
      (subst (λ d. IsSome (stream_cycle part (unit m) (start + m) d).event) (sym (no_message 3 (omega arith) q)) next)

pub keeps_pace : (part : Option Behaviour) → KeepsPace part
keeps_pace part s start downs n e told = record {
  apart = apart part s start downs n e told;
  follows = follows part s start downs n e told;
}
