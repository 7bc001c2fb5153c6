-- What the work of a cycle gives, where a word is passed and where none is.
use Rattle.std.proofs.Common.{◌≡◌, ◌<◌, ◌≤◌, ◌==◌, ℕ, ◌-◌, Bool, true, false, List, [], ◌∷◌, ◌++◌, drop, length, map, Option, None, Some, IsSome, refl, sym, ap, subst, ◌∙◌, arith, append-nil}
use Rattle.std.specs.Prelude.{if◌then◌else◌, option_to_list}
use Rattle.std.proofs.lemmas.Bool.{eqb-true, false≢true}
use Rattle.bench_parts.specs.Behave.{Behaviour}
use Rattle.bench_parts.specs.declared.event.PartReply.{PartReply}
use Rattle.chip_base.specs.Given.{Given}
use Rattle.chip_base.specs.Messages.{credit_in, credit_up, done_in, with_word}
use Rattle.chip_base.specs.declared.event.Event.{Event}
use Rattle.chip_base.specs.declared.event.EventKind.TheVariants.{Last, Word}
use Rattle.stream_link.specs.Laws.{PassesFirst, asked_by, is_last}
use Rattle.stream_link.specs.StreamCycle.{next_word, part_event, passing, reply_to, reply_up, worked}
use Rattle.stream_link.specs.StreamState.{QueueState, StreamState}
use Rattle.stream_link.specs.declared.word.StreamWord.{StreamWord}

pub data Next (q : QueueState) : Type 0 where
  Passes : (word : StreamWord) (rest : List StreamWord) → q.enabled ≡ true → q.gap ≡ 0 → q.waiting ≡ word ∷ rest → next_word q ≡ Some word → Next q
  Rests : next_word q ≡ None → Next q

next_by : (q : QueueState) (on free : Bool) (waiting : List StreamWord) → q.enabled ≡ on → (q.gap == 0) ≡ free → q.waiting ≡ waiting → Next q
next_by q false free waiting e f w = Rests (rw e refl)
next_by q true false waiting e f w = Rests (rw (e, f) refl)
next_by q true true [] e f w = Rests (rw (e, f, w) refl)
next_by q true true (word ∷ rest) e f w = Passes word rest e (eqb-true q.gap 0 f) w (rw (e, f, w) refl)

-- whether a word is passed
pub next_of : (q : QueueState) → Next q
next_of q = next_by q q.enabled (q.gap == 0) q.waiting refl refl refl

-- what the laws need of it
pub record Works (part : Option Behaviour) (s : StreamState) (now : ℕ) (g : Given StreamState) : Type 0 where
  pub order : g.unit.queue.waiting ≡ drop (credit_in g.up) s.queue.waiting
  pub one_at_most : credit_in g.up ≤ length s.queue.waiting
  pub none_done : done_in g.up ≡ 0
  pub passes : credit_in g.up ≡ 1 → PassesFirst part s.passed now s.queue.waiting g
  pub rests : credit_in g.up ≡ 0 → (g.event ≡ None) × (g.unit.passed ≡ s.passed)
  pub tells : g.unit.passed ≡ s.passed ++ map asked_by (option_to_list g.event)
  pub paced : (e : Event) → g.event ≡ Some e → (g.unit.queue.gap ≡ 3) × (g.unit.queue.enabled ≡ true)
  pub held : 0 < s.queue.gap → (g.event ≡ None) × (g.unit.queue.gap ≡ s.queue.gap - 1)
  pub enabled : g.unit.queue.enabled ≡ s.queue.enabled
  pub at_once : s.queue.enabled ≡ true → s.queue.gap ≡ 0 → 0 < length s.queue.waiting → IsSome g.event
  pub disabled : s.queue.enabled ≡ false → g.event ≡ None
  pub begins : IsSome g.event → g.unit.queue.gap ≡ 3
  pub runs_down : g.event ≡ None → g.unit.queue.gap ≡ s.queue.gap - 1

one_credit : (has : Bool) (word : ℕ) → credit_in (Some (if has then with_word credit_up word else credit_up)) ≡ 1
one_credit true word = refl
one_credit false word = refl

no_answer : (has : Bool) (word : ℕ) → done_in (Some (if has then with_word credit_up word else credit_up)) ≡ 0
no_answer true word = refl
no_answer false word = refl

kind_last : (last : Bool) → is_last (if last then Last else Word) ≡ last
kind_last true = refl
kind_last false = refl

works_passing : (part : Option Behaviour) (s : StreamState) (now : ℕ) (word : StreamWord) (rest : List StreamWord)
    → s.queue.enabled ≡ true → s.queue.gap ≡ 0 → s.queue.waiting ≡ word ∷ rest → Works part s now (passing part s now (Some word))
works_passing part s now word rest on free w =
    let reply : PartReply = reply_to part (s.passed ++ part_event now word ∷ []) in
    let one : credit_in (Some (reply_up reply)) ≡ 1 = one_credit reply.has reply.word in
    let longer : length s.queue.waiting ≡ length (word ∷ rest) = ap length w in
    record {
      order = ap (λ n. drop n s.queue.waiting) (sym one);
      one_at_most = omega (arith, one, longer);
      none_done = no_answer reply.has reply.word;
      passes = λ c. record { word = word; rest = rest; first = w; told = refl; asked = refl; replied = refl };
      rests = λ c. absurd (omega (arith, c, one));
      tells = ap (λ (last : Bool). s.passed ++ record { cycle = now; word = word.word; last = last } ∷ []) (sym (kind_last word.last));
      paced = λ e h. (refl, on);
      held = λ h. absurd (omega (arith, h, free));
      enabled = refl;
      at_once = λ e f h. refl;
      disabled = λ e. absurd (false≢true (sym e ∙ on));
      begins = λ h. refl;
      runs_down = λ e. absurd (cc);
    }

-- a word is passed where the unit is enabled, no gap is left and one waits
passes_where_free : (q : QueueState) (waiting : List StreamWord) → q.waiting ≡ waiting → q.enabled ≡ true → q.gap ≡ 0 → 0 < length waiting → next_word q ≡ None → ⊥
passes_where_free q [] w on free h none = omega (arith, h)
passes_where_free q (word ∷ rest) w on free h none =
    let next : next_word q ≡ Some word = rw (on, free, w) refl in cc

works_resting : (part : Option Behaviour) (s : StreamState) (now : ℕ) → next_word s.queue ≡ None → Works part s now (passing part s now None)
works_resting part s now none = record {
  order = refl;
  one_at_most = omega arith;
  none_done = refl;
  passes = λ c. absurd (omega (arith, c));
  rests = λ c. (refl, refl);
  tells = sym (append-nil s.passed);
  paced = λ e h. absurd (cc);
  held = λ h. (refl, refl);
  enabled = refl;
  at_once = λ on free h. absurd (passes_where_free s.queue s.queue.waiting refl on free h none);
  disabled = λ e. refl;
  begins = λ h. absurd (false≢true h);
  runs_down = λ e. refl;
}

pub worked_works : (part : Option Behaviour) (s : StreamState) (now : ℕ) → Works part s now (worked part s now)
worked_works part s now = by_next (next_of s.queue)
  where
    by_next : Next s.queue → Works part s now (worked part s now)
    by_next (Passes word rest on free w e) = subst (λ m. Works part s now (passing part s now m)) (sym e) (works_passing part s now word rest on free w)
    by_next (Rests e) = subst (λ m. Works part s now (passing part s now m)) (sym e) (works_resting part s now e)
