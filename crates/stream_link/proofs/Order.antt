-- What a cycle does to the words that wait.
use Rattle.std.proofs.Common.{◌≡◌, ◌<◌, ◌≤◌, ◌+◌, ◌-◌, ◌==◌, ℕ, Bool, true, false, List, ◌++◌, drop, length, Option, None, Some, refl, ap, subst, sym, ◌∙◌, arith, append-nil, length-append, length-drop}
use Rattle.std.specs.Prelude.{if◌then◌else◌, nat_lt}
use Rattle.std.proofs.lemmas.Bool.{eqb-true, false≢true}
use Rattle.std.proofs.lemmas.Bool.Decides.{nat_tests}
use Rattle.bench_parts.specs.Behave.{Behaviour}
use Rattle.chip_base.specs.Given.{Given}
use Rattle.chip_base.specs.Messages.{at_either_data, credit_in, done_up, entry_in, reset_in}
use Rattle.chip_base.specs.declared.message.Down.{Down}
use Rattle.chip_base.specs.declared.message.Down.TheVariants.{Reset, Set}
use Rattle.stream_link.proofs.Works.{worked_works}
use Rattle.stream_link.specs.Laws.{CountsWaiting, PassesAtOnce, PassesInOrder, enabled_with, waiting_with, words_in}
use Rattle.stream_link.specs.StreamCycle.{set_in, stream_cycle, worked}
use Rattle.stream_link.specs.StreamState.{QueueState, StreamState, queue_reset}
use Rattle.stream_link.specs.declared.word.StreamWord.{StreamWord}

-- the tests on a register, one after another
data Place (reg : ℕ) : Type 0 where
  Control : reg ≡ 0 → Place reg
  Datum : reg ≡ 4 → Place reg
  LastDatum : reg ≡ 8 → Place reg
  Other : (reg == 0) ≡ false → (reg == 4) ≡ false → (reg == 8) ≡ false → Place reg

place_by : (reg : ℕ) (a b c : Bool) → (reg == 0) ≡ a → (reg == 4) ≡ b → (reg == 8) ≡ c → Place reg
place_by reg true b c p q r = Control (eqb-true reg 0 p)
place_by reg false true c p q r = Datum (eqb-true reg 4 q)
place_by reg false false true p q r = LastDatum (eqb-true reg 8 r)
place_by reg false false false p q r = Other p q r

place_of : (reg : ℕ) → Place reg
place_of reg = place_by reg (reg == 0) (reg == 4) (reg == 8) refl refl refl

-- the queue after a message that is no Reset
abbrev pub after_message : QueueState → Option Down → QueueState
after_message q None = q
after_message q (Some Reset) = q
after_message q (Some (Set reg word)) = set_in q reg word

set_waits : (q : QueueState) (reg word : ℕ) (room : Bool) → Place reg → nat_lt (length q.waiting) 16 ≡ room
    → (set_in q reg word).waiting ≡ waiting_with q.waiting (Some (Set reg word))
set_waits q reg word true (Control e) r = rw (e, r) (sym (append-nil q.waiting))
set_waits q reg word false (Control e) r = rw (e, r) refl
set_waits q reg word true (Datum e) r = rw (e, r) refl
set_waits q reg word false (Datum e) r = rw (e, r) refl
set_waits q reg word true (LastDatum e) r = rw (e, r) refl
set_waits q reg word false (LastDatum e) r = rw (e, r) refl
set_waits q reg word true (Other a b c) r = rw (a, b, c, r) (sym (append-nil q.waiting))
set_waits q reg word false (Other a b c) r = rw (a, b, c, r) refl

set_gap : (q : QueueState) (reg word : ℕ) (room : Bool) → Place reg → nat_lt (length q.waiting) 16 ≡ room → (set_in q reg word).gap ≡ q.gap
set_gap q reg word room (Control e) r = rw e refl
set_gap q reg word true (Datum e) r = rw (e, r) refl
set_gap q reg word false (Datum e) r = rw (e, r) refl
set_gap q reg word true (LastDatum e) r = rw (e, r) refl
set_gap q reg word false (LastDatum e) r = rw (e, r) refl
set_gap q reg word room (Other a b c) r = rw (a, b, c) refl

set_enables : (q : QueueState) (reg word : ℕ) (room : Bool) → Place reg → nat_lt (length q.waiting) 16 ≡ room
    → (set_in q reg word).enabled ≡ enabled_with q.enabled (Some (Set reg word))
set_enables q reg word room (Control e) r = rw e refl
set_enables q reg word true (Datum e) r = rw (e, r) refl
set_enables q reg word false (Datum e) r = rw (e, r) refl
set_enables q reg word true (LastDatum e) r = rw (e, r) refl
set_enables q reg word false (LastDatum e) r = rw (e, r) refl
set_enables q reg word room (Other a b c) r = rw (a, b, c) refl

message_waits : (q : QueueState) (down : Option Down) → reset_in down ≡ 0 → (after_message q down).waiting ≡ waiting_with q.waiting down
message_waits q None r = refl
message_waits q (Some Reset) r = absurd (omega (arith, r))
message_waits q (Some (Set reg word)) r = set_waits q reg word _ (place_of reg) refl

-- a message that is no Reset leaves the gap
pub message_gap : (q : QueueState) (down : Option Down) → (after_message q down).gap ≡ q.gap
message_gap q None = refl
message_gap q (Some Reset) = refl
message_gap q (Some (Set reg word)) = set_gap q reg word _ (place_of reg) refl

message_enables : (q : QueueState) (down : Option Down) → reset_in down ≡ 0 → (after_message q down).enabled ≡ enabled_with q.enabled down
message_enables q None r = refl
message_enables q (Some Reset) r = absurd (omega (arith, r))
message_enables q (Some (Set reg word)) r = set_enables q reg word _ (place_of reg) refl

abbrev pub with_message : StreamState → Option Down → StreamState
with_message s down = record s { queue = after_message s.queue down }

-- a cycle without a Reset takes the message and works
pub cycle_works : (part : Option Behaviour) (s : StreamState) (now : ℕ) (down : Option Down) → reset_in down ≡ 0
    → stream_cycle part s now down ≡ worked part (with_message s down) now
unfolding stream_cycle
cycle_works part s now None r = refl
cycle_works part s now (Some Reset) r = absurd (omega (arith, r))
cycle_works part s now (Some (Set reg word)) r = refl

ordered : (part : Option Behaviour) (s : StreamState) (now : ℕ) (down : Option Down) → reset_in down ≡ 0 → PassesInOrder part s now down (worked part (with_message s down) now)
ordered part s now down r =
    let w = worked_works part (with_message s down) now in
    let e : (after_message s.queue down).waiting ≡ waiting_with s.queue.waiting down = message_waits s.queue down r in
    record {
      order = w.order ∙ ap (drop (credit_in (worked part (with_message s down) now).up)) e;
      passes = λ c.
          let p = w.passes c in
          record { word = p.word; rest = p.rest; first = sym e ∙ p.first; told = p.told; asked = p.asked; replied = p.replied };
      rests = w.rests;
    }

-- the first word that waits is passed, and the part is called with it
pub passes_in_order : (part : Option Behaviour) (s : StreamState) (now : ℕ) (down : Option Down) → PassesInOrder part s now down (stream_cycle part s now down)
unfolding stream_cycle
passes_in_order part s now None = ordered part s now None refl
passes_in_order part s now (Some Reset) = record { order = refl; passes = λ c. absurd (omega (arith, c)); rests = λ c. (refl, refl) }
passes_in_order part s now (Some (Set reg word)) = ordered part s now (Some (Set reg word)) refl

prompt : (part : Option Behaviour) (s : StreamState) (now : ℕ) (down : Option Down) → reset_in down ≡ 0 → PassesAtOnce s down (worked part (with_message s down) now)
prompt part s now down r =
    let w = worked_works part (with_message s down) now in
    let e : (after_message s.queue down).waiting ≡ waiting_with s.queue.waiting down = message_waits s.queue down r in
    let gap : (after_message s.queue down).gap ≡ s.queue.gap = message_gap s.queue down in
    let on : (after_message s.queue down).enabled ≡ enabled_with s.queue.enabled down = message_enables s.queue down r in
    record {
      enabled = w.enabled ∙ on;
      passes = λ enabled free h. w.at_once (on ∙ enabled) (gap ∙ free) (subst (λ waiting. 0 < length waiting) (sym e) h);
      disabled = λ enabled. w.disabled (on ∙ enabled);
      in_gap = λ h. (w.held (subst (λ n. 0 < n) (sym gap) h)).0;
      begins = w.begins;
      runs_down = λ x none. w.runs_down none ∙ ap (λ n. n - 1) gap;
      cleared = λ x. absurd (omega (arith, x, r));
    }

-- a word is passed in the first cycle that lets it
pub passes_at_once : (part : Option Behaviour) (s : StreamState) (now : ℕ) (down : Option Down) → PassesAtOnce s down (stream_cycle part s now down)
unfolding stream_cycle
passes_at_once part s now None = prompt part s now None refl
passes_at_once part s now (Some Reset) = record {
  enabled = refl;
  passes = λ enabled free h. absurd (omega (arith, h));
  disabled = λ enabled. refl;
  in_gap = λ h. refl;
  begins = λ h. absurd (false≢true h);
  runs_down = λ r none. absurd (omega (arith, r));
  cleared = λ r. refl;
}
passes_at_once part s now (Some (Set reg word)) = prompt part s now (Some (Set reg word)) refl

words_length : (reg word : ℕ) → Place reg → length (words_in (Some (Set reg word))) ≡ entry_in at_either_data (Some (Set reg word))
words_length reg word (Control e) = rw e refl
words_length reg word (Datum e) = rw e refl
words_length reg word (LastDatum e) = rw e refl
words_length reg word (Other a b c) = rw (b, c) refl

no_room : (n : ℕ) → nat_lt n 16 ≡ false → 16 ≤ n
no_room n h = grind (arith, nat_tests)

length_by : (waiting words : List StreamWord) (room : Bool) → nat_lt (length waiting) 16 ≡ room → length waiting + length words ≤ 16
    → length (if room then waiting ++ words else waiting) ≡ length waiting + length words
length_by waiting words true r l = length-append waiting words
length_by waiting words false r l = let full = no_room (length waiting) r in omega (arith, full, l)

length_with : (waiting : List StreamWord) (down : Option Down) → reset_in down ≡ 0 → length waiting + entry_in at_either_data down ≤ 16
    → length (waiting_with waiting down) ≡ length waiting + entry_in at_either_data down
length_with waiting None r l = omega arith
length_with waiting (Some Reset) r l = absurd (omega (arith, r))
length_with waiting (Some (Set reg word)) r l =
    let n = words_length reg word (place_of reg) in
    length_by waiting (words_in (Some (Set reg word))) _ refl (subst (λ k. length waiting + k ≤ 16) (sym n) l) ∙ ap (λ k. length waiting + k) n

counted : (waiting rest : List StreamWord) (credit : ℕ) → rest ≡ drop credit waiting → credit ≤ length waiting → length rest + credit ≡ length waiting
counted waiting rest credit e l = let n : length rest ≡ length waiting - credit = ap length e ∙ length-drop credit waiting in omega (arith, n, l)

counts : (part : Option Behaviour) (s : StreamState) (now : ℕ) (down : Option Down) → reset_in down ≡ 0 → CountsWaiting s down (worked part (with_message s down) now)
counts part s now down r =
    let w = worked_works part (with_message s down) now in
    record {
      entries = λ x l.
          let n = counted (after_message s.queue down).waiting (worked part (with_message s down) now).unit.queue.waiting (credit_in (worked part (with_message s down) now).up)
          w.order w.one_at_most in
          let m = ap length (message_waits s.queue down r) ∙ length_with s.queue.waiting down r l in
          n ∙ m;
      after_reset = λ x. absurd (omega (arith, x, r));
      answers = w.none_done ∙ sym r;
    }

-- a word that found room is in the unit until its credit goes up
pub counts_waiting : (part : Option Behaviour) (s : StreamState) (now : ℕ) (down : Option Down) → CountsWaiting s down (stream_cycle part s now down)
unfolding stream_cycle
counts_waiting part s now None = counts part s now None refl
counts_waiting part s now (Some Reset) = record { entries = λ r l. absurd (omega (arith, r)); after_reset = λ r. refl; answers = refl }
counts_waiting part s now (Some (Set reg word)) = counts part s now (Some (Set reg word)) refl

-- what a cycle gives, by its message
module _ (part : Option Behaviour) (s : StreamState) (now : ℕ) (down : Option Down) where
  pub given_none : down ≡ None → worked part s now ≡ stream_cycle part s now down
  unfolding stream_cycle
  given_none e = ap (stream_cycle part s now) (sym e)

  pub given_reset : down ≡ Some Reset → (let given : Given StreamState = record { unit = record s { queue = queue_reset }; up = Some done_up; event = None } in given ≡ stream_cycle part s now down)
  unfolding stream_cycle
  given_reset e = ap (stream_cycle part s now) (sym e)

  pub given_set : (reg word : ℕ) → down ≡ Some (Set reg word) → worked part (record s { queue = set_in s.queue reg word }) now ≡ stream_cycle part s now down
  unfolding stream_cycle
  given_set reg word e = ap (stream_cycle part s now) (sym e)
