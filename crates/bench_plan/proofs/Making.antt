-- A file that isn't made: what is told then.
use Rattle.std.proofs.Common.{◌≡◌, ℕ, arith, inl, inr, List, [], Option, None, Some, refl, subst}
use Rattle.std.specs.Prelude.{IsTrue}
use Rattle.bench_shelf.specs.Held.{Held, StaysBut}
use Rattle.bench_shelf.proofs.Writing.{appended_none}
use Rattle.soc_words.specs.Causes.{Rose}
use Rattle.bench_plan.specs.Answers.{File, done}
use Rattle.bench_plan.specs.Calls.{Call, Tells, TellsText}

abbrev pub unmade : Held → Held → Option (List ℕ) → ℕ → ℕ → Call
unmade old new written sink_faults status =
    record { before = old; after = new; written = written; written_after = written; sink_faults = sink_faults; sink_faults_after = sink_faults; status = status }

-- the write of the file failed
pub made_failed : (f : File) (text : List ℕ) (old new : Held) (written : Option (List ℕ)) (sink_faults : ℕ) → StaysBut f.name old new → Rose old.write_faults new.write_faults
    → Tells (done (record { text = text; out = Some f })) (unmade old new written sink_faults 7)
made_failed f text old new written sink_faults s rose = record {
  disclosure = s.disclosure;
  reads = s.reads;
  writes_later = s.later;
  sink_faults_later = omega arith;
  statuses = inr (inr (refl, refl));
  beginning = record { front = []; back = text; whole = refl; new_is = appended_none written };
  whole = λ e. absurd (cc);
  made = λ e. absurd (cc);
  cut_short = λ e. inl (f, refl, rose);
  no_fault = λ e. absurd (cc);
  changes = s.others;
}

-- memory was wanted for the write
pub made_wanting : (f : File) (text : List ℕ) (old new : Held) (written : Option (List ℕ)) (sink_faults : ℕ) → StaysBut f.name old new
    → Tells (done (record { text = text; out = Some f })) (unmade old new written sink_faults 9)
made_wanting f text old new written sink_faults s = record {
  disclosure = s.disclosure;
  reads = s.reads;
  writes_later = s.later;
  sink_faults_later = omega arith;
  statuses = inr (inl refl);
  beginning = record { front = []; back = text; whole = refl; new_is = appended_none written };
  whole = λ e. absurd (cc);
  made = λ e. absurd (cc);
  cut_short = λ e. absurd (cc);
  no_fault = λ e. absurd (cc);
  changes = s.others;
}

none_some : {f : File} → ◌≡◌ {A = Option File} None (Some f) → ⊥
none_some e = absurd (cc)

-- the file was made, and then a line was told
pub made_told : (f : File) (text : List ℕ) (old new : Held) (written written_after : Option (List ℕ)) (sink_faults sink_faults_after status : ℕ) → StaysBut f.name old new
    → new.write_faults ≡ old.write_faults → (IsTrue old.discloses → new.file f.name ≡ Some f.bytes)
    → TellsText (done (record { text = text; out = None })) written written_after sink_faults sink_faults_after status
    → Tells (done (record { text = text; out = Some f })) (record {
      before = old;
      after = new;
      written = written;
      written_after = written_after;
      sink_faults = sink_faults;
      sink_faults_after = sink_faults_after;
      status = status;
    })
made_told f text old new written written_after sink_faults sink_faults_after status s quiet made told =
    let t = told new in
    let here : IsTrue new.discloses → new.file f.name ≡ Some f.bytes = λ d. made (subst (λ b. IsTrue b) s.disclosure d) in
    record {
      disclosure = s.disclosure;
      reads = s.reads;
      writes_later = s.later;
      sink_faults_later = t.sink_faults_later;
      statuses = t.statuses;
      beginning = t.beginning;
      whole = t.whole;
      made = λ e. here;
      cut_short = λ seven. elim (t.cut_short seven) [ inl failed ↦ absurd (none_some failed.1) | inr rest ↦ inr (rest.0, here) ];
      no_fault = λ zero. ((t.no_fault zero).0, quiet, (t.no_fault zero).2);
      changes = s.others;
    }
