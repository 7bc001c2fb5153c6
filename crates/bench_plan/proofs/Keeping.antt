-- A call that reads by a plan and then tells what came of it keeps to the plan.
use Rattle.std.proofs.Common.{◌≡◌, ◌≢◌, ◌≤◌, ℕ, arith, inl, inr, List, [], Option, Some, None, Result, Ok, Err, refl, ap, sym, subst, ◌∙◌}
use Rattle.std.specs.Prelude.{◌⊎◌, IsTrue}
use Rattle.bench_shelf.specs.Held.{Held, Stays}
use Rattle.bench_shelf.proofs.Writing.{appended_none}
use Rattle.soc_words.specs.Causes.{Rose, AppendsBeginning}
use Rattle.bench_plan.specs.Answers.{Answer, Done, File, answer_in, done, ended, missed, refused}
use Rattle.bench_plan.specs.Calls.{Call, ChangesOnly, FailsWrite, Tells, TellsStop}
use Rattle.bench_plan.specs.Keeps.{Answers, CutsShort, IsFaultless, Keeps, MayMake, TellsWhole, answer_of}
use Rattle.bench_plan.specs.Readings.{Refusal, Reading}
use Rattle.bench_plan.specs.Steps.{Asks, Comes, Misses, ReadsBy, Results}
use Rattle.bench_plan.specs.declared.stop.Stop.{Stop}
use Rattle.bench_plan.specs.declared.stop.Stop.TheVariants.{Refused, Memory}
use Rattle.bench_plan.proofs.Disclosed.{asks_long, asks_none, comes_answer}

-- the same call, seen from before its reads
abbrev pub from : Held → Call → Call
from old c = record c { before = old }

-- a file that changed changed since then
changes_moved : (out : Option File) (old mid new : Held) → Stays old mid → ChangesOnly out mid new → ChangesOnly out old new
changes_moved None old mid new s c = (c.0 ∙ s.writes, λ q. c.1 q ∙ s.files q)
changes_moved (Some f) old mid new s c = λ q other. c q other ∙ s.files q

tells_from : (told : Answer) (old : Held) (c : Call) → Stays old c.before → c.before.read_faults ≡ old.read_faults → Tells told c → Tells told (from old c)
tells_from told old c s e t = record {
  disclosure = t.disclosure ∙ s.disclosure;
  reads = t.reads ∙ e;
  writes_later = subst (λ n. n ≤ c.after.write_faults) s.writes t.writes_later;
  sink_faults_later = t.sink_faults_later;
  statuses = t.statuses;
  beginning = t.beginning;
  whole = t.whole;
  made = t.made;
  cut_short = λ seven. elim (t.cut_short seven) [ inl failed ↦ inl (failed.0, failed.1, subst (λ n. Rose n c.after.write_faults) s.writes failed.2) | inr rest ↦ inr rest ];
  no_fault = λ zero. ((t.no_fault zero).0, (t.no_fault zero).1 ∙ s.writes, (t.no_fault zero).2);
  changes = changes_moved told.out old c.before c.after s t.changes;
}

-- what is told has one of three statuses
by_status : {G : Type 0} (told : Answer) (c : Call) → Tells told c → (c.status ≡ told.status → G) → (c.status ≡ 9 → G) → (told.status ≡ 0 → c.status ≡ 7 → G) → G
by_status told c t same nine seven = elim t.statuses [ inl e ↦ same e | inr other ↦ elim other [ inl e ↦ nine e | inr e ↦ seven e.0 e.1 ] ]

-- the statuses that mean a failure are no answer's
pub record IsPlain (status : ℕ) : Type 0 where
  pub no_miss : status ≢ 3
  pub no_failure : status ≢ 7
  pub no_want : status ≢ 9

apart : {m n k : ℕ} → n ≡ m → n ≡ k → (m ≡ k → ⊥) → ⊥
apart e f other = other (sym e ∙ f)

nine_three : ◌≡◌ {A = ℕ} 9 3 → ⊥
nine_three e = absurd (cc)

nine_seven : ◌≡◌ {A = ℕ} 9 7 → ⊥
nine_seven e = absurd (cc)

seven_three : ◌≡◌ {A = ℕ} 7 3 → ⊥
seven_three e = absurd (cc)

zero_nine : ◌≡◌ {A = ℕ} 0 9 → ⊥
zero_nine e = absurd (cc)

three_nine : ◌≡◌ {A = ℕ} 3 9 → ⊥
three_nine e = absurd (cc)

three_seven : ◌≡◌ {A = ℕ} 3 7 → ⊥
three_seven e = absurd (cc)

three_zero : ◌≡◌ {A = ℕ} 3 0 → ⊥
three_zero e = absurd (cc)

-- told whole, or memory was told
whole_from : (told : Answer) (c : Call) → Tells told c → (Rose c.sink_faults c.sink_faults_after → ⊥) → (FailsWrite told.out c → ⊥)
    → TellsWhole told c ⊎ ((c.status ≡ 9) × AppendsBeginning c.written c.written_after told.text)
whole_from told c t sink_faults writes = by_status told c t
    (λ e. inl (record { status = e; text = elim (t.whole e) [ inl all ↦ all | inr rose ↦ absurd (sink_faults rose) ]; files = (t.made e, t.changes) }))
    (λ e. inr (e, t.beginning))
    (λ zero e. absurd (elim (t.cut_short e) [ inl failed ↦ writes failed | inr rest ↦ sink_faults rest.0 ]))

pub answers_from : (told : Answer) (c : Call) → Tells told c → c.status ≢ 7 → c.status ≢ 9 → Answers told c
answers_from told c t seven nine =
    let same : c.status ≡ told.status = by_status told c t (λ e. e) (λ e. absurd (nine e)) (λ zero e. absurd (seven e)) in
    record {
      status = same;
      text = (t.beginning, λ faultless. elim (t.whole same) [ inl all ↦ all | inr rose ↦ absurd (faultless rose) ]);
      files = (t.made same, t.changes);
    }

why_cut : (told : Answer) (c : Call) → Tells told c → c.status ≡ 7 → Rose c.sink_faults c.sink_faults_after ⊎ FailsWrite told.out c
why_cut told c t seven = elim (t.cut_short seven) [ inl failed ↦ inr failed | inr rest ↦ inl rest.0 ]

cuts_from : (told : Answer) (c : Call) → Tells told c → told.status ≢ 7 → c.status ≡ 7 → CutsShort told c
cuts_from told c t other seven = record {
  done = by_status told c t (λ e. absurd (other (sym e ∙ seven))) (λ e. absurd (apart e seven nine_seven)) (λ zero e. zero);
  text = t.beginning;
  files = λ faultless. elim (t.cut_short seven) [ inl failed ↦ absurd (faultless failed.2) | inr rest ↦ (rest.1, t.changes) ];
  why = why_cut told c t seven;
}

-- no file is changed but the one that is made
only_made : (plan : Reading Done) (c : Call) (out : Option File) (q : List ℕ) → ChangesOnly out c.before c.after → ((f : File) → out ≡ Some f → q ≡ f.name → ⊥) → c.after.file q ≡ c.before.file q
only_made plan c None q changes other = changes.1 q
only_made plan c (Some f) q changes other = changes q (other f refl)

-- what the plan comes to was told
keeps_end : (plan : Reading Done) (c : Call) (end : Result Done Refusal) → Comes c.before plan end → IsPlain (ended end).status → Tells (ended end) c → Keeps plan c
keeps_end plan c end comes plain t = record {
  complete = λ discloses faultless. subst (λ a. TellsWhole a c ⊎ ((c.status ≡ 9) × AppendsBeginning c.written c.written_after a.text)) (sym (same discloses))
      (whole_from (ended end) c t faultless.sink_faults (λ failed. faultless.writes failed.0.name (made_here end comes failed.0 failed.1) failed.2));
  answered = λ discloses three seven nine. subst (λ a. Answers a c) (sym (same discloses)) (answers_from (ended end) c t seven nine);
  cut_short = λ discloses seven. subst (λ a. CutsShort a c) (sym (same discloses)) (cuts_from (ended end) c t plain.no_failure seven);
  refused = λ three. absurd (not_three three);
  want_of_memory = λ nine. inr (inl (record { end = end; comes = comes; text = t.beginning }));
  ran = λ three nine. record { end = end; comes = comes; tells = t };
  read = λ three. absurd (not_three three);
  write = λ seven. elim (why_cut (ended end) c t seven) [ inl rose ↦ inl rose | inr failed ↦ inr (failed.0.name, made_here end comes failed.0 failed.1, failed.2) ];
  done = λ zero. (t.reads, (t.no_fault zero).1, (t.no_fault zero).0);
  no_reads = λ none. t.reads;
  no_writes = λ none. unwritten end comes t.changes none;
  kept = λ zero seven nine q. kept_by end t zero seven nine q;
  others = λ q other. only_made plan c (ended end).out q t.changes (λ f e. made_by end comes f e q other);
  disclosure = t.disclosure;
  reads_later = omega (arith, t.reads);
  writes_later = t.writes_later;
  sink_faults_later = t.sink_faults_later;
}
  where
    same : IsTrue c.before.discloses → answer_of plan c ≡ ended end
    same discloses = comes_answer c.before plan end discloses comes

    made_here : (r : Result Done Refusal) → Comes c.before plan r → (f : File) → (ended r).out ≡ Some f → MayMake plan c f.name
    made_here (Ok d) k f e = (d, f, k, e, refl)
    made_here (Err refusal) k f e = absurd (cc)

    not_three : c.status ≡ 3 → ⊥
    not_three three = by_status (ended end) c t (λ e. plain.no_miss (sym e ∙ three)) (λ e. apart e three nine_three) (λ zero e. apart e three seven_three)

    kept_by : (r : Result Done Refusal) → Tells (ended r) c → c.status ≢ 0 → c.status ≢ 7 → c.status ≢ 9
        → (q : List ℕ) → c.after.file q ≡ c.before.file q
    kept_by (Ok d) t zero seven nine q = absurd (by_status (done d) c t zero nine (λ z e. seven e))
    kept_by (Err refusal) t zero seven nine q = t.changes.1 q

    unwritten_by : (d : Done) (out : Option File) → d.out ≡ out → Comes c.before plan (Ok d) → ChangesOnly out c.before c.after → ((q : List ℕ) → MayMake plan c q → ⊥)
        → c.after.write_faults ≡ c.before.write_faults
    unwritten_by d None e k changes none = changes.0
    unwritten_by d (Some f) e k changes none = absurd (none f.name (d, f, k, e, refl))

    unwritten : (r : Result Done Refusal) → Comes c.before plan r → ChangesOnly (ended r).out c.before c.after → ((q : List ℕ) → MayMake plan c q → ⊥)
        → c.after.write_faults ≡ c.before.write_faults
    unwritten (Ok d) k changes none = unwritten_by d d.out refl k changes none
    unwritten (Err refusal) k changes none = changes.0

    made_by : (r : Result Done Refusal) → Comes c.before plan r → (f : File) → (ended r).out ≡ Some f → (q : List ℕ) → (MayMake plan c q → ⊥) → q ≡ f.name → ⊥
    made_by (Ok d) k f e q other named = other (d, f, k, e, named)
    made_by (Err refusal) k f e q other named = absurd (cc)

-- a file isn't read
misses_answer : (old new : Held) (plan : Reading Done) (text : List ℕ) → Misses old new plan text → IsTrue old.discloses
    → (answer_in old.file plan ≡ missed text) ⊎ Rose old.read_faults new.read_faults
misses_answer old new plan text m discloses = elim m.why [
  | inl u ↦ elim u.1 [
    | inl there ↦ inl (asks_none old plan m.name m.limit discloses m.asked there.1 ∙ ap missed (sym u.0))
    | inr rose ↦ inr rose
  ]
  | inr u ↦ elim u.1 [
    | inl there ↦ inl (asks_long old plan m.name m.limit discloses m.asked there.1 ∙ ap missed (sym u.0))
    | inr rose ↦ inr rose.1
  ]
]

misses_read : (old new : Held) (plan : Reading Done) (text : List ℕ) → Misses old new plan text
    → Rose old.read_faults new.read_faults ⊎ (IsTrue old.discloses × ((answer_in old.file plan).status ≡ 3))
misses_read old new plan text m = elim m.why [
  | inl u ↦ elim u.1 [ inl there ↦ by_disclosed there.0 | inr rose ↦ inl rose ]
  | inr u ↦ elim u.1 [ inl there ↦ by_disclosed there.0 | inr rose ↦ inl rose.1 ]
]
  where
    by_disclosed : IsTrue old.discloses → Rose old.read_faults new.read_faults ⊎ (IsTrue old.discloses × ((answer_in old.file plan).status ≡ 3))
    by_disclosed discloses = elim (misses_answer old new plan text m discloses) [ inl e ↦ inr (discloses, ap (λ a. a.status) e) | inr rose ↦ inl rose ]

misses_later : (old mid new : Held) (plan : Reading Done) (text : List ℕ) → new.read_faults ≡ mid.read_faults → Misses old mid plan text → Misses old new plan text
misses_later old mid new plan text e m = record {
  name = m.name;
  limit = m.limit;
  asked = m.asked;
  why = elim m.why [
    | inl u ↦ inl (u.0, elim u.1 [ inl there ↦ inl there | inr rose ↦ inr (subst (λ n. Rose old.read_faults n) (sym e) rose) ])
    | inr u ↦ inr (u.0, elim u.1 [ inl there ↦ inl there | inr rose ↦ inr (rose.0, subst (λ n. Rose old.read_faults n) (sym e) rose.1) ])
  ];
}

keeps_miss : (plan : Reading Done) (old : Held) (c : Call) (text : List ℕ) → Stays old c.before → Misses old c.before plan text → Tells (missed text) c → Keeps plan (from old c)
keeps_miss plan old c text s before_misses t = record {
  complete = λ discloses faultless. elim (misses_answer old c.after plan text m discloses) [
    | inl e ↦ subst (λ a. TellsWhole a (from old c) ⊎ ((c.status ≡ 9) × AppendsBeginning c.written c.written_after a.text)) (sym e) (whole discloses faultless)
    | inr rose ↦ absurd (faultless.reads rose)
  ];
  answered = λ discloses three seven nine. absurd (by_status (missed text) c t three nine (λ z e. seven e));
  cut_short = λ discloses seven. absurd (not_seven seven);
  refused = λ three. record {
    line = text;
    misses = m;
    text = (answers_from (missed text) c t (λ e. apart three e three_seven) (λ e. apart three e three_nine)).text;
    writes = t.changes.0 ∙ s.writes;
    answers = misses_answer old c.after plan text m;
  };
  want_of_memory = λ nine. inr (inr (record { line = text; misses = m; text = t.beginning }));
  ran = λ three nine. absurd (by_status (missed text) c t three nine (λ z e. three_zero z));
  read = λ three. misses_read old c.after plan text m;
  write = λ seven. absurd (not_seven seven);
  done = λ zero. absurd (by_status (missed text) c t (λ e. apart e zero three_zero) (λ e. apart zero e zero_nine) (λ z e. three_zero z));
  no_reads = λ none. absurd (none m.name m.limit m.asked);
  no_writes = λ none. t.changes.0 ∙ s.writes;
  kept = λ zero seven nine q. t.changes.1 q ∙ s.files q;
  others = λ q other. t.changes.1 q ∙ s.files q;
  disclosure = t.disclosure ∙ s.disclosure;
  reads_later = omega (arith, t.reads, s.later);
  writes_later = omega (arith, t.writes_later, s.writes);
  sink_faults_later = t.sink_faults_later;
}
  where
    m : Misses old c.after plan text
    m = misses_later old c.before c.after plan text t.reads before_misses

    not_seven : c.status ≡ 7 → ⊥
    not_seven seven = by_status (missed text) c t (λ e. apart e seven three_seven) (λ e. apart e seven nine_seven) (λ z e. three_zero z)

    whole : IsTrue old.discloses → IsFaultless plan (from old c) → TellsWhole (missed text) (from old c) ⊎ ((c.status ≡ 9) × AppendsBeginning c.written c.written_after text)
    whole discloses faultless = by_status (missed text) c t
        (λ e. inl (record {
          status = e;
          text = elim (t.whole e) [ inl all ↦ all | inr rose ↦ absurd (faultless.sink_faults rose) ];
          files = (tt, (t.changes.0 ∙ s.writes, λ q. t.changes.1 q ∙ s.files q));
        }))
        (λ e. inr (e, t.beginning))
        (λ z e. absurd (three_zero z))

-- memory was told before anything was told
keeps_want : (plan : Reading Done) (c : Call) → c.status ≡ 9 → Stays c.before c.after → c.written_after ≡ c.written → c.sink_faults_after ≡ c.sink_faults
    → (c.after.read_faults ≡ c.before.read_faults) ⊎ ((name : List ℕ) × (limit : ℕ) × Asks c.before plan name limit) → Keeps plan c
keeps_want plan c nine s silent sink_faults reads = record {
  complete = λ discloses faultless. inr (nine, record { front = []; back = (answer_of plan c).text; whole = refl; new_is = silent ∙ appended_none c.written });
  answered = λ discloses three seven other. absurd (other nine);
  cut_short = λ discloses seven. absurd (apart nine seven nine_seven);
  refused = λ three. absurd (apart nine three nine_three);
  want_of_memory = λ e. inl silent;
  ran = λ three other. absurd (other nine);
  read = λ three. absurd (apart nine three nine_three);
  write = λ seven. absurd (apart nine seven nine_seven);
  done = λ zero. absurd (apart zero nine zero_nine);
  no_reads = λ none. elim reads [ inl e ↦ e | inr a ↦ absurd (none a.0 a.1 a.2) ];
  no_writes = λ none. s.writes;
  kept = λ zero seven other q. s.files q;
  others = λ q other. s.files q;
  disclosure = s.disclosure;
  reads_later = s.later;
  writes_later = omega (arith, s.writes);
  sink_faults_later = omega (arith, sink_faults);
}

-- a plan that was followed to its end
pub keeps_done : (plan : Reading Done) (old : Held) (c : Call) (d : Done) → ReadsBy old c.before plan (Ok d) → Tells (done d) c → Keeps plan (from old c)
keeps_done plan old c d r t =
    keeps_end plan (from old c) (Ok d) r.results.1 (record { no_miss = λ e. absurd (cc); no_failure = λ e. absurd (cc); no_want = λ e. absurd (cc) })
    (tells_from (done d) old c r.stays r.results.0 t)

-- a job that is refused
keeps_fault : (plan : Reading Done) (old : Held) (c : Call) (refusal : Refusal) → Stays old c.before → refusal.status ≢ 7 → refusal.status ≢ 9
    → Results old c.before plan (Err (Refused refusal)) → Tells (refused refusal) c → Keeps plan (from old c)
keeps_fault plan old c refusal s seven nine (inl r) t =
    keeps_end plan (from old c) (Err refusal) r.2 (record { no_miss = r.1; no_failure = seven; no_want = nine }) (tells_from (refused refusal) old c s r.0 t)
keeps_fault plan old c refusal s seven nine (inr m) t =
    keeps_miss plan old c refusal.text s m.1 (subst (λ n. Tells (record { status = n; text = refusal.text; out = None }) c) m.0 t)

-- why a job isn't done was told
pub keeps_stopped : (plan : Reading Done) (old new : Held) (written written_after : Option (List ℕ)) (sink_faults sink_faults_after status : ℕ) (stop : Stop) → ReadsBy old new plan (Err stop)
    → TellsStop stop written written_after sink_faults sink_faults_after status → Keeps plan (record {
      before = old;
      after = new;
      written = written;
      written_after = written_after;
      sink_faults = sink_faults;
      sink_faults_after = sink_faults_after;
      status = status;
    })
keeps_stopped plan old new written written_after sink_faults sink_faults_after status (Refused refusal) r t =
    keeps_fault plan old (record {
      before = new;
      after = new;
      written = written;
      written_after = written_after;
      sink_faults = sink_faults;
      sink_faults_after = sink_faults_after;
      status = status;
    }) refusal r.stays t.0 t.1 r.results (t.2 new)
keeps_stopped plan old new written written_after sink_faults sink_faults_after status Memory r t =
    keeps_want plan (record {
      before = old;
      after = new;
      written = written;
      written_after = written_after;
      sink_faults = sink_faults;
      sink_faults_after = sink_faults_after;
      status = status;
    }) t.0 r.stays t.1 t.2 r.results
