-- What a plan may come to.
use Rattle.std.proofs.Common.{◌≡◌, ◌≢◌, ℕ, inl, inr, Bool, true, false, List, [], Option, Some, None, Result, Ok, Err, refl, sym, subst, ◌∙◌}
use Rattle.std.specs.Prelude.{◌⊎◌, ◌==◌, IsTrue}
use Rattle.std.proofs.lemmas.Bool.Decides.{Decides-eqb}
use Rattle.bench_shelf.specs.Held.{Held}
use Rattle.bench_shelf.proofs.Writing.{appended_none}
use Rattle.soc_words.specs.Causes.{Rose, AppendsBeginning}
use Rattle.bench_plan.specs.Answers.{Done, File, ended, refused}
use Rattle.bench_plan.specs.Calls.{Call, Tells}
use Rattle.bench_plan.specs.Ends.{Ends, EndsBoth}
use Rattle.bench_plan.specs.Keeps.{Keeps, MayMake, TellsWhole, answer_of}
use Rattle.bench_plan.specs.Readings.{Refusal, Reading, gives, refuses, asks, followed}
use Rattle.bench_plan.specs.Steps.{Comes}

pub comes_ends : {A : Type 0} (P : A → Type 0) (Q : Refusal → Type 0) (h : Held) (p : Reading A) (r : Result A Refusal) → Ends P Q p → Comes h p r → EndsBoth P Q r
comes_ends P Q h (gives a) r e c = subst (EndsBoth P Q) (sym c) e
comes_ends P Q h (refuses refusal) r e c = subst (EndsBoth P Q) (sym c) e
comes_ends P Q h (asks name limit next) r e c = comes_ends P Q h (next c.0) r (e c.0) c.2

-- a weaker claim
pub ends_weaker : {A : Type 0} (P R : A → Type 0) (Q S : Refusal → Type 0) (p : Reading A) → ((a : A) → P a → R a) → ((f : Refusal) → Q f → S f) → Ends P Q p → Ends R S p
ends_weaker P R Q S (gives a) given refusal e = given a e
ends_weaker P R Q S (refuses f) given refusal e = refusal f e
ends_weaker P R Q S (asks name limit next) given refusal e = λ b. ends_weaker P R Q S (next b) given refusal (e b)

-- where one reading is followed by another, one of both is refused, or each gives its value
pub comes_split : {A B : Type 0} (h : Held) (p : Reading A) (f : A → Reading B) (r : Result B Refusal) → Comes h (followed p f) r
    → ((refusal : Refusal) × (r ≡ Err refusal) × Comes h p (Err refusal)) ⊎ ((a : A) × Comes h p (Ok a) × Comes h (f a) r)
comes_split h (gives a) f r c = inr (a, refl, c)
comes_split h (refuses refusal) f r c = inl (refusal, c, refl)
comes_split h (asks name limit next) f r c = elim (comes_split h (next c.0) f r c.2) [
  | inl x ↦ inl (x.0, x.1, (c.0, c.1, x.2))
  | inr x ↦ inr (x.0, (c.0, c.1, x.1), x.2)
]

pub ends_then : {A B : Type 0} (P : A → Type 0) (R : B → Type 0) (Q : Refusal → Type 0) (p : Reading A) (f : A → Reading B) → Ends P Q p → ((a : A) → P a → Ends R Q (f a))
    → Ends R Q (followed p f)
ends_then P R Q (gives a) f e next = next a e
ends_then P R Q (refuses refusal) f e next = e
ends_then P R Q (asks name limit rest) f e next = λ b. ends_then P R Q (rest b) f (e b) next

ok_not_err : {d : Done} {refusal : Refusal} → ◌≡◌ {A = Result Done Refusal} (Ok d) (Err refusal) → ⊥
ok_not_err e = absurd (cc)

none_some : {out : Option File} {f : File} → out ≡ None → out ≡ Some f → ⊥
none_some a b = absurd (cc)

makes_none : (Q : Refusal → Type 0) (plan : Reading Done) (c : Call) → Ends (λ d. d.out ≡ None) Q plan → (q : List ℕ) → MayMake plan c q → ⊥
makes_none Q plan c e q m = none_some (comes_ends (λ d. d.out ≡ None) Q c.before plan (Ok m.0) e m.2) m.3

-- a plan that makes no file changes none
pub keeps_still : (Q : Refusal → Type 0) (plan : Reading Done) (c : Call) → Ends (λ d. d.out ≡ None) Q plan → Keeps plan c
    → (c.after.write_faults ≡ c.before.write_faults) × ((q : List ℕ) → c.after.file q ≡ c.before.file q)
keeps_still Q plan c e k = (k.no_writes (makes_none Q plan c e), λ q. k.others q (makes_none Q plan c e q))

-- what makes no file fails by the sink alone
pub keeps_sink : (Q : Refusal → Type 0) (plan : Reading Done) (c : Call) → Ends (λ d. d.out ≡ None) Q plan → Keeps plan c → c.status ≡ 7 → Rose c.sink_faults c.sink_faults_after
keeps_sink Q plan c e k seven = elim (k.write seven) [ inl rose ↦ rose | inr made ↦ absurd (makes_none Q plan c e made.0 made.1) ]

-- and is told whole where no read and no put fails
pub keeps_whole : (Q : Refusal → Type 0) (plan : Reading Done) (c : Call) → Ends (λ d. d.out ≡ None) Q plan → Keeps plan c → IsTrue c.before.discloses
    → (Rose c.before.read_faults c.after.read_faults → ⊥) → (Rose c.sink_faults c.sink_faults_after → ⊥)
    → TellsWhole (answer_of plan c) c ⊎ ((c.status ≡ 9) × AppendsBeginning c.written c.written_after (answer_of plan c).text)
keeps_whole Q plan c e k discloses reads sink_faults =
    k.complete discloses (record { reads = reads; writes = λ name may rose. makes_none Q plan c e name may; sink_faults = sink_faults })

-- a plan that refuses at once
pub keeps_refuses : (refusal : Refusal) (c : Call) → refusal.status ≢ 0 → refusal.status ≢ 3 → refusal.status ≢ 7 → refusal.status ≢ 9 → Keeps (refuses refusal) c
    → (c.after.read_faults ≡ c.before.read_faults) × Tells (refused refusal) c
keeps_refuses refusal c zero three seven nine k = (reads, by_status)
  where
    reads : c.after.read_faults ≡ c.before.read_faults
    reads = k.no_reads (λ name limit a. a)

    still : (c.after.write_faults ≡ c.before.write_faults) × ((q : List ℕ) → c.after.file q ≡ c.before.file q)
    still = keeps_still (λ f. Unit {0}) (refuses refusal) c tt k

    not_missed : c.status ≡ 3 → ⊥
    not_missed e = (k.refused e).misses.asked

    tells_other : c.status ≢ 9 → Tells (refused refusal) c
    tells_other other = let r = k.ran not_missed other in subst (λ w. Tells (ended w) c) r.comes r.tells

    begins : c.status ≡ 9 → AppendsBeginning c.written c.written_after refusal.text
    begins nine = elim (k.want_of_memory nine) [
      | inl silent ↦ record { front = []; back = refusal.text; whole = refl; new_is = silent ∙ appended_none c.written }
      | inr other ↦ elim other [
        | inl b ↦ subst (λ w. AppendsBeginning c.written c.written_after (ended w).text) b.comes b.text
        | inr b ↦ absurd b.misses.asked
      ]
    ]

    wanting : c.status ≡ 9 → Tells (refused refusal) c
    wanting e = record {
      disclosure = k.disclosure;
      reads = reads;
      writes_later = k.writes_later;
      sink_faults_later = k.sink_faults_later;
      statuses = inr (inl e);
      beginning = begins e;
      whole = λ same. absurd (nine (sym same ∙ e));
      made = λ same. tt;
      cut_short = λ failed. absurd (nine_seven (sym e ∙ failed));
      no_fault = λ none. absurd (nine_zero (sym e ∙ none));
      changes = still;
    }
      where
        nine_seven : ◌≡◌ {A = ℕ} 9 7 → ⊥
        nine_seven x = absurd (cc)

        nine_zero : ◌≡◌ {A = ℕ} 9 0 → ⊥
        nine_zero x = absurd (cc)

    by_test : (b : Bool) → (c.status == 9) ≡ b → Tells (refused refusal) c
    by_test true e = wanting ((Decides-eqb c.status 9).0 e)
    by_test false e = tells_other (λ same. true_false (sym ((Decides-eqb c.status 9).1 same) ∙ e))
      where
        true_false : true ≡ false → ⊥
        true_false x = absurd (cc)

    by_status : Tells (refused refusal) c
    by_status = by_test (c.status == 9) refl
