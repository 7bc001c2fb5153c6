-- Readings one after another.
use Rattle.std.proofs.Common.{◌≡◌, ◌≢◌, ◌<◌, ◌≤◌, ℕ, arith, inl, inr, Bool, true, false, List, length, Some, Result, Ok, Err, refl, ap, sym, subst, ◌∙◌}
use Rattle.std.specs.Prelude.{◌⊎◌, IsTrue, IsErrAnd}
use Rattle.bench_shelf.specs.Held.{Held, Stays}
use Rattle.soc_words.specs.Causes.{Rose}
use Rattle.bench_plan.specs.Answers.{long_text, unread_text}
use Rattle.bench_plan.specs.Readings.{Refusal, Reading, gives, refuses, asks, followed, asking, judged}
use Rattle.bench_plan.specs.Steps.{Asks, Comes, IsRefusal, IsRead, IsTooLong, IsUnread, Judges, Misses, ReadsBy, Results, mapped}
use Rattle.bench_plan.specs.declared.stop.Stop.{Stop}
use Rattle.bench_plan.specs.declared.stop.Stop.TheVariants.{Refused, Memory}

ok_same : {A : Type 0} {a b : A} → ◌≡◌ {A = Result A Refusal} (Ok a) (Ok b) → a ≡ b
ok_same e = cc

-- a shelf that discloses the same files
read_moved : {old mid : Held} (name : List ℕ) (limit : ℕ) (bytes : List ℕ) → Stays old mid → IsRead mid name limit bytes → IsRead old name limit bytes
read_moved name limit bytes s r = (r.0, λ t. sym (s.files name) ∙ r.1 (subst IsTrue (sym s.disclosure) t))

pub comes_moved : {A : Type 0} {old mid : Held} (p : Reading A) (r : Result A Refusal) → Stays old mid → Comes mid p r → Comes old p r
comes_moved (gives a) r s c = c
comes_moved (refuses refusal) r s c = c
comes_moved (asks name limit next) r s c = (c.0, read_moved name limit c.0 s c.1, comes_moved (next c.0) r s c.2)

asks_moved : {A : Type 0} {old mid : Held} (p : Reading A) (name : List ℕ) (limit : ℕ) → Stays old mid → Asks mid p name limit → Asks old p name limit
asks_moved (gives a) name limit s c = c
asks_moved (refuses refusal) name limit s c = c
asks_moved (asks n l next) name limit s (inl here) = inl here
asks_moved (asks n l next) name limit s (inr c) = inr (c.0, read_moved n l c.0 s c.1, asks_moved (next c.0) name limit s c.2)

-- one reading, and then the next one
pub comes_then : {A B : Type 0} (h : Held) (p : Reading A) (f : A → Reading B) (a : A) (r : Result B Refusal) → Comes h p (Ok a) → Comes h (f a) r → Comes h (followed p f) r
comes_then h (gives b) f a r c d = subst (λ x. Comes h (f x) r) (ok_same c) d
comes_then h (refuses refusal) f a r c d = absurd (cc)
comes_then h (asks name limit next) f a r c d = (c.0, c.1, comes_then h (next c.0) f a r c.2 d)

comes_stop : {A B : Type 0} (h : Held) (p : Reading A) (f : A → Reading B) (refusal : Refusal) → Comes h p (Err refusal) → Comes h (followed p f) (Err refusal)
comes_stop h (gives b) f refusal c = absurd (cc)
comes_stop h (refuses e) f refusal c = cc
comes_stop h (asks name limit next) f refusal c = (c.0, c.1, comes_stop h (next c.0) f refusal c.2)

asks_then : {A B : Type 0} (h : Held) (p : Reading A) (f : A → Reading B) (a : A) (name : List ℕ) (limit : ℕ) → Comes h p (Ok a) → Asks h (f a) name limit → Asks h (followed p f) name limit
asks_then h (gives b) f a name limit c d = subst (λ x. Asks h (f x) name limit) (ok_same c) d
asks_then h (refuses refusal) f a name limit c d = absurd (cc)
asks_then h (asks n l next) f a name limit c d = inr (c.0, c.1, asks_then h (next c.0) f a name limit c.2 d)

asks_stop : {A B : Type 0} (h : Held) (p : Reading A) (f : A → Reading B) (name : List ℕ) (limit : ℕ) → Asks h p name limit → Asks h (followed p f) name limit
asks_stop h (gives b) f name limit d = absurd d
asks_stop h (refuses refusal) f name limit d = absurd d
asks_stop h (asks n l next) f name limit (inl here) = inl here
asks_stop h (asks n l next) f name limit (inr d) = inr (d.0, d.1, asks_stop h (next d.0) f name limit d.2)

-- why a file isn't read, after reads without a refusal
unread_moved : (old mid new : Held) (name : List ℕ) → Stays old mid → mid.read_faults ≡ old.read_faults → IsUnread mid new name → IsUnread old new name
unread_moved old mid new name s e (inl u) = inl (subst IsTrue s.disclosure u.0, sym (s.files name) ∙ u.1)
unread_moved old mid new name s e (inr rose) = inr (subst (λ n. Rose n new.read_faults) e rose)

too_long_moved : (old mid new : Held) (name : List ℕ) (limit : ℕ) → Stays old mid → mid.read_faults ≡ old.read_faults → IsTooLong mid new name limit → IsTooLong old new name limit
too_long_moved old mid new name limit s e (inl u) = inl (subst IsTrue s.disclosure u.0, (u.1.0, sym (s.files name) ∙ u.1.1, u.1.2))
too_long_moved old mid new name limit s e (inr rose) = inr (sym s.disclosure ∙ rose.0, subst (λ n. Rose n new.read_faults) e rose.1)

pub stays_then : {old mid new : Held} → Stays old mid → Stays mid new → Stays old new
stays_then s t = record {
  disclosure = t.disclosure ∙ s.disclosure;
  files = λ q. t.files q ∙ s.files q;
  writes = t.writes ∙ s.writes;
  later = omega (arith, s.later, t.later);
}

pub stays_same : (h : Held) → Stays h h
stays_same h = record { disclosure = refl; files = λ q. refl; writes = refl; later = omega arith }

misses_then : {A B : Type 0} (old mid new : Held) (p : Reading A) (f : A → Reading B) (a : A) (text : List ℕ) → Stays old mid → mid.read_faults ≡ old.read_faults
    → Comes old p (Ok a) → Misses mid new (f a) text → Misses old new (followed p f) text
misses_then old mid new p f a text s e c m = record {
  name = m.name;
  limit = m.limit;
  asked = asks_then old p f a m.name m.limit c (asks_moved (f a) m.name m.limit s m.asked);
  why = elim m.why [
    | inl u ↦ inl (u.0, unread_moved old mid new m.name s e u.1)
    | inr u ↦ inr (u.0, too_long_moved old mid new m.name m.limit s e u.1)
  ];
}

misses_stop : {A B : Type 0} {old new : Held} (p : Reading A) (f : A → Reading B) (text : List ℕ) → Misses old new p text → Misses old new (followed p f) text
misses_stop {old = old} p f text m = record { name = m.name; limit = m.limit; asked = asks_stop old p f m.name m.limit m.asked; why = m.why }

-- what was read, and then what comes next
results_then : {A B : Type 0} (old mid new : Held) (p : Reading A) (f : A → Reading B) (a : A) (r : Result B Stop) → Stays old mid
    → Results old mid p (Ok a) → Results mid new (f a) r → Results old new (followed p f) r
results_then old mid new p f a (Ok b) s x y = (y.0 ∙ x.0, comes_then old p f a (Ok b) x.1 (comes_moved (f a) (Ok b) s y.1))
results_then old mid new p f a (Err (Refused refusal)) s x (inl y) = inl (y.0 ∙ x.0, y.1, comes_then old p f a (Err refusal) x.1 (comes_moved (f a) (Err refusal) s y.2))
results_then old mid new p f a (Err (Refused refusal)) s x (inr y) = inr (y.0, misses_then old mid new p f a refusal.text s x.0 x.1 y.1)
results_then old mid new p f a (Err Memory) s x (inl y) = inl (y ∙ x.0)
results_then old mid new p f a (Err Memory) s x (inr y) = inr (y.0, y.1, asks_then old p f a y.0 y.1 x.1 (asks_moved (f a) y.0 y.1 s y.2))

results_stop : {A B : Type 0} (old new : Held) (p : Reading A) (f : A → Reading B) (stop : Stop)
    → Results old new p (Err stop) → Results old new (followed p f) (Err stop)
results_stop old new p f (Refused refusal) (inl y) = inl (y.0, y.1, comes_stop old p f refusal y.2)
results_stop old new p f (Refused refusal) (inr y) = inr (y.0, misses_stop p f refusal.text y.1)
results_stop old new p f Memory (inl y) = inl y
results_stop old new p f Memory (inr y) = inr (y.0, y.1, asks_stop old p f y.0 y.1 y.2)

-- a reading, and then another
pub reads_then : {A B : Type 0} {old mid new : Held} {p : Reading A} {a : A} (f : A → Reading B) (r : Result B Stop)
    → ReadsBy old mid p (Ok a) → ReadsBy mid new (f a) r → ReadsBy old new (followed p f) r
reads_then {old = old} {mid = mid} {new = new} {p = p} {a = a} f r x y = record { stays = stays_then x.stays y.stays; results = results_then old mid new p f a r x.stays x.results y.results }

-- a reading that is stopped
pub reads_stop : {A B : Type 0} {old new : Held} {p : Reading A} {stop : Stop} (f : A → Reading B) → ReadsBy old new p (Err stop) → ReadsBy old new (followed p f) (Err stop)
reads_stop {old = old} {new = new} {p = p} {stop = stop} f x = record { stays = x.stays; results = results_stop old new p f stop x.results }

-- the exit of a `?`
pub reads_exit : {A B : Type 0} {old new : Held} {p : Reading A} {stop : Stop} (f : A → Reading B) (r : Result B Stop) → IsErrAnd r (λ d. d ≡ stop)
    → ReadsBy old new p (Err stop) → ReadsBy old new (followed p f) r
reads_exit f (Err d) h x = rw h (reads_stop f x)
reads_exit f (Ok b) h x = absurd h

pub reads_exit_as : {A B C : Type 0} {old new : Held} {p : Reading A} {stop : Stop} (f : A → Reading B) (g : C → B) (r : Result C Stop) → IsErrAnd r (λ d. d ≡ stop)
    → ReadsBy old new p (Err stop) → ReadsBy old new (followed p f) (mapped g r)
reads_exit_as f g (Err d) h x = rw h (reads_stop f x)
reads_exit_as f g (Ok b) h x = absurd h

-- nothing is read
pub reads_none : {A : Type 0} (h : Held) (a : A) → ReadsBy h h (gives a) (Ok a)
reads_none h a = record { stays = stays_same h; results = (refl, refl) }

pub reads_gives : {A : Type 0} (h : Held) (a b : A) → b ≡ a → ReadsBy h h (gives a) (Ok b)
reads_gives h a b e = rw e (reads_none h a)

-- what was judged without a file
pub reads_judged : {A : Type 0} (h : Held) (means : Result A Refusal) (r : Result A Stop) → Judges means r → ReadsBy h h (judged means) r
reads_judged h means (Ok a) j = rw j (reads_none h a)
reads_judged h means (Err (Refused refusal)) j = rw j.1 (record { stays = stays_same h; results = inl (refl, j.0, refl) })
reads_judged h means (Err Memory) j = record { stays = stays_same h; results = inl refl }

-- a refusal by a judge
pub judges_refused : {A : Type 0} (means : Result A Refusal) (refusal : Refusal) (stop : Stop) → refusal.status ≢ 3 → means ≡ Err refusal → IsRefusal refusal stop → Judges means (Err stop)
judges_refused means refusal (Refused f) three is r = (λ e. three (ap (λ x. x.status) (sym r) ∙ e), is ∙ ap Err (sym r))
judges_refused means refusal Memory three is r = tt

-- a refusal before anything is read
pub reads_refused : {A : Type 0} (h : Held) (refusal : Refusal) (stop : Stop) → refusal.status ≢ 3 → IsRefusal refusal stop → ReadsBy {A = A} h h (refuses refusal) (Err stop)
reads_refused h refusal (Refused f) three r = record { stays = stays_same h; results = inl (refl, λ e. three (ap (λ x. x.status) (sym r) ∙ e), ap Err r) }
reads_refused h refusal Memory three r = record { stays = stays_same h; results = inl refl }

-- want of memory before anything is read
pub reads_want : {A : Type 0} (h : Held) (p : Reading A) → ReadsBy h h p (Err Memory)
reads_want h p = record { stays = stays_same h; results = inl refl }

-- the exit of a `?` on want of memory
pub reads_want_exit : {A C : Type 0} (h : Held) (p : Reading A) (g : C → A) (r : Result C Stop) → IsErrAnd r (λ d. d ≡ Memory) → ReadsBy h h p (mapped g r)
reads_want_exit h p g (Err d) e = rw e (reads_want h p)
reads_want_exit h p g (Ok c) e = absurd e

-- a file that is read and then judged
pub reads_meant : {A : Type 0} {old new : Held} {p : Reading (List ℕ)} {bytes : List ℕ} (means : List ℕ → Result A Refusal) (r : Result A Stop)
    → ReadsBy old new p (Ok bytes) → Judges (means bytes) r → ReadsBy old new (followed p (λ b. judged (means b))) r
reads_meant {new = new} {bytes = bytes} means r x j = reads_then (λ b. judged (means b)) r x (reads_judged new (means bytes) r j)

-- a file that is read
pub reads_file : {old new : Held} (name : List ℕ) (limit : ℕ) (bytes : List ℕ) → Stays old new → new.read_faults ≡ old.read_faults → length bytes ≤ limit
    → (IsTrue old.discloses → old.file name ≡ Some bytes) → ReadsBy old new (asking name limit) (Ok bytes)
reads_file name limit bytes s e le discloses = record { stays = s; results = (e, (bytes, (le, discloses), refl)) }

-- a file that isn't read
pub reads_unread : {old new : Held} (name : List ℕ) (limit : ℕ) (stop : Stop) → Stays old new → IsRefusal (record { status = 3; text = unread_text name }) stop → IsUnread old new name
    → ReadsBy old new (asking name limit) (Err stop)
reads_unread name limit (Refused refusal) s m u =
    record { stays = s; results = inr (ap (λ f. f.status) m, record { name = name; limit = limit; asked = inl (refl, refl); why = inl (ap (λ f. f.text) m, u) }) }
reads_unread name limit Memory s m u = record { stays = s; results = inr (name, limit, inl (refl, refl)) }

pub reads_too_long : {old new : Held} (name : List ℕ) (limit : ℕ) (stop : Stop) → Stays old new → IsRefusal (record { status = 3; text = long_text name }) stop → IsTooLong old new name limit
    → ReadsBy old new (asking name limit) (Err stop)
reads_too_long name limit (Refused refusal) s m u =
    record { stays = s; results = inr (ap (λ f. f.status) m, record { name = name; limit = limit; asked = inl (refl, refl); why = inr (ap (λ f. f.text) m, u) }) }
reads_too_long name limit Memory s m u = record { stays = s; results = inr (name, limit, inl (refl, refl)) }

pub reads_wanting : {old new : Held} (name : List ℕ) (limit : ℕ) → Stays old new → ReadsBy {A = List ℕ} old new (asking name limit) (Err Memory)
reads_wanting name limit s = record { stays = s; results = inr (name, limit, inl (refl, refl)) }

-- a file is too long, of a shelf that discloses its files or of one that doesn't
pub too_long : (old new : Held) (name : List ℕ) (limit : ℕ) → (IsTrue old.discloses → ((bytes : List ℕ) × (old.file name ≡ Some bytes) × (limit < length bytes)) × (new.read_faults ≡ old.read_faults))
    → ((old.discloses ≡ true) ⊎ Rose old.read_faults new.read_faults) → IsTooLong old new name limit
too_long old new name limit discloses undisclosed = by_disclosed old.discloses refl
  where
    by_disclosed : (b : Bool) → old.discloses ≡ b → IsTooLong old new name limit
    by_disclosed true e = inl (e, (discloses (e)).0)
    by_disclosed false e = inr (e, elim undisclosed [ inl t ↦ absurd (not_both (sym e ∙ t)) | inr rose ↦ rose ])
      where
        not_both : false ≡ true → ⊥
        not_both x = absurd (cc)
