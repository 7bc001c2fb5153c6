-- What was read so far leads on.
use Rattle.std.proofs.Common.{◌≡◌, ◌<◌, ◌+◌, ℕ, suc, add-one, List, [], ◌∷◌, ◌++◌, length, drop, drop-cons, get_or, Result, Ok, Err, refl, ap, sym, ◌∙◌, subst}
use Rattle.std.specs.Prelude.{IsErrAnd}
use Rattle.bench_plan.specs.Readings.{Reading, followed}
use Rattle.bench_plan.specs.Steps.{ReadsBy, mapped}
use Rattle.bench_plan.specs.declared.stop.Stop.{Stop}
use Rattle.bench_plan.proofs.Readings.{reads_then, reads_stop}
use Rattle.bench_shelf.specs.Held.{Held}
use Rattle.bench_plan.specs.Each.{Leads, each_from}

pub leads_begin : {A : Type 0} (h : Held) (p : Reading A) → Leads A h h p p
leads_begin h p = λ new r x. x

pub leads_then : {A B : Type 0} (old mid new : Held) (whole : Reading B) (q : Reading A) (f : A → Reading B) (a : A) → Leads B old mid whole (followed q f) → ReadsBy mid new q (Ok a)
    → Leads B old new whole (f a)
leads_then old mid new whole q f a l x = λ last r y. l last r (reads_then f r x y)

pub leads_exit : {A B C : Type 0} (old mid new : Held) (whole : Reading B) (q : Reading A) (f : A → Reading B) (stop : Stop) (g : C → B) (r : Result C Stop)
    → Leads B old mid whole (followed q f) → ReadsBy mid new q (Err stop) → IsErrAnd r (λ d. d ≡ stop) → ReadsBy old new whole (mapped g r)
leads_exit old mid new whole q f stop g (Err d) l x h = rw h (l new (Err stop) (reads_stop f x))
leads_exit old mid new whole q f stop g (Ok c) l x h = absurd h

-- one more of a list
next_left : {A B : Type 0} (f : A → Reading B) (xs : List A) (i : ℕ) (x : A) (done : List B) → i < length xs → x ≡ get_or xs i x
    → each_from f (drop i xs) done ≡ followed (f x) (λ b. each_from f (drop (i + 1) xs) (done ++ b ∷ []))
next_left f xs i x done lt at =
    ap (λ ys. each_from f ys done) (drop-cons xs i x lt ∙ ap (λ y. y ∷ drop (suc i) xs) (sym at)) ∙ rw add-one refl

pub each_more : {A B : Type 0} (old mid new : Held) (f : A → Reading B) (xs : List A) (i : ℕ) (x : A) (done : List B) (b : B) → i < length xs → x ≡ get_or xs i x
    → Leads (List B) old mid (each_from f xs []) (each_from f (drop i xs) done) → ReadsBy mid new (f x) (Ok b)
    → Leads (List B) old new (each_from f xs []) (each_from f (drop (i + 1) xs) (done ++ b ∷ []))
each_more {B = B} old mid new f xs i x done b lt at l y =
    leads_then old mid new (each_from f xs []) (f x) (λ c. each_from f (drop (i + 1) xs) (done ++ c ∷ [])) b
    (subst (λ p. Leads (List B) old mid (each_from f xs []) p) (next_left f xs i x done lt at) l) y

pub each_exit : {A B C : Type 0} (old mid new : Held) (f : A → Reading B) (xs : List A) (i : ℕ) (x : A) (done : List B) (stop : Stop) (g : C → List B) (r : Result C Stop)
    → i < length xs → x ≡ get_or xs i x
    → Leads (List B) old mid (each_from f xs []) (each_from f (drop i xs) done) → ReadsBy mid new (f x) (Err stop) → IsErrAnd r (λ d. d ≡ stop)
    → ReadsBy old new (each_from f xs []) (mapped g r)
each_exit {B = B} old mid new f xs i x done stop g r lt at l y h =
    leads_exit old mid new (each_from f xs []) (f x) (λ c. each_from f (drop (i + 1) xs) (done ++ c ∷ [])) stop g r
    (subst (λ p. Leads (List B) old mid (each_from f xs []) p) (next_left f xs i x done lt at) l) y h
