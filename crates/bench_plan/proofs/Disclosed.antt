-- Over a shelf that discloses its files, what a plan comes to is its answer.
use Rattle.std.proofs.Common.{◌≡◌, ◌<◌, ◌≤◌, ℕ, inl, inr, cond, List, length, Some, None, Result, ap, sym, ◌∙◌}
use Rattle.std.specs.Prelude.{IsTrue}
use Rattle.std.proofs.lemmas.Bool.{le-ltb, lt-ltb}
use Rattle.bench_shelf.specs.Held.{Held}
use Rattle.bench_plan.specs.Answers.{Answer, Done, answer_in, by_file, ended, long_text, missed, unread_text}
use Rattle.bench_plan.specs.Readings.{Refusal, Reading, gives, refuses, asks}
use Rattle.bench_plan.specs.Steps.{Asks, Comes, IsLong, IsRead}

-- a file within its limit
within : (name : List ℕ) (limit : ℕ) (next : List ℕ → Answer) (bytes : List ℕ) → length bytes ≤ limit → by_file name limit next (Some bytes) ≡ next bytes
within name limit next bytes le = ap (λ b. cond b (missed (long_text name)) (next bytes)) (le-ltb limit (length bytes) le)

beyond : (name : List ℕ) (limit : ℕ) (next : List ℕ → Answer) (bytes : List ℕ) → limit < length bytes → by_file name limit next (Some bytes) ≡ missed (long_text name)
beyond name limit next bytes lt = ap (λ b. cond b (missed (long_text name)) (next bytes)) (lt-ltb limit (length bytes) lt)

through : (h : Held) (name : List ℕ) (limit : ℕ) (next : List ℕ → Answer) (bytes : List ℕ) → IsTrue h.discloses → IsRead h name limit bytes → by_file name limit next (h.file name) ≡ next bytes
through h name limit next bytes t r = ap (by_file name limit next) (r.1 t) ∙ within name limit next bytes r.0

pub comes_answer : (h : Held) (p : Reading Done) (r : Result Done Refusal) → IsTrue h.discloses → Comes h p r → answer_in h.file p ≡ ended r
comes_answer h (gives d) r t c = ap ended (sym c)
comes_answer h (refuses refusal) r t c = ap ended (sym c)
comes_answer h (asks name limit next) r t c = through h name limit (λ b. answer_in h.file (next b)) c.0 t c.1 ∙ comes_answer h (next c.0) r t c.2

pub asks_none : (h : Held) (p : Reading Done) (name : List ℕ) (limit : ℕ) → IsTrue h.discloses → Asks h p name limit → h.file name ≡ None → answer_in h.file p ≡ missed (unread_text name)
asks_none h (gives d) name limit t a none = absurd a
asks_none h (refuses refusal) name limit t a none = absurd a
asks_none h (asks n l next) name limit t (inl here) none =
    ap (by_file n l (λ b. answer_in h.file (next b))) (ap h.file (sym here.0) ∙ none) ∙ ap (λ m. missed (unread_text m)) (sym here.0)
asks_none h (asks n l next) name limit t (inr a) none = through h n l (λ b. answer_in h.file (next b)) a.0 t a.1 ∙ asks_none h (next a.0) name limit t a.2 none

pub asks_long : (h : Held) (p : Reading Done) (name : List ℕ) (limit : ℕ) → IsTrue h.discloses → Asks h p name limit → IsLong limit (h.file name) → answer_in h.file p ≡ missed (long_text name)
asks_long h (gives d) name limit t a long = absurd a
asks_long h (refuses refusal) name limit t a long = absurd a
asks_long h (asks n l next) name limit t (inl here) long =
    ap (by_file n l (λ b. answer_in h.file (next b))) (ap h.file (sym here.0) ∙ long.1)
    ∙ beyond n l (λ b. answer_in h.file (next b)) long.0 (rw (sym here.1) long.2) ∙ ap (λ m. missed (long_text m)) (sym here.0)
asks_long h (asks n l next) name limit t (inr a) long = through h n l (λ b. answer_in h.file (next b)) a.0 t a.1 ∙ asks_long h (next a.0) name limit t a.2 long
