use Rattle.std.proofs.Common.{◌≡◌, ℕ, inr, false, true, Result, Ok, Err, refl, arith}
use Rattle.std.specs.Result.{IfOk, OnOk}
use Rattle.bench_shelf.specs.Counts.{counted}
use Rattle.soc_words.specs.Causes.{Rose}
use Rattle.bench_shelf.proofs.file_shelf.FileShelfShelf.TheImpl.Goals as goal

false_true : false ≡ true → ⊥
false_true e = absurd (cc)

rose : (before now : ℕ) → now ≡ counted before → Rose before now
rose before now e = omega (arith, e)

if_ok : {A E : Type 0} {P : A → Type 0} (r : Result A E) → ((a : A) → P a) → IfOk r P
if_ok (Ok a) p = p a
if_ok (Err e) p = tt

on_ok : {A E P : Type 0} (r : Result A E) → P → OnOk r P
on_ok (Ok a) p = p
on_ok (Err e) p = tt

pub read-tells : goal.read-tells
read-tells g c = record {
  stays = record { disclosure = refl; files = λ q. refl; writes = c.ensures.writes; later = c.ensures.later };
  no_fault = c.ensures.no_fault;
  short = c.ensures.short;
  whole = if_ok c.result (λ bytes discloses. absurd (false_true discloses));
  missing = λ discloses none. absurd (false_true discloses);
  failed = λ e. inr (rose _ _ (c.ensures.raised e));
  long = λ n e. (c.ensures.long n e).0;
  long_disclosed = λ n e discloses. absurd (false_true discloses);
  long_undisclosed = λ n e. inr (rose _ _ (c.ensures.long n e).1);
}

pub write-tells : goal.write-tells
write-tells g c = record {
  stays = record { disclosure = refl; others = λ q other. refl; reads = c.ensures.reads; later = c.ensures.later };
  no_fault = c.ensures.no_fault;
  written = on_ok c.result (λ discloses. absurd (false_true discloses));
  failed = λ e. rose _ _ (c.ensures.raised e);
  never_long = c.ensures.never_long;
}
