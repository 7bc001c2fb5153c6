-- What calls that write to a sink do, one after another.
use Rattle.std.proofs.Common.{◌≡◌, ℕ, ◌+◌, ◌-◌, ◌<◌, List, [], ◌++◌, Option, Some, None, Result, Ok, Err, refl, ap, sym, ◌∙◌, arith, append_assoc, append-nil, subst}
use Rattle.std.specs.Result.{IsErrAnd}
use Rattle.soc_words.specs.Causes.{Rose, appended}
use Rattle.soc_words.specs.Text.{joined_below}
use Rattle.soc_words.proofs.Texts.{joined_below-more, joined_after}
use Rattle.bench_shelf.specs.declared.sink.SinkFault.{SinkFault}
use Rattle.bench_shelf.specs.declared.sink.SinkFault.TheVariants.{Memory}
use Rattle.bench_shelf.specs.Sink.{Appending}

-- two texts appended in turn are their join appended
pub appended_twice : (shown : Option (List ℕ)) (a b : List ℕ) → appended (appended shown a) b ≡ appended shown (a ++ b)
appended_twice None a b = refl
appended_twice (Some xs) a b = ap Some (append_assoc xs a b)

-- a text was written, and then another
pub writes_then : {a b c : Option (List ℕ)} {f g h : ℕ} {first second : List ℕ} {x : Unit {0}} (r : Result (Unit {0}) SinkFault)
    → Appending a b f g first (Ok x) → Appending b c g h second r → Appending a c f h (first ++ second) r
writes_then {a = a} {first = first} {second = second} (Ok y) p q = record {
  later = omega (arith, p.later, q.later);
  no_fault = q.no_fault ∙ p.no_fault;
  all = q.all ∙ ap (λ shown. appended shown second) p.all ∙ appended_twice a first second;
  beginning = tt;
  failed = λ e. absurd (cc);
}
writes_then {a = a} {f = f} {h = h} {first = first} {second = second} (Err e) p q = record {
  later = omega (arith, p.later, q.later);
  no_fault = tt;
  all = tt;
  beginning = record {
    front = first ++ q.beginning.front;
    back = q.beginning.back;
    whole = append_assoc first q.beginning.front q.beginning.back ∙ ap (λ t. first ++ t) q.beginning.whole;
    new_is = q.beginning.new_is ∙ ap (λ shown. appended shown q.beginning.front) p.all ∙ appended_twice a first q.beginning.front;
  };
  failed = λ e. subst (λ n. Rose n h) p.no_fault (q.failed e);
}

-- what was refused in a text was refused in a longer one
pub writes_stop : {a b : Option (List ℕ)} {f g : ℕ} {first : List ℕ} {e : SinkFault} (second : List ℕ)
    → Appending a b f g first (Err e) → Appending a b f g (first ++ second) (Err e)
writes_stop {first = first} second p = record {
  later = p.later;
  no_fault = tt;
  all = tt;
  beginning = record {
    front = p.beginning.front;
    back = p.beginning.back ++ second;
    whole = sym (append_assoc p.beginning.front p.beginning.back second) ∙ ap (λ t. t ++ second) p.beginning.whole;
    new_is = p.beginning.new_is;
  };
  failed = λ e. p.failed (cc);
}

-- nothing appended changes nothing
pub appended_none : (shown : Option (List ℕ)) → shown ≡ appended shown []
appended_none None = refl
appended_none (Some xs) = ap Some (sym (append-nil xs))

-- want of memory before anything was written
pub writes_nothing : (shown : Option (List ℕ)) (faults : ℕ) (text : List ℕ) → Appending shown shown faults faults text (Err Memory)
writes_nothing shown faults text = record {
  later = omega arith;
  no_fault = tt;
  all = tt;
  beginning = record { front = []; back = text; whole = refl; new_is = appended_none shown };
  failed = λ e. absurd (cc);
}

-- the exit of a `?` on want of memory
pub writes_refused : (shown : Option (List ℕ)) (faults : ℕ) (text : List ℕ) (r : Result (Unit {0}) SinkFault) → IsErrAnd r (λ e. e ≡ Memory) → Appending shown shown faults faults text r
writes_refused shown faults text (Err e) h = rw h (writes_nothing shown faults text)
writes_refused shown faults text (Ok x) h = elim h [ ]

-- nothing was written so far
pub writes_begin : (shown : Option (List ℕ)) (faults : ℕ) (x : Unit {0}) → Appending shown shown faults faults [] (Ok x)
writes_begin shown faults x = record {
  later = omega arith;
  no_fault = refl;
  all = appended_none shown;
  beginning = tt;
  failed = λ e. absurd (cc);
}

-- the exit of a `?` on a refusal: more was to come
pub writes_exit : {a b : Option (List ℕ)} {f g : ℕ} {first : List ℕ} {e : SinkFault} (rest : List ℕ) (r : Result (Unit {0}) SinkFault)
    → IsErrAnd r (λ d. d ≡ e) → Appending a b f g first (Err e) → Appending a b f g (first ++ rest) r
writes_exit rest (Err d) h p = rw h (writes_stop rest p)
writes_exit rest (Ok x) h p = elim h [ ]

-- the exit of a `?` in a loop over the texts for the numbers below `total`
pub loop_exit : {a b c : Option (List ℕ)} {f g h : ℕ} {x : Unit {0}} {e : SinkFault} (text : ℕ → List ℕ) (n total : ℕ) (r : Result (Unit {0}) SinkFault)
    → n < total → Appending a b f g (joined_below text n) (Ok x) → Appending b c g h (text n) (Err e) → IsErrAnd r (λ d. d ≡ e) → Appending a c f h (joined_below text total) r
loop_exit {a = a} {c = c} {f = f} {h = h} {e = e} text n total r lt p q at =
    let more : (rest : List ℕ) × (joined_below text (n + 1) ++ rest ≡ joined_below text (n + 1 + (total - (n + 1)))) = joined_after text (n + 1) (total - (n + 1)) in
    let same : n + 1 + (total - (n + 1)) ≡ total = omega arith in
    let whole : (joined_below text n ++ text n) ++ more.0 ≡ joined_below text total
    = ap (λ t. t ++ more.0) (sym (joined_below-more text n)) ∙ more.1 ∙ ap (joined_below text) same in
    subst (λ t. Appending a c f h t r) whole (writes_exit more.0 r at (writes_then (Err e) p q))
