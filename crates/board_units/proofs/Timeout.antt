-- From power-on a watchdog fires exactly where the timeout of the last control word has passed since the last feed.
use Rattle.std.proofs.Common.{◌≡◌, ◌≤◌, ◌<◌, ℕ, zero, suc, ◌+◌, ◌-◌, ◌%◌, eqb, ltb, Bool, true, false, Option, None, Some, refl, sym, ap, ◌∙◌, arith, subst, add-zero, add-suc}
use Rattle.std.proofs.lemmas.Bool.{true≢false, false≢true}
use Rattle.std.proofs.lemmas.Bool.Decides.{nat_tests}
use Rattle.chip_base.proofs.Runs.{after_more, after_none, given_from_zero}
use Rattle.chip_base.specs.Given.{Given}
use Rattle.chip_base.specs.Messages.{reset_in}
use Rattle.chip_base.specs.declared.event.Event.{Event}
use Rattle.chip_base.specs.declared.message.Down.{Down}
use Rattle.chip_base.specs.declared.message.Down.TheVariants.{Reset, Set}
use Rattle.board_units.specs.WatchdogState.{WatchdogState, watchdog_reset}
use Rattle.board_units.specs.WatchdogCycle.{configured, counted, enables, fire_event, set_in, timeout_of, watchdog_cycle}
use Rattle.board_units.specs.WatchdogTime.{KeepsTime, RunsOut, control_before, control_by, given_in, is_heard, watchdog_before}
use Rattle.board_units.proofs.Compared.{is_below, is_from}
use Rattle.board_units.proofs.Count.{after_message, counted_less, counted_off, counted_out, cycle_counts, cycle_resets, cycle_rests}
use Rattle.board_units.proofs.Pins.{right_true}

-- the run, cycle by cycle

next_unit : (downs : ℕ → Option Down) (n : ℕ) → watchdog_before downs (suc n) ≡ (given_in downs n).unit
next_unit downs n = after_more watchdog_cycle watchdog_reset 0 downs n ∙ ap (λ g. g.unit) (given_from_zero watchdog_cycle watchdog_reset downs n)

control_next : (downs : ℕ → Option Down) (n : ℕ) (down : Option Down) → downs n ≡ down → control_before downs (suc n) ≡ control_by (control_before downs n) down
unfolding control_before
control_next downs n down e = ap (control_by (control_before downs n)) e

-- tests of a control word

has_timeout : (control : ℕ) → enables control ≡ true → 0 < timeout_of control
has_timeout control e = is_below 0 (timeout_of control) (right_true (eqb (control % 2) 1) (ltb 0 (timeout_of control)) e)

-- the last message that was heard before the cycle n began a timeout that ends before the cycle `due`
record Counting (downs : ℕ → Option Down) (n due : ℕ) : Type 0 where
  last : ℕ
  before : last < n
  waits : (watchdog_before downs last).fired ≡ false
  heard : is_heard (downs last) ≡ true
  alone : (t : ℕ) → last < t → t < n → is_heard (downs t) ≡ false
  enabled : enables (control_before downs (suc last)) ≡ true
  time : last + timeout_of (control_before downs (suc last)) ≡ due

-- a unit before the cycle n
record Sound (downs : ℕ → Option Down) (n : ℕ) (u : WatchdogState) : Type 0 where
  enabled : u.fired ≡ false → u.enabled ≡ enables (control_before downs n)
  timeout : u.fired ≡ false → u.enabled ≡ true → u.timeout ≡ timeout_of (control_before downs n)
  some : u.fired ≡ false → u.enabled ≡ true → 0 < u.left
  counting : u.fired ≡ false → u.enabled ≡ true → Counting downs n (n + u.left)

-- a unit that hasn't fired, in the cycle n after its message
record Ready (downs : ℕ → Option Down) (n : ℕ) (m : WatchdogState) : Type 0 where
  fired : m.fired ≡ false
  enabled : m.enabled ≡ enables (control_before downs (suc n))
  timeout : m.enabled ≡ true → m.timeout ≡ timeout_of (control_before downs (suc n))
  begun : is_heard (downs n) ≡ true → m.enabled ≡ true → m.left ≡ timeout_of (control_before downs (suc n))
  some : m.enabled ≡ true → 0 < m.left
  counting : m.enabled ≡ true → Counting downs (suc n) (n + m.left)

-- what holds of all earlier cycles and of this one
until_now : (P : ℕ → Type 0) (from n : ℕ) → ((t : ℕ) → from < t → t < n → P t) → P n → (t : ℕ) → from < t → t < suc n → P t
until_now P from n old here t p q = by_test _ refl
  where
    by_test : (earlier : Bool) → ltb t n ≡ earlier → P t
    by_test true e = old t p (is_below t n e)
    by_test false e =
        let o : n ≤ t = is_from t n e in
        let same : n ≡ t = omega (arith, o, q) in
        subst P same here

still_counting : (downs : ℕ → Option Down) (n due : ℕ) → is_heard (downs n) ≡ false → Counting downs n due → Counting downs (suc n) due
still_counting downs n due h c = record {
  last = c.last;
  before = let b : c.last < n = c.before in omega (arith, b);
  waits = c.waits;
  heard = c.heard;
  alone = until_now (λ t. is_heard (downs t) ≡ false) c.last n c.alone h;
  enabled = c.enabled;
  time = c.time;
}

-- a message that isn't heard
unheard : (downs : ℕ → Option Down) (n : ℕ) (u : WatchdogState) → is_heard (downs n) ≡ false → control_before downs (suc n) ≡ control_before downs n
    → u.fired ≡ false → Sound downs n u → Ready downs n u
unheard downs n u h same f s = record {
  fired = f;
  enabled = s.enabled f ∙ sym (ap enables same);
  timeout = λ e. s.timeout f e ∙ sym (ap timeout_of same);
  begun = λ x. absurd (true≢false (sym x ∙ h));
  some = s.some f;
  counting = λ e. still_counting downs n (n + u.left) h (s.counting f e);
}

-- a message that begins the timeout
begins : (downs : ℕ → Option Down) (n : ℕ) (m : WatchdogState) → (watchdog_before downs n).fired ≡ false → is_heard (downs n) ≡ true → m.fired ≡ false
    → m.enabled ≡ enables (control_before downs (suc n)) → m.timeout ≡ timeout_of (control_before downs (suc n))
    → m.left ≡ timeout_of (control_before downs (suc n)) → Ready downs n m
begins downs n m w h f e t l = record {
  fired = f;
  enabled = e;
  timeout = λ x. t;
  begun = λ x y. l;
  some = λ x.
      let p : 0 < timeout_of (control_before downs (suc n)) = has_timeout (control_before downs (suc n)) (sym e ∙ x) in
      subst (λ left. 0 < left) (sym l) p;
  counting = λ x. record {
    last = n;
    before = omega arith;
    waits = w;
    heard = h;
    alone = λ a p q. absurd (omega (arith, p, q));
    enabled = sym e ∙ x;
    time = ap (λ left. n + left) (sym l);
  };
}

-- a disabled unit is ready
ready_disabled : (downs : ℕ → Option Down) (n : ℕ) (m : WatchdogState) → m.fired ≡ false → m.enabled ≡ false
    → m.enabled ≡ enables (control_before downs (suc n)) → Ready downs n m
ready_disabled downs n m f off e = record {
  fired = f;
  enabled = e;
  timeout = λ x. absurd (true≢false (sym x ∙ off));
  begun = λ h x. absurd (true≢false (sym x ∙ off));
  some = λ x. absurd (true≢false (sym x ∙ off));
  counting = λ x. absurd (true≢false (sym x ∙ off));
}

sets_by : (downs : ℕ → Option Down) (n : ℕ) (u : WatchdogState) (reg word : ℕ) (control feed on : Bool) → downs n ≡ Some (Set reg word)
    → (watchdog_before downs n).fired ≡ false → u.fired ≡ false → Sound downs n u → eqb reg 0 ≡ control → eqb reg 4 ≡ feed → u.enabled ≡ on
    → Ready downs n (set_in u reg word)
sets_by downs n u reg word true feed on d w f s p q e =
    let now : control_before downs (suc n) ≡ word = control_next downs n (Some (Set reg word)) d ∙ rw p refl in
    let h : is_heard (downs n) ≡ true = rw (d, p) refl in
    subst (Ready downs n) (sym (rw p refl))
    (begins downs n (configured u word) w h f (sym (ap enables now)) (sym (ap timeout_of now)) (sym (ap timeout_of now)))
sets_by downs n u reg word false true true d w f s p q e =
    let now : control_before downs (suc n) ≡ control_before downs n = control_next downs n (Some (Set reg word)) d ∙ rw p refl in
    let h : is_heard (downs n) ≡ true = rw (d, p, q) refl in
    let t : u.timeout ≡ timeout_of (control_before downs (suc n)) = s.timeout f e ∙ sym (ap timeout_of now) in
    subst (Ready downs n) (sym (rw (p, q, e) refl))
    (begins downs n (record u { left = u.timeout }) w h f (s.enabled f ∙ sym (ap enables now)) t t)
sets_by downs n u reg word false true false d w f s p q e =
    let now : control_before downs (suc n) ≡ control_before downs n = control_next downs n (Some (Set reg word)) d ∙ rw p refl in
    subst (Ready downs n) (sym (rw (p, q, e) refl)) (ready_disabled downs n u f e (s.enabled f ∙ sym (ap enables now)))
sets_by downs n u reg word false false on d w f s p q e =
    let now : control_before downs (suc n) ≡ control_before downs n = control_next downs n (Some (Set reg word)) d ∙ rw p refl in
    subst (Ready downs n) (sym (rw (p, q) refl)) (unheard downs n u (rw (d, p, q) refl) now f s)

-- a unit that hasn't fired, after its message
takes : (downs : ℕ → Option Down) (n : ℕ) (u : WatchdogState) (down : Option Down) → downs n ≡ down → reset_in down ≡ 0
    → (watchdog_before downs n).fired ≡ false → u.fired ≡ false → Sound downs n u → Ready downs n (after_message u down)
takes downs n u None d r w f s = unheard downs n u (rw d refl) (control_next downs n None d) f s
takes downs n u (Some Reset) d r w f s = absurd (omega (arith, r))
takes downs n u (Some (Set reg word)) d r w f s = sets_by downs n u reg word _ _ _ d w f s refl refl refl

-- what a cycle tells, and the unit after it
record Kept (downs : ℕ → Option Down) (n : ℕ) (g : Given WatchdogState) : Type 0 where
  only : (event : Event) → g.event ≡ Some event → RunsOut downs n
  disabled : enables (control_before downs (suc n)) ≡ false → g.event ≡ None
  unit : Sound downs (suc n) g.unit

none_some : (event : Event) → None ≡ Some event → ⊥
none_some event e = let bad : ⊥ = cc in bad

has_fired : (downs : ℕ → Option Down) (n : ℕ) (u : WatchdogState) → u.fired ≡ true → Sound downs n u
has_fired downs n u f = record {
  enabled = λ x. absurd (true≢false (sym f ∙ x));
  timeout = λ x. absurd (true≢false (sym f ∙ x));
  some = λ x. absurd (true≢false (sym f ∙ x));
  counting = λ x. absurd (true≢false (sym f ∙ x));
}

one_left : (left : ℕ) → 0 < left → eqb (left - 1) 0 ≡ true → left ≡ 1
one_left left p e = grind (arith, nat_tests)

more_left : (left : ℕ) → eqb (left - 1) 0 ≡ false → 1 < left
more_left left e = grind (arith, nat_tests)

count_by : (downs : ℕ → Option Down) (n : ℕ) (m : WatchdogState) (on last : Bool) → m.enabled ≡ on → eqb (m.left - 1) 0 ≡ last → Ready downs n m
    → Kept downs n (counted m n)
count_by downs n m false last e l r = subst (Kept downs n) (sym (counted_off m n e)) record {
  only = λ event x. absurd (none_some event x);
  disabled = λ x. refl;
  unit = record {
    enabled = λ f. r.enabled;
    timeout = λ f x. r.timeout x;
    some = λ f x. absurd (true≢false (sym x ∙ e));
    counting = λ f x. absurd (true≢false (sym x ∙ e));
  };
}
count_by downs n m true true e l r =
    let c : Counting downs (suc n) (n + m.left) = r.counting e in
    let one : m.left ≡ 1 = one_left m.left (r.some e) l in
    let before : c.last < suc n = c.before in
    let time : c.last + timeout_of (control_before downs (suc c.last)) ≡ n + m.left = c.time in
    subst (Kept downs n) (sym (counted_out m n e l)) record {
      only = λ event x. record {
        last = c.last;
        waits = c.waits;
        heard = c.heard;
        alone = λ t p q. c.alone t p (omega (arith, q));
        enabled = c.enabled;
        time = omega (arith, time, one);
      };
      disabled = λ x. absurd (true≢false (sym e ∙ (r.enabled ∙ x)));
      unit = has_fired downs (suc n) _ refl;
    }
count_by downs n m true false e l r =
    let c : Counting downs (suc n) (n + m.left) = r.counting e in
    let more : 1 < m.left = more_left m.left l in
    let due : n + m.left ≡ suc n + (m.left - 1) = omega (arith, more) in
    subst (Kept downs n) (sym (counted_less m n e l)) record {
      only = λ event x. absurd (none_some event x);
      disabled = λ x. refl;
      unit = record {
        enabled = λ f. r.enabled;
        timeout = λ f x. r.timeout x;
        some = λ f x. omega (arith, more);
        counting = λ f x. subst (Counting downs (suc n)) due c;
      };
    }

keeps_by : (downs : ℕ → Option Down) (n : ℕ) (u : WatchdogState) (down : Option Down) (fired : Bool) → downs n ≡ down → u.fired ≡ fired
    → (watchdog_before downs n).fired ≡ fired → Sound downs n u → Kept downs n (watchdog_cycle u n down)
keeps_by downs n u (Some Reset) fired d f w s =
    let now : control_before downs (suc n) ≡ 0 = control_next downs n (Some Reset) d in
    subst (Kept downs n) (sym (cycle_resets u n)) record {
      only = λ event x. absurd (none_some event x);
      disabled = λ x. refl;
      unit = record {
        enabled = λ x. sym (ap enables now);
        timeout = λ x y. absurd (false≢true y);
        some = λ x y. absurd (false≢true y);
        counting = λ x y. absurd (false≢true y);
      };
    }
keeps_by downs n u None true d f w s = subst (Kept downs n) (sym (cycle_rests u n None f refl)) record {
  only = λ event x. absurd (none_some event x);
  disabled = λ x. refl;
  unit = has_fired downs (suc n) u f;
}
keeps_by downs n u (Some (Set reg word)) true d f w s = subst (Kept downs n) (sym (cycle_rests u n (Some (Set reg word)) f refl)) record {
  only = λ event x. absurd (none_some event x);
  disabled = λ x. refl;
  unit = has_fired downs (suc n) u f;
}
keeps_by downs n u None false d f w s = subst (Kept downs n) (sym (cycle_counts u n None f refl))
    (count_by downs n u _ _ refl refl (takes downs n u None d refl w f s))
keeps_by downs n u (Some (Set reg word)) false d f w s = subst (Kept downs n) (sym (cycle_counts u n (Some (Set reg word)) f refl))
    (count_by downs n (set_in u reg word) _ _ refl refl (takes downs n u (Some (Set reg word)) d refl w f s))

kept : (downs : ℕ → Option Down) (n : ℕ) → Sound downs n (watchdog_before downs n) → Kept downs n (given_in downs n)
kept downs n s = keeps_by downs n (watchdog_before downs n) (downs n) _ refl refl refl s

sound_start : (downs : ℕ → Option Down) → Sound downs 0 watchdog_reset
unfolding control_before
sound_start downs = record {
  enabled = λ x. refl;
  timeout = λ x y. absurd (false≢true y);
  some = λ x y. absurd (false≢true y);
  counting = λ x y. absurd (false≢true y);
}

sound : (downs : ℕ → Option Down) (n : ℕ) → Sound downs n (watchdog_before downs n)
sound downs zero = subst (Sound downs 0) (sym (after_none watchdog_cycle watchdog_reset 0 downs)) (sound_start downs)
sound downs (suc n) = subst (Sound downs (suc n)) (sym (next_unit downs n)) (kept downs n (sound downs n)).unit

-- a timeout that isn't begun anew passes

record Going (n due : ℕ) (u : WatchdogState) : Type 0 where
  fired : u.fired ≡ false
  enabled : u.enabled ≡ true
  time : n + u.left ≡ due

not_heard : (u : WatchdogState) (down : Option Down) → is_heard down ≡ false → (reset_in down ≡ 0) × (after_message u down ≡ u)
not_heard u None h = (refl, refl)
not_heard u (Some Reset) h = absurd (true≢false h)
not_heard u (Some (Set reg word)) h = by_reg _ _ refl refl
  where
    by_reg : (control feed : Bool) → eqb reg 0 ≡ control → eqb reg 4 ≡ feed → (reset_in (Some (Set reg word)) ≡ 0) × (set_in u reg word ≡ u)
    by_reg true feed c f = let x : is_heard (Some (Set reg word)) ≡ true = rw c refl in absurd (true≢false (sym x ∙ h))
    by_reg false true c f = let x : is_heard (Some (Set reg word)) ≡ true = rw (c, f) refl in absurd (true≢false (sym x ∙ h))
    by_reg false false c f = (refl, rw (c, f) refl)

counts_alone : (u : WatchdogState) (n : ℕ) (down : Option Down) → u.fired ≡ false → is_heard down ≡ false → watchdog_cycle u n down ≡ counted u n
counts_alone u n down f h =
    let x = not_heard u down h in
    cycle_counts u n down f x.0 ∙ ap (λ s. counted s n) x.1

not_last : (left : ℕ) → 1 < left → eqb (left - 1) 0 ≡ false
not_last left p = grind (arith, nat_tests)

is_last : (left : ℕ) → left ≡ 1 → eqb (left - 1) 0 ≡ true
is_last left p = grind (arith, nat_tests)

goes_on : (n due : ℕ) (m : WatchdogState) → suc n < due → Going n due m → Going (suc n) due (counted m n).unit
goes_on n due m p g =
    let time : n + m.left ≡ due = g.time in
    let l : eqb (m.left - 1) 0 ≡ false = not_last m.left (omega (arith, time, p)) in
    subst (λ x. Going (suc n) due x.unit) (sym (counted_less m n g.enabled l))
    record { fired = g.fired; enabled = g.enabled; time = omega (arith, time, p) }

fires_last : (n : ℕ) (m : WatchdogState) → Going n (suc n) m → (counted m n).event ≡ Some (fire_event n)
fires_last n m g =
    let time : n + m.left ≡ suc n = g.time in
    let l : eqb (m.left - 1) 0 ≡ true = is_last m.left (omega (arith, time)) in
    ap (λ x. x.event) (counted_out m n g.enabled l)

-- the cycle of the message, and those after it
first_going : (downs : ℕ → Option Down) (now last : ℕ) (u : WatchdogState) (down : Option Down) → downs last ≡ down → (watchdog_before downs last).fired ≡ false → u.fired ≡ false
    → Sound downs last u → is_heard down ≡ true → enables (control_before downs (suc last)) ≡ true
    → last + timeout_of (control_before downs (suc last)) ≡ suc now → Going (suc last) (suc now) (watchdog_cycle u last down).unit
first_going downs now last u None d w f s h e t = absurd (false≢true h)
first_going downs now last u (Some Reset) d w f s h e t =
    absurd (false≢true (sym (ap enables (control_next downs last (Some Reset) d)) ∙ e))
first_going downs now last u (Some (Set reg word)) d w f s h e t =
    let r : Ready downs last (set_in u reg word) = takes downs last u (Some (Set reg word)) d refl w f s in
    let on : (set_in u reg word).enabled ≡ true = r.enabled ∙ e in
    let full : (set_in u reg word).left ≡ timeout_of (control_before downs (suc last)) = r.begun (ap is_heard d ∙ h) on in
    let long : 0 < timeout_of (control_before downs (suc last)) = has_timeout (control_before downs (suc last)) e in
    subst (λ g. Going (suc last) (suc now) g.unit) (sym (cycle_counts u last (Some (Set reg word)) f refl))
    (goes_on last (suc now) (set_in u reg word) (omega (arith, long, t)) record { fired = r.fired; enabled = on; time = ap (λ left. last + left) full ∙ t })

later_going : (downs : ℕ → Option Down) (now last k : ℕ) → ((t : ℕ) → last < t → t ≤ now → is_heard (downs t) ≡ false)
    → Going (suc last) (suc now) (watchdog_before downs (suc last)) → suc last + k ≤ now → Going (suc last + k) (suc now) (watchdog_before downs (suc last + k))
later_going downs now last zero alone g p = subst (λ n. Going n (suc now) (watchdog_before downs n)) (sym (add-zero (suc last))) g
later_going downs now last (suc k) alone g p =
    let n : ℕ = suc last + k in
    let before : Going n (suc now) (watchdog_before downs n) = later_going downs now last k alone g (omega (arith, p)) in
    let rests : is_heard (downs n) ≡ false = alone n (omega arith) (omega (arith, p)) in
    subst (λ n. Going n (suc now) (watchdog_before downs n)) (sym (add-suc (suc last) k))
    (subst (Going (suc n) (suc now)) (sym (next_unit downs n ∙ ap (λ g. g.unit) (counts_alone (watchdog_before downs n) n (downs n) before.fired rests)))
    (goes_on n (suc now) (watchdog_before downs n) (omega (arith, p)) before))

fires_at : (downs : ℕ → Option Down) (now : ℕ) → RunsOut downs now → (given_in downs now).event ≡ Some (fire_event now)
fires_at downs now r =
    let time : r.last + timeout_of (control_before downs (suc r.last)) ≡ suc now = r.time in
    let long : 0 < timeout_of (control_before downs (suc r.last)) = has_timeout (control_before downs (suc r.last)) r.enabled in
    let whole : 1 < timeout_of (control_before downs (suc r.last)) = omega (arith, long) in
    let k : ℕ = now - suc r.last in
    let place : suc r.last + k ≡ now = omega (arith, time, whole) in
    let first : Going (suc r.last) (suc now) (watchdog_before downs (suc r.last))
    = subst (Going (suc r.last) (suc now)) (sym (next_unit downs r.last))
    (first_going downs now r.last (watchdog_before downs r.last) (downs r.last) refl r.waits r.waits (sound downs r.last) r.heard r.enabled time) in
    let here : Going now (suc now) (watchdog_before downs now)
    = subst (λ n. Going n (suc now) (watchdog_before downs n)) place (later_going downs now r.last k r.alone first (omega (arith, place))) in
    ap (λ g. g.event) (counts_alone (watchdog_before downs now) now (downs now) here.fired (r.alone now (omega (arith, time, whole)) (omega arith)))
    ∙ fires_last now (watchdog_before downs now) here

-- from power-on a watchdog keeps time
pub keeps_time : KeepsTime
unfolding KeepsTime
keeps_time downs now =
    let k : Kept downs now (given_in downs now) = kept downs now (sound downs now) in
    record { fires = fires_at downs now; only = k.only; disabled = k.disabled }
