-- A queue of messages as the places of a link.
use Rattle.std.proofs.Common.{◌≡◌, ℕ, zero, suc, ◌+◌, ◌<◌, ◌≤◌, List, [], ◌∷◌, ◌++◌, Option, Some, None, refl, ap, ap₂, sym, ◌∙◌, arith, subst, add-one}
use Rattle.std.specs.Prelude.{length, ◌==◌, if◌then◌else◌, Bool, true, false}
use Rattle.std.proofs.lemmas.Bool.Decides.{nat_tests}
use Rattle.soc_words.specs.Link.{link_first, link_moved}
use Rattle.delay_line.specs.Queue.{Flow, places_of, ArriveIn, empty_link, flowed, left_after, arriving_of}
use Rattle.delay_line.specs.declared.link.Timed.{Timed}

pub places_of_nothing : {M : Type 0} (now count : ℕ) → places_of {M = M} [] now count ≡ empty_link count
unfolding places_of empty_link
places_of_nothing now zero = refl
places_of_nothing now (suc count) = ap (λ link. None ∷ link) (places_of_nothing (suc now) count)

places_here : {M : Type 0} (t : Timed M) (rest : List (Timed M)) (now count : ℕ) → (t.at == now) ≡ true
    → places_of (t ∷ rest) now (suc count) ≡ Some t.msg ∷ places_of rest (suc now) count
unfolding places_of
places_here t rest now count e =
    ap (λ b. if b then Some t.msg ∷ places_of rest (suc now) count else None ∷ places_of (t ∷ rest) (suc now) count) e

places_later : {M : Type 0} (t : Timed M) (rest : List (Timed M)) (now count : ℕ) → (t.at == now) ≡ false
    → places_of (t ∷ rest) now (suc count) ≡ None ∷ places_of (t ∷ rest) (suc now) count
unfolding places_of
places_later t rest now count e =
    ap (λ b. if b then Some t.msg ∷ places_of rest (suc now) count else None ∷ places_of (t ∷ rest) (suc now) count) e

places_none : {M : Type 0} (now : ℕ) (q : List (Timed M)) → places_of q now zero ≡ []
unfolding places_of
places_none now [] = refl
places_none now (t ∷ rest) = refl

places_empty : {M : Type 0} (now count : ℕ) → places_of {M = M} [] now (suc count) ≡ None ∷ places_of [] (suc now) count
unfolding places_of
places_empty now count = refl

test_true : (a b : ℕ) → (a == b) ≡ true → a ≡ b
test_true a b e = grind (arith, nat_tests)

test_false : (a b : ℕ) → (a == b) ≡ false → a ≤ b → suc a ≤ b
test_false a b e l = grind (arith, nat_tests)

test_same : (a b : ℕ) → a ≡ b → (a == b) ≡ true
test_same a b e = grind (arith, nat_tests)

test_apart : (a b : ℕ) → b < a → (a == b) ≡ false
test_apart a b l = grind (arith, nat_tests)

sym_test : (a b : ℕ) → (a == b) ≡ false → (b == a) ≡ false
sym_test a b e = grind (arith, nat_tests)

-- one more cycle, in which nothing arrives
more_none : {M : Type 0} (count now : ℕ) (q : List (Timed M)) → ArriveIn now (now + count) q
    → places_of q now (suc count) ≡ places_of q now count ++ None ∷ []
more_none zero now [] a = places_empty now zero ∙ ap (λ link. None ∷ link) (places_none (suc now) []) ∙ sym (ap (λ link. link ++ None ∷ []) (places_none now []))
more_none zero now (t ∷ rest) a = absurd (omega (arith, a.0, a.1))
more_none (suc count) now [] a =
    places_empty now (suc count) ∙ ap (λ link. None ∷ link) (more_none count (suc now) [] (omega arith))
    ∙ sym (ap (λ link. link ++ None ∷ []) (places_empty now count))
more_none {M = M} (suc count) now (t ∷ rest) a =
    let here : (b : Bool) → (t.at == now) ≡ b → places_of (t ∷ rest) now (suc (suc count)) ≡ places_of (t ∷ rest) now (suc count) ++ None ∷ []
    = λ b e. more_none_by count now t rest a b e (more_none count (suc now) rest) (more_none count (suc now) (t ∷ rest)) in
    here (t.at == now) refl
  where
    more_none_by : {M : Type 0} (count now : ℕ) (t : Timed M) (rest : List (Timed M)) → ArriveIn now (now + suc count) (t ∷ rest) → (b : Bool) → (t.at == now) ≡ b
        → (ArriveIn (suc now) (suc now + count) rest → places_of rest (suc now) (suc count) ≡ places_of rest (suc now) count ++ None ∷ [])
        → (ArriveIn (suc now) (suc now + count) (t ∷ rest) → places_of (t ∷ rest) (suc now) (suc count) ≡ places_of (t ∷ rest) (suc now) count ++ None ∷ [])
        → places_of (t ∷ rest) now (suc (suc count)) ≡ places_of (t ∷ rest) now (suc count) ++ None ∷ []
    more_none_by count now t rest a true e p q =
        let same : t.at ≡ now = test_true t.at now e in
        let far : now + suc count ≡ suc now + count = omega arith in
        let inside : ArriveIn (suc now) (suc now + count) rest = subst (λ to. ArriveIn (suc now) to rest) far (subst (λ at. ArriveIn (suc at) (now + suc count) rest) same a.2) in
        places_here t rest now (suc count) e ∙ ap (λ link. Some t.msg ∷ link) (p inside) ∙ sym (ap (λ link. link ++ None ∷ []) (places_here t rest now count e))
    more_none_by count now t rest a false e p q =
        let far : now + suc count ≡ suc now + count = omega arith in
        let inside : ArriveIn (suc now) (suc now + count) (t ∷ rest) = (test_false now t.at (sym_test t.at now e) a.0, omega (arith, a.1), subst (λ to. ArriveIn (suc t.at) to rest) far a.2) in
        places_later t rest now (suc count) e ∙ ap (λ link. None ∷ link) (q inside) ∙ sym (ap (λ link. link ++ None ∷ []) (places_later t rest now count e))

-- one more cycle, in which a message arrives
more_some : {M : Type 0} (count now : ℕ) (q : List (Timed M)) (at : ℕ) (msg : M) → at ≡ now + count → ArriveIn now (now + count) q
    → places_of (q ++ record { at = at; msg = msg } ∷ []) now (suc count) ≡ places_of q now count ++ Some msg ∷ []
more_some zero now [] at msg e a =
    places_here (record { at = at; msg = msg }) [] now zero (test_same at now (omega (arith, e)))
    ∙ ap (λ link. Some msg ∷ link) (places_none (suc now) []) ∙ sym (ap (λ link. link ++ Some msg ∷ []) (places_none now []))
more_some zero now (t ∷ rest) at msg e a = absurd (omega (arith, a.0, a.1))
more_some (suc count) now [] at msg e a =
    places_later (record { at = at; msg = msg }) [] now (suc count) (test_apart at now (omega (arith, e)))
    ∙ ap (λ link. None ∷ link) (more_some count (suc now) [] at msg (omega (arith, e)) (omega arith))
    ∙ sym (ap (λ link. link ++ Some msg ∷ []) (places_empty now count))
more_some {M = M} (suc count) now (t ∷ rest) at msg e a =
    let here : (b : Bool) → (t.at == now) ≡ b
    → places_of (t ∷ rest ++ record { at = at; msg = msg } ∷ []) now (suc (suc count)) ≡ places_of (t ∷ rest) now (suc count) ++ Some msg ∷ []
    = λ b f. more_some_by count now t rest at msg a b f (more_some count (suc now) rest at msg (omega (arith, e))) (more_some count (suc now) (t ∷ rest) at msg (omega (arith, e))) in
    here (t.at == now) refl
  where
    more_some_by : {M : Type 0} (count now : ℕ) (t : Timed M) (rest : List (Timed M)) (at : ℕ) (msg : M) → ArriveIn now (now + suc count) (t ∷ rest)
        → (b : Bool) → (t.at == now) ≡ b
        → (ArriveIn (suc now) (suc now + count) rest
        → places_of (rest ++ record { at = at; msg = msg } ∷ []) (suc now) (suc count) ≡ places_of rest (suc now) count ++ Some msg ∷ [])
        → (ArriveIn (suc now) (suc now + count) (t ∷ rest)
        → places_of (t ∷ rest ++ record { at = at; msg = msg } ∷ []) (suc now) (suc count) ≡ places_of (t ∷ rest) (suc now) count ++ Some msg ∷ [])
        → places_of (t ∷ rest ++ record { at = at; msg = msg } ∷ []) now (suc (suc count)) ≡ places_of (t ∷ rest) now (suc count) ++ Some msg ∷ []
    more_some_by count now t rest at msg a true e p q =
        let same : t.at ≡ now = test_true t.at now e in
        let far : now + suc count ≡ suc now + count = omega arith in
        let inside : ArriveIn (suc now) (suc now + count) rest = subst (λ to. ArriveIn (suc now) to rest) far (subst (λ at. ArriveIn (suc at) (now + suc count) rest) same a.2) in
        places_here t (rest ++ record { at = at; msg = msg } ∷ []) now (suc count) e ∙ ap (λ link. Some t.msg ∷ link) (p inside)
        ∙ sym (ap (λ link. link ++ Some msg ∷ []) (places_here t rest now count e))
    more_some_by count now t rest at msg a false e p q =
        let far : now + suc count ≡ suc now + count = omega arith in
        let inside : ArriveIn (suc now) (suc now + count) (t ∷ rest) = (test_false now t.at (sym_test t.at now e) a.0, omega (arith, a.1), subst (λ to. ArriveIn (suc t.at) to rest) far a.2) in
        places_later t (rest ++ record { at = at; msg = msg } ∷ []) now (suc count) e ∙ ap (λ link. None ∷ link) (q inside)
        ∙ sym (ap (λ link. link ++ Some msg ∷ []) (places_later t rest now count e))

-- the stretch may end later
widened : {M : Type 0} (from to far : ℕ) (q : List (Timed M)) → to ≤ far → ArriveIn from to q → ArriveIn from far q
widened from to far [] l a = omega (arith, l, a)
widened from to far (t ∷ rest) l a = (a.0, omega (arith, a.1, l), widened (suc t.at) to far rest l a.2)

-- a message behind all others
pushed : {M : Type 0} (from to far : ℕ) (q : List (Timed M)) (at : ℕ) (msg : M) → to ≤ at → at < far → ArriveIn from to q
    → ArriveIn from far (q ++ record { at = at; msg = msg } ∷ [])
pushed from to far [] at msg l m a = (omega (arith, l, a), m, omega (arith, m))
pushed from to far (t ∷ rest) at msg l m a = (a.0, omega (arith, a.1, l, m), pushed (suc t.at) to far rest at msg l m a.2)

-- what is left arrives later
left : {M : Type 0} (now to : ℕ) (q : List (Timed M)) → now < to → ArriveIn now to q → ArriveIn (suc now) to (left_after q now)
left now to [] l a = omega (arith, l)
left {M = M} now to (t ∷ rest) l a =
    let here : (b : Bool) → (t.at == now) ≡ b → ArriveIn (suc now) to (left_after (t ∷ rest) now) = left_by now to t rest a in
    here (t.at == now) refl
  where
    left_by : {M : Type 0} (now to : ℕ) (t : Timed M) (rest : List (Timed M)) → ArriveIn now to (t ∷ rest) → (b : Bool) → (t.at == now) ≡ b
        → ArriveIn (suc now) to (left_after (t ∷ rest) now)
    left_by now to t rest a true e =
        subst (λ b. ArriveIn (suc now) to (if b then rest else t ∷ rest)) (sym e)
        (subst (λ at. ArriveIn (suc at) to rest) (test_true t.at now e) a.2)
    left_by now to t rest a false e =
        subst (λ b. ArriveIn (suc now) to (if b then rest else t ∷ rest)) (sym e)
        (test_false now t.at (sym_test t.at now e) a.0, a.1, a.2)

-- the places of what is left, without the first place
left_places : {M : Type 0} (now count : ℕ) (q : List (Timed M)) (sent : Option M)
    → link_moved (places_of q now (suc count)) sent ≡ places_of (left_after q now) (suc now) count ++ sent ∷ []
left_places now count [] sent = ap (λ link. link_moved link sent) (places_empty now count)
left_places {M = M} now count (t ∷ rest) sent =
    let here : (b : Bool) → (t.at == now) ≡ b
    → link_moved (places_of (t ∷ rest) now (suc count)) sent ≡ places_of (left_after (t ∷ rest) now) (suc now) count ++ sent ∷ []
    = left_places_by now count t rest sent in
    here (t.at == now) refl
  where
    left_places_by : {M : Type 0} (now count : ℕ) (t : Timed M) (rest : List (Timed M)) (sent : Option M) → (b : Bool) → (t.at == now) ≡ b
        → link_moved (places_of (t ∷ rest) now (suc count)) sent ≡ places_of (left_after (t ∷ rest) now) (suc now) count ++ sent ∷ []
    left_places_by now count t rest sent true e =
        ap (λ link. link_moved link sent) (places_here t rest now count e)
        ∙ sym (ap (λ b. places_of (if b then rest else t ∷ rest) (suc now) count ++ sent ∷ []) e)
    left_places_by now count t rest sent false e =
        ap (λ link. link_moved link sent) (places_later t rest now count e)
        ∙ sym (ap (λ b. places_of (if b then rest else t ∷ rest) (suc now) count ++ sent ∷ []) e)

pub stays_none : {M : Type 0} (now delay : ℕ) (q : List (Timed M)) → 1 ≤ delay → ArriveIn now (now + delay) q
    → ArriveIn (now + 1) (now + 1 + delay) (left_after q now)
stays_none now delay q l a =
    subst (λ from. ArriveIn from (now + 1 + delay) (left_after q now)) (sym (add-one now))
    (widened (suc now) (now + delay) (now + 1 + delay) (left_after q now) (omega arith) (left now (now + delay) q (omega (arith, l)) a))

pub stays_some : {M : Type 0} (now delay : ℕ) (q : List (Timed M)) (msg : M) → 1 ≤ delay → ArriveIn now (now + delay) q
    → ArriveIn (now + 1) (now + 1 + delay) (left_after q now ++ record { at = now + delay; msg = msg } ∷ [])
stays_some now delay q msg l a =
    subst (λ from. ArriveIn from (now + 1 + delay) (left_after q now ++ record { at = now + delay; msg = msg } ∷ [])) (sym (add-one now))
    (pushed (suc now) (now + delay) (now + 1 + delay) (left_after q now) (now + delay) msg (omega arith) (omega arith)
    (left now (now + delay) q (omega (arith, l)) a))

moved_none : {M : Type 0} (now delay : ℕ) (q : List (Timed M)) → 1 ≤ delay → ArriveIn now (now + delay) q
    → places_of (left_after q now) (now + 1) delay ≡ link_moved (places_of q now delay) None
moved_none now zero q l a = absurd (omega (arith, l))
moved_none now (suc count) q l a =
    let inside : ArriveIn (suc now) (suc now + count) (left_after q now)
    = subst (λ to. ArriveIn (suc now) to (left_after q now)) (omega arith) (left now (now + suc count) q (omega arith) a) in
    ap (λ from. places_of (left_after q now) from (suc count)) (add-one now)
    ∙ more_none count (suc now) (left_after q now) inside ∙ sym (left_places now count q None)

moved_some : {M : Type 0} (now delay : ℕ) (q : List (Timed M)) (msg : M) → 1 ≤ delay → ArriveIn now (now + delay) q
    → places_of (left_after q now ++ record { at = now + delay; msg = msg } ∷ []) (now + 1) delay ≡ link_moved (places_of q now delay) (Some msg)
moved_some now zero q msg l a = absurd (omega (arith, l))
moved_some now (suc count) q msg l a =
    let inside : ArriveIn (suc now) (suc now + count) (left_after q now)
    = subst (λ to. ArriveIn (suc now) to (left_after q now)) (omega arith) (left now (now + suc count) q (omega arith) a) in
    ap (λ from. places_of (left_after q now ++ record { at = now + suc count; msg = msg } ∷ []) from (suc count)) (add-one now)
    ∙ more_some count (suc now) (left_after q now) (now + suc count) msg (omega arith) inside ∙ sym (left_places now count q (Some msg))

-- a message is put behind what is left
pub put_behind : {M : Type 0} (now d delay : ℕ) (new mid old : List (Timed M)) (msg : M) → new ≡ mid ++ record { at = now + d; msg = msg } ∷ [] → mid ≡ old → d ≡ delay
    → new ≡ old ++ record { at = now + delay; msg = msg } ∷ []
put_behind {M = M} now d delay new mid old msg e f h = e ∙ ap₂ (λ (queue : List (Timed M)) (k : ℕ). queue ++ record { at = now + k; msg = msg } ∷ []) f h

-- the link after a cycle
pub stepped_some : {M : Type 0} (now delay : ℕ) (q later : List (Timed M)) (f : Flow M) (sent : Option M) (msg : M) → 1 ≤ delay → ArriveIn now (now + delay) q
    → (let link : Flow M = record { cycle = now; places = places_of q now delay } in link ≡ f) → sent ≡ Some msg
    → later ≡ left_after q now ++ record { at = now + delay; msg = msg } ∷ []
    → (let link : Flow M = record { cycle = now + 1; places = places_of later (now + 1) delay } in link ≡ flowed f sent)
stepped_some {M = M} now delay q later f sent msg l a v s e =
    ap₂ (λ (cycle : ℕ) (places : List (Option M)). record { cycle = cycle; places = places }) (add-one now)
    (ap (λ q. places_of q (now + 1) delay) e ∙ moved_some now delay q msg l a ∙ ap (link_moved (places_of q now delay)) (sym s))
    ∙ ap (λ f. flowed f sent) v

pub stepped_none : {M : Type 0} (now delay : ℕ) (q later : List (Timed M)) (f : Flow M) (sent : Option M) → 1 ≤ delay → ArriveIn now (now + delay) q
    → (let link : Flow M = record { cycle = now; places = places_of q now delay } in link ≡ f) → sent ≡ None
    → later ≡ left_after q now
    → (let link : Flow M = record { cycle = now + 1; places = places_of later (now + 1) delay } in link ≡ flowed f sent)
stepped_none {M = M} now delay q later f sent l a v s e =
    ap₂ (λ (cycle : ℕ) (places : List (Option M)). record { cycle = cycle; places = places }) (add-one now)
    (ap (λ q. places_of q (now + 1) delay) e ∙ moved_none now delay q l a ∙ ap (link_moved (places_of q now delay)) (sym s))
    ∙ ap (λ f. flowed f sent) v

pub arriving_first : {M : Type 0} (now delay : ℕ) (q : List (Timed M)) → 1 ≤ delay → arriving_of q now ≡ link_first (places_of q now delay)
arriving_first now zero q l = absurd (omega (arith, l))
arriving_first now (suc count) [] l = sym (ap link_first (places_empty now count))
arriving_first {M = M} now (suc count) (t ∷ rest) l =
    let here : (b : Bool) → (t.at == now) ≡ b → arriving_of (t ∷ rest) now ≡ link_first (places_of (t ∷ rest) now (suc count))
    = arriving_by now count t rest in
    here (t.at == now) refl
  where
    arriving_by : {M : Type 0} (now count : ℕ) (t : Timed M) (rest : List (Timed M)) → (b : Bool) → (t.at == now) ≡ b
        → arriving_of (t ∷ rest) now ≡ link_first (places_of (t ∷ rest) now (suc count))
    arriving_by now count t rest true e =
        ap (λ b. if b then Some t.msg else None) e ∙ sym (ap link_first (places_here t rest now count e))
    arriving_by now count t rest false e =
        ap (λ b. if b then Some t.msg else None) e ∙ sym (ap link_first (places_later t rest now count e))

-- at most one message a cycle
few : {M : Type 0} (from to : ℕ) (q : List (Timed M)) → ArriveIn from to q → length q + from ≤ to
few from to [] a = omega (arith, a)
few from to (t ∷ rest) a = let more : length rest + suc t.at ≤ to = few (suc t.at) to rest a.2 in omega (arith, more, a.0)

-- after the arrivals of a cycle there is a free place
pub room : {M : Type 0} (now delay : ℕ) (q : List (Timed M)) → 1 ≤ delay → ArriveIn now (now + delay) q → length (left_after q now) < delay
room now delay q l a =
    let most : length (left_after q now) + suc now ≤ now + delay = few (suc now) (now + delay) (left_after q now) (left now (now + delay) q (omega (arith, l)) a) in
    omega (arith, most)
