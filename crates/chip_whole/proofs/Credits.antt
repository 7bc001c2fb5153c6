-- One cycle of a front, its two lines and its unit, as far as credits and answers go.
use Rattle.std.proofs.Common.{◌≡◌, ◌≤◌, ◌<◌, ℕ, zero, suc, ◌+◌, ◌⊎◌, inl, inr, min, Bool, true, false, eqb, ltb, cond, List, [], ◌∷◌, ◌++◌, length, Option, None, Some, refl, sym, subst, ap, ◌∙◌, arith, length-append}
use Rattle.std.proofs.lemmas.Bool.Decides.{nat_tests}
use Rattle.chip_base.specs.declared.message.Down.{Down}
use Rattle.chip_base.specs.declared.message.Down.TheVariants.{Reset, Set}
use Rattle.chip_base.specs.declared.message.Up.{Up}
use Rattle.chip_base.specs.Entries.{CountsEntries}
use Rattle.chip_base.specs.Messages.{entry_in, credit_in, reset_in, done_in}
use Rattle.chip_hub.specs.Cycle.{arrived_at}
use Rattle.chip_hub.proofs.Fronts.{CycleServes, ServesSerial}
use Rattle.delay_line.specs.Queue.{empty_link}
use Rattle.soc_words.specs.Link.{NoneBehind, count_on, link_first, link_moved}
use Rattle.soc_words.proofs.Links.{behind_more, count_more, count_most}
use Rattle.unit_fronts.specs.Counts.{HearsUnit}
use Rattle.unit_fronts.specs.SerialRegisters.{SerialRegisters, serial_is_open, serial_arrived, credited, received_by, serial_closed, serial_front_reset}
use Rattle.unit_fronts.proofs.Counts.{hears}
use Rattle.chip_whole.specs.Credits.{AnswersComing, HasSixteen, IsLine}

reset_few : (m : Option Down) → reset_in m ≤ 1
reset_few None = omega arith
reset_few (Some Reset) = omega arith
reset_few (Some (Set reg word)) = omega arith

done_few : (m : Option Up) → done_in m ≤ 1
done_few None = omega arith
done_few (Some u) = by_done u.done
  where
    by_done : (b : Bool) → cond b 1 0 ≤ 1
    by_done true = omega arith
    by_done false = omega arith

-- fewer answers are to come than a front counts, where the place that arrived was taken off the line down
pub owed_few : (owed : ℕ) (downs : List (Option Down)) (ups : List (Option Up)) → length downs < 4096 → length ups ≤ 4096 → AnswersComing owed downs ups → owed < 8192
owed_few owed downs ups l m a =
    let resets : count_on reset_in downs ≤ length downs = count_most reset_in reset_few downs in
    let dones : count_on done_in ups ≤ length ups = count_most done_in done_few ups in
    omega (arith, l, m, a, resets, dones)

open_owes_none : (p : SerialRegisters) → serial_is_open p ≡ true → p.owed ≡ 0
open_owes_none p h = let z : eqb p.owed 0 ≡ true = h in grind (arith, nat_tests)

closed_owes : (p : SerialRegisters) → serial_is_open p ≡ false → 1 ≤ p.owed
closed_owes p h = let z : eqb p.owed 0 ≡ false = h in grind (arith, nat_tests)

owes_is_closed : (p : SerialRegisters) → 1 ≤ p.owed → serial_is_open p ≡ false
owes_is_closed p h = grind (arith, nat_tests)

owes_none_is_open : (p : SerialRegisters) → p.owed ≡ 0 → serial_is_open p ≡ true
owes_none_is_open p h = grind (arith, nat_tests)

-- at most all sixteen are in the front
pub few_credits : (takes : ℕ → Bool) (p : SerialRegisters) (downs : List (Option Down)) (entries : ℕ) (ups : List (Option Up)) → HasSixteen takes p downs entries ups → p.credits ≤ 16
few_credits takes p downs entries ups h = by_open _ refl
  where
    by_open : (b : Bool) → serial_is_open p ≡ b → p.credits ≤ 16
    by_open true e = let s : p.credits + count_on (entry_in takes) downs + entries + count_on credit_in ups ≡ 16 = h.sum e in omega (arith, s)
    by_open false e = let s : p.credits ≡ 16 = h.all e in omega (arith, s)

-- the front hears what arrives, which leaves the line up

heard_open : (takes : ℕ → Bool) (p : SerialRegisters) (downs : List (Option Down)) (entries : ℕ) (u : Up) (ups : List (Option Up)) (new : SerialRegisters) → serial_is_open p ≡ true
    → HearsUnit p u new → new.owed ≡ p.owed → HasSixteen takes p downs entries (Some u ∷ ups) → HasSixteen takes new downs entries ups
heard_open takes p downs entries u ups new o r owed h =
    let none : p.owed ≡ 0 = open_owes_none p o in
    let coming : p.owed ≡ count_on reset_in downs + (done_in (Some u) + count_on done_in ups) = h.answers in
    let total : p.credits + count_on (entry_in takes) downs + entries + (credit_in (Some u) + count_on credit_in ups) ≡ 16 = h.sum o in
    let gone : done_in (Some u) ≡ 0 = omega (arith, none, coming) in
    let credits : new.credits ≡ min 16 (p.credits + credit_in (Some u)) = r.credits o gone in
    record {
      sum = λ e. omega (arith, total, credits);
      all = λ e. absurd (omega (arith, closed_owes new e, owed, none));
      room = omega (arith, total);
      answers = omega (arith, owed, none, coming);
      behind_reset = h.behind_reset;
      behind_answer = h.behind_answer.1;
      none_behind_answer = λ e. absurd (omega (arith, e, none, coming));
    }

heard_closed : (takes : ℕ → Bool) (p : SerialRegisters) (downs : List (Option Down)) (entries : ℕ) (u : Up) (ups : List (Option Up)) (new : SerialRegisters) → serial_is_open p ≡ false
    → HearsUnit p u new → HasSixteen takes p downs entries (Some u ∷ ups) → HasSixteen takes new downs entries ups
heard_closed takes p downs entries u ups new c r h =
    let coming : p.owed ≡ count_on reset_in downs + (done_in (Some u) + count_on done_in ups) = h.answers in
    let left : new.owed + done_in (Some u) ≡ p.owed = r.answers c in
    let credits : new.credits ≡ p.credits = ap (λ q. q.credits) (r.still c) in
    let sixteen : p.credits ≡ 16 = h.all c in
    let small : count_on (entry_in takes) downs + entries + (credit_in (Some u) + count_on credit_in ups) ≤ 16 = h.room in
    record {
      sum = λ e.
          let none : new.owed ≡ 0 = open_owes_none new e in
          let owes : 1 ≤ p.owed = closed_owes p c in
          let last : done_in (Some u) ≡ 1 = omega (arith, none, owes, left, done_few (Some u)) in
          let behind : count_on credit_in ups ≡ 0 = h.behind_answer.0 last in
          let empty : (entries ≡ 0) × (count_on (entry_in takes) downs ≡ 0) = h.none_behind_answer (omega (arith, last)) in
          omega (arith, credits, sixteen, behind, empty.0, empty.1);
      all = λ e. omega (arith, credits, sixteen);
      room = omega (arith, small);
      answers = omega (arith, coming, left);
      behind_reset = h.behind_reset;
      behind_answer = h.behind_answer.1;
      none_behind_answer = λ e. h.none_behind_answer (omega (arith, e));
    }

-- an open front waits for no answer after an arrival either
arrived_owed : (p : SerialRegisters) (u : Up) → serial_is_open p ≡ true → (serial_arrived p u).owed ≡ p.owed
arrived_owed p u o = rw o (by_done u.done)
  where
    by_room : (q : SerialRegisters) (word : ℕ) (b : Bool)
        → (cond b (record q { received = q.received ++ word ∷ [] }) (record q { overrun = true })).owed ≡ q.owed
    by_room q word true = refl
    by_room q word false = refl

    by_has : (q : SerialRegisters) (has : Bool) (word : ℕ) → (received_by q has word).owed ≡ q.owed
    by_has q true word = by_room q word (ltb (length q.received) 16)
    by_has q false word = refl

    by_credit : (q : SerialRegisters) (credit : Bool) → (credited q credit).owed ≡ q.owed
    by_credit q true = refl
    by_credit q false = refl

    by_done : (b : Bool) → (cond b p (received_by (credited p u.credit) u.has u.word)).owed ≡ p.owed
    by_done true = refl
    by_done false = by_has (credited p u.credit) u.has u.word ∙ by_credit p u.credit

heard_some : (takes : ℕ → Bool) (p : SerialRegisters) (downs : List (Option Down)) (entries : ℕ) (u : Up) (ups : List (Option Up)) → HasSixteen takes p downs entries (Some u ∷ ups)
    → HasSixteen takes (serial_arrived p u) downs entries ups
heard_some takes p downs entries u ups h = by_open _ refl
  where
    by_open : (b : Bool) → serial_is_open p ≡ b → HasSixteen takes (serial_arrived p u) downs entries ups
    by_open true e = heard_open takes p downs entries u ups (serial_arrived p u) e (hears p u (few_credits takes p downs entries (Some u ∷ ups) h)) (arrived_owed p u e) h
    by_open false e = heard_closed takes p downs entries u ups (serial_arrived p u) e (hears p u (few_credits takes p downs entries (Some u ∷ ups) h)) h

heard_none : (takes : ℕ → Bool) (p : SerialRegisters) (downs : List (Option Down)) (entries : ℕ) (ups : List (Option Up)) → HasSixteen takes p downs entries (None ∷ ups)
    → HasSixteen takes p downs entries ups
heard_none takes p downs entries ups h = record {
  sum = λ e. omega (arith, h.sum e);
  all = h.all;
  room = omega (arith, h.room);
  answers = omega (arith, h.answers);
  behind_reset = h.behind_reset;
  behind_answer = h.behind_answer.1;
  none_behind_answer = λ e. h.none_behind_answer (omega (arith, e));
}

pub heard_keeps : (takes : ℕ → Bool) (p : SerialRegisters) (downs : List (Option Down)) (entries : ℕ) (up : Option Up) (ups : List (Option Up)) → HasSixteen takes p downs entries (up ∷ ups)
    → HasSixteen takes (arrived_at p up) downs entries ups
heard_keeps takes p downs entries None ups h = heard_none takes p downs entries ups h
heard_keeps takes p downs entries (Some u) ups h = heard_some takes p downs entries u ups h

-- the front sends a message, which is the last on the line down

pub served_keeps : (takes : ℕ → Bool) (p : SerialRegisters) (downs : List (Option Down)) (entries : ℕ) (ups : List (Option Up)) (down : Option Down) (new : SerialRegisters)
    → ServesSerial takes p down new → HasSixteen takes p downs entries ups → HasSixteen takes new (downs ++ down ∷ []) entries ups
served_keeps takes p downs entries ups down new s h = by_open _ refl
  where
    datas : count_on (entry_in takes) (downs ++ down ∷ []) ≡ count_on (entry_in takes) downs + entry_in takes down
    datas = count_more (entry_in takes) downs down

    resets : count_on reset_in (downs ++ down ∷ []) ≡ count_on reset_in downs + reset_in down
    resets = count_more reset_in downs down

    by_open : (b : Bool) → serial_is_open p ≡ b → HasSixteen takes new (downs ++ down ∷ []) entries ups
    by_open true e =
        let none : p.owed ≡ 0 = open_owes_none p e in
        let coming : p.owed ≡ count_on reset_in downs + count_on done_in ups = h.answers in
        let total : p.credits + count_on (entry_in takes) downs + entries + count_on credit_in ups ≡ 16 = h.sum e in
        let spent : new.credits + entry_in takes down ≡ p.credits = s.credits.credits in
        let owed : new.owed ≡ p.owed = s.credits.owed in
        record {
          sum = λ f. omega (arith, total, spent, datas);
          all = λ f. absurd (omega (arith, closed_owes new f, owed, none));
          room = omega (arith, total, spent, datas);
          answers = omega (arith, owed, coming, resets, s.no_reset);
          behind_reset = behind_more reset_in (entry_in takes) downs down (inr (omega (arith, none, coming))) h.behind_reset;
          behind_answer = h.behind_answer;
          none_behind_answer = λ f. absurd (omega (arith, f, none, coming));
        }
    by_open false e =
        let nothing : entry_in takes down ≡ 0 = s.closed e in
        let coming : p.owed ≡ count_on reset_in downs + count_on done_in ups = h.answers in
        let small : count_on (entry_in takes) downs + entries + count_on credit_in ups ≤ 16 = h.room in
        let spent : new.credits + entry_in takes down ≡ p.credits = s.credits.credits in
        let owed : new.owed ≡ p.owed = s.credits.owed in
        let sixteen : p.credits ≡ 16 = h.all e in
        record {
          sum = λ f. absurd (omega (arith, open_owes_none new f, owed, closed_owes p e));
          all = λ f. omega (arith, spent, nothing, sixteen);
          room = omega (arith, small, datas, nothing);
          answers = omega (arith, owed, coming, resets, s.no_reset);
          behind_reset = behind_more reset_in (entry_in takes) downs down (inl nothing) h.behind_reset;
          behind_answer = h.behind_answer;
          none_behind_answer = λ f. let empty : (entries ≡ 0) × (count_on (entry_in takes) downs ≡ 0) = h.none_behind_answer f in (empty.0, omega (arith, empty.1, datas, nothing));
        }

-- the front closes, and its Reset is the last on the line down

pub closed_keeps : (takes : ℕ → Bool) (p : SerialRegisters) (downs : List (Option Down)) (entries : ℕ) (ups : List (Option Up)) → p.owed < 8192
    → HasSixteen takes p downs entries ups → HasSixteen takes (serial_closed p) (downs ++ Some Reset ∷ []) entries ups
closed_keeps takes p downs entries ups l h =
    let coming : p.owed ≡ count_on reset_in downs + count_on done_in ups = h.answers in
    let small : count_on (entry_in takes) downs + entries + count_on credit_in ups ≤ 16 = h.room in
    let datas : count_on (entry_in takes) (downs ++ Some Reset ∷ []) ≡ count_on (entry_in takes) downs + 0 = count_more (entry_in takes) downs (Some Reset) in
    let resets : count_on reset_in (downs ++ Some Reset ∷ []) ≡ count_on reset_in downs + 1 = count_more reset_in downs (Some Reset) in
    let owed : (serial_closed p).owed ≡ p.owed + 1 = omega (arith, l) in
    record {
      sum = λ f. absurd (omega (arith, open_owes_none (serial_closed p) f, owed));
      all = λ f. refl;
      room = omega (arith, small, datas);
      answers = omega (arith, owed, coming, resets);
      behind_reset = behind_more reset_in (entry_in takes) downs (Some Reset) (inl refl) h.behind_reset;
      behind_answer = h.behind_answer;
      none_behind_answer = λ f. let empty : (entries ≡ 0) × (count_on (entry_in takes) downs ≡ 0) = h.none_behind_answer f in (empty.0, omega (arith, empty.1, datas));
    }

-- the unit takes what arrives, which leaves the line down, and its message is the last on the line up

reset_or_not : (down : Option Down) → (reset_in down ≡ 0) ⊎ (reset_in down ≡ 1)
reset_or_not None = inl refl
reset_or_not (Some Reset) = inr refl
reset_or_not (Some (Set reg word)) = inl refl

pub unit_keeps : (takes : ℕ → Bool) (p : SerialRegisters) (down : Option Down) (downs : List (Option Down)) (entries new : ℕ) (ups : List (Option Up)) (up : Option Up)
    → CountsEntries takes entries down new up → HasSixteen takes p (down ∷ downs) entries ups → HasSixteen takes p downs new (ups ++ up ∷ [])
unit_keeps takes p down downs entries new ups up u h = by_reset (reset_or_not down)
  where
    credits : count_on credit_in (ups ++ up ∷ []) ≡ count_on credit_in ups + credit_in up
    credits = count_more credit_in ups up

    dones : count_on done_in (ups ++ up ∷ []) ≡ count_on done_in ups + done_in up
    dones = count_more done_in ups up

    by_reset : (reset_in down ≡ 0) ⊎ (reset_in down ≡ 1) → HasSixteen takes p downs new (ups ++ up ∷ [])
    by_reset (inl none) =
        let small : entry_in takes down + count_on (entry_in takes) downs + entries + count_on credit_in ups ≤ 16 = h.room in
        let count : new + credit_in up ≡ entries + entry_in takes down = u.entries none (omega (arith, small)) in
        let coming : p.owed ≡ reset_in down + count_on reset_in downs + count_on done_in ups = h.answers in
        record {
          sum = λ e. let total : p.credits + (entry_in takes down + count_on (entry_in takes) downs) + entries + count_on credit_in ups ≡ 16 = h.sum e in
              omega (arith, total, count, credits);
          all = h.all;
          room = omega (arith, small, count, credits);
          answers = omega (arith, coming, dones, none, u.answers);
          behind_reset = h.behind_reset.1;
          behind_answer = behind_more done_in credit_in ups up (by_answer (count_on done_in ups) refl) h.behind_answer;
          none_behind_answer = λ e.
              let empty : (entries ≡ 0) × (entry_in takes down + count_on (entry_in takes) downs ≡ 0) = h.none_behind_answer (omega (arith, e, dones, none, u.answers)) in
              (omega (arith, empty.0, empty.1, count), omega (arith, empty.1));
        }
      where
        by_answer : (n : ℕ) → count_on done_in ups ≡ n → (credit_in up ≡ 0) ⊎ (count_on done_in ups ≡ 0)
        by_answer zero e = inr e
        by_answer (suc n) e =
            let empty : (entries ≡ 0) × (entry_in takes down + count_on (entry_in takes) downs ≡ 0) = h.none_behind_answer (omega (arith, e)) in
            let count : new + credit_in up ≡ entries + entry_in takes down = u.entries none (omega (arith, empty.0, empty.1)) in
            inl (omega (arith, count, empty.0, empty.1))
    by_reset (inr one) =
        let small : entry_in takes down + count_on (entry_in takes) downs + entries + count_on credit_in ups ≤ 16 = h.room in
        let none : new + credit_in up ≡ 0 = u.after_reset one in
        let coming : p.owed ≡ reset_in down + count_on reset_in downs + count_on done_in ups = h.answers in
        let behind : count_on (entry_in takes) downs ≡ 0 = h.behind_reset.0 one in
        record {
          sum = λ e. absurd (omega (arith, open_owes_none p e, coming, one));
          all = h.all;
          room = omega (arith, small, none, credits);
          answers = omega (arith, coming, dones, one, u.answers);
          behind_reset = h.behind_reset.1;
          behind_answer = behind_more done_in credit_in ups up (inl (omega (arith, none))) h.behind_answer;
          none_behind_answer = λ e. (omega (arith, none), behind);
        }

-- a cycle of all four: each takes what arrives in it, and sends its message; with a Fire the front closes
pub cycle_keeps : (takes : ℕ → Bool) (p : SerialRegisters) (downs : List (Option Down)) (entries : ℕ) (ups : List (Option Up)) (fired : Bool) (down : Option Down) (new : SerialRegisters) (after : ℕ)
    (up : Option Up) → IsLine downs → IsLine ups → CycleServes serial_closed (ServesSerial takes) fired (arrived_at p (link_first ups)) down new
    → CountsEntries takes entries (link_first downs) after up → HasSixteen takes p downs entries ups → HasSixteen takes new (link_moved downs down) after (link_moved ups up)
cycle_keeps takes p [] entries ups fired down new after up l m s u h = absurd (omega (arith, l.0))
cycle_keeps takes p (d ∷ downs) entries [] fired down new after up l m s u h = absurd (omega (arith, m.0))
cycle_keeps takes p (d ∷ downs) entries (w ∷ ups) fired down new after up l m s u h = by_fired fired refl
  where
    hears_it : HasSixteen takes (arrived_at p w) (d ∷ downs) entries ups
    hears_it = heard_keeps takes p (d ∷ downs) entries w ups h

    takes_it : HasSixteen takes (arrived_at p w) downs after (ups ++ up ∷ [])
    takes_it = unit_keeps takes (arrived_at p w) d downs entries after ups up u hears_it

    few : (arrived_at p w).owed < 8192
    few =
        let longer : length (ups ++ up ∷ []) ≡ length ups + 1 = length-append ups (up ∷ []) in
        owed_few _ downs (ups ++ up ∷ []) (omega (arith, l.1)) (omega (arith, longer, m.1)) takes_it.answers

    by_fired : (b : Bool) → fired ≡ b → HasSixteen takes new (downs ++ down ∷ []) after (ups ++ up ∷ [])
    by_fired false e = served_keeps takes (arrived_at p w) downs after (ups ++ up ∷ []) down new (s.works e) takes_it
    by_fired true e =
        let shut : (new ≡ serial_closed (arrived_at p w)) × (down ≡ Some Reset) = s.closes e in
        subst (λ q. HasSixteen takes q (downs ++ down ∷ []) after (ups ++ up ∷ [])) (sym shut.0)
        (subst (λ sent. HasSixteen takes (serial_closed (arrived_at p w)) (downs ++ sent ∷ []) after (ups ++ up ∷ [])) (sym shut.1)
        (closed_keeps takes (arrived_at p w) downs after (ups ++ up ∷ []) few takes_it))

-- nothing on its way

pub count_empty : {M : Type 0} (count : Option M → ℕ) (delay : ℕ) → count None ≡ 0 → count_on count (empty_link delay) ≡ 0
unfolding empty_link
count_empty count zero e = refl
count_empty count (suc n) e = let rest : count_on count (empty_link n) ≡ 0 = count_empty count n e in omega (arith, e, rest)

behind_empty : {M : Type 0} (first second : Option M → ℕ) (delay : ℕ) → first None ≡ 0 → NoneBehind first second (empty_link delay)
unfolding empty_link
behind_empty first second zero e = tt
behind_empty first second (suc n) e = (λ f. absurd (omega (arith, e, f)), behind_empty first second n e)

-- at power-on
pub start_has : (takes : ℕ → Bool) (downs ups : ℕ) → HasSixteen takes (serial_front_reset 0) (empty_link downs) 0 (empty_link ups)
start_has takes downs ups =
    let entries : count_on (entry_in takes) (empty_link downs) ≡ 0 = count_empty (entry_in takes) downs refl in
    let credits : count_on credit_in (empty_link ups) ≡ 0 = count_empty credit_in ups refl in
    let resets : count_on reset_in (empty_link downs) ≡ 0 = count_empty reset_in downs refl in
    let dones : count_on done_in (empty_link ups) ≡ 0 = count_empty done_in ups refl in
    record {
      sum = λ e. omega (arith, entries, credits);
      all = λ e. refl;
      room = omega (arith, entries, credits);
      answers = omega (arith, resets, dones);
      behind_reset = behind_empty reset_in (entry_in takes) downs refl;
      behind_answer = behind_empty done_in credit_in ups refl;
      none_behind_answer = λ e. absurd (omega (arith, e, dones));
    }

-- a line keeps its length

moved_length : {M : Type 0} (line : List (Option M)) (m : Option M) → length (link_moved line m) ≡ length line
moved_length [] m = refl
moved_length (x ∷ rest) m = length-append rest (m ∷ []) ∙ omega arith

pub moved_line : {M : Type 0} (line : List (Option M)) (m : Option M) → IsLine line → IsLine (link_moved line m)
moved_line line m l = (omega (arith, l.0, moved_length line m), omega (arith, l.1, moved_length line m))

empty_length : (M : Type 0) (delay : ℕ) → length (empty_link {M = M} delay) ≡ delay
unfolding empty_link
empty_length M zero = refl
empty_length M (suc n) = ap suc (empty_length M n)

pub empty_line : (M : Type 0) (delay : ℕ) → 1 ≤ delay → delay ≤ 4096 → IsLine (empty_link {M = M} delay)
empty_line M delay l m = (omega (arith, l, empty_length M delay), omega (arith, m, empty_length M delay))
