-- Over a whole run the receiver keeps the last bytes that the unit sent since the current step became the current one.
use Rattle.std.proofs.Common.{◌≡◌, ◌≤◌, ◌<◌, ◌⊎◌, inl, inr, ℕ, zero, suc, ◌&&◌, Bool, true, false, eqb, leb, cond, List, [], ◌∷◌, ◌++◌, length, drop, Option, None, Some, refl, sym, ap, subst, ◌∙◌, arith, append-nil}
use Rattle.std.specs.Prelude.{is_some, slice_get}
use Rattle.std.specs.List.{ends_with, list_all}
use Rattle.std.proofs.lemmas.Bool.{false≢true}
use Rattle.std.proofs.lemmas.Bool.Decides.{nat_tests}
use Rattle.std.proofs.lemmas.Option.{slice_get_within}
use Rattle.chip_base.specs.Given.{Given}
use Rattle.chip_base.specs.Messages.{reset_in}
use Rattle.chip_base.specs.Runs.{given_after, unit_after}
use Rattle.chip_base.specs.Steps.{is_step}
use Rattle.chip_base.specs.declared.event.Event.{Event}
use Rattle.chip_base.specs.declared.message.Down.{Down}
use Rattle.chip_base.specs.declared.message.Down.TheVariants.{Reset, Set}
use Rattle.chip_base.specs.declared.script.UartStep.{UartStep}
use Rattle.chip_base.specs.declared.script.UartStep.TheVariants.{Expect}
use Rattle.uart_lane.specs.Counts.{bytes_out}
use Rattle.uart_lane.specs.Cycle.{uart_cycle}
use Rattle.uart_lane.specs.Hearing.{sent_in, sent_since, HearsAll, HearsItself}
use Rattle.uart_lane.specs.Receiver.{Receiver}
use Rattle.uart_lane.specs.Receiving.{current, framed, heard_with, is_sent, last_64, looked, passed, passes, ready, receive, run, step_bytes}
use Rattle.uart_lane.specs.State.{UartState, uart_start}
use Rattle.chip_base.proofs.Runs.{after_more, after_none, given_from_zero}
use Rattle.uart_lane.proofs.Along.{Receives, unit_receives}
use Rattle.uart_lane.proofs.Heard.{hears_enough}
use Rattle.uart_lane.proofs.Received.{PassesOne, hears_steps, ready_on, receive_steps, run_idle}

-- tests and lists

is_zero : (n : ℕ) → eqb n 0 ≡ true → 0 < n → n < 0
is_zero n e h = grind (arith, nat_tests)

is_one : (n : ℕ) → eqb n 1 ≡ true → 0 < n
is_one n e = grind (arith, nat_tests)

is_some_left : (n : ℕ) → eqb n 0 ≡ false → 0 < n
is_some_left n e = grind (arith, nat_tests)

is_none_left : (n : ℕ) → (0 < n → 0 < 0) → eqb n 0 ≡ true
is_none_left zero h = refl
is_none_left (suc n) h = absurd (omega (arith, h (omega arith)))

equal : (a b : ℕ) → a ≡ b → eqb a b ≡ true
equal a b h = grind (arith, nat_tests)

one_apart : (a b : ℕ) → suc a ≡ b → eqb a b ≡ false
one_apart a b h = grind (arith, nat_tests)

is_at_most : (a b : ℕ) → leb a b ≡ true → a ≤ b
is_at_most a b h = grind (arith, nat_tests)

left_true : (a b : Bool) → (a && b) ≡ true → a ≡ true
left_true true b h = refl
left_true false b h = h

right_true : (a b : Bool) → (a && b) ≡ true → b ≡ true
right_true true b h = h
right_true false b h = absurd (false≢true h)

nothing_at : (n : ℕ) → slice_get {X = ℕ} [] n ≡ None
nothing_at zero = refl
nothing_at (suc n) = refl

one_less : (steps : List UartStep) → 0 < length steps → suc (length (drop 1 steps)) ≡ length steps
one_less [] h = absurd (omega (arith, h))
one_less (step ∷ rest) h = refl

-- a step that sends a byte is a step
has_step : (image : List ℕ) (steps : List UartStep) → 0 < length (step_bytes image (slice_get steps 0)) → 0 < length steps
has_step image [] h = absurd (omega (arith, h))
has_step image (step ∷ rest) h = omega arith

passes_step : (r : Receiver) (now : ℕ) (step : Option UartStep) → current r ≡ step → passes r now step ≡ true → 0 < length r.steps
passes_step r now None e h = absurd (false≢true h)
passes_step r now (Some step) e h = slice_get_within r.steps 0 step e

-- while a frame runs, the current step is one that sends bytes

abbrev pub SendsWhileRunning : Receiver → Type 0
SendsWhileRunning r = 0 < r.left → 0 < length (step_bytes r.image (current r))

run_sends : (r : Receiver) (a b c : Bool) → eqb r.left 0 ≡ a → eqb r.left 1 ≡ b → is_sent r ≡ c → SendsWhileRunning r → SendsWhileRunning (run r).receiver
run_sends r true b c p q h s = rw p s
run_sends r false true true p q h s = rw (p, q, h) (λ l. absurd (omega (arith, l)))
run_sends r false true false p q h s = rw (p, q, h) (λ l. absurd (omega (arith, l)))
run_sends r false false c p q h s = rw (p, q) (λ l. s (is_some_left r.left p))

framed_sends : (r : Receiver) (frame : ℕ) (byte : Option ℕ) → slice_get (step_bytes r.image (current r)) r.begun_bytes ≡ byte → SendsWhileRunning r
    → SendsWhileRunning (framed r frame byte)
framed_sends r frame None e s = s
framed_sends r frame (Some byte) e s = λ l.
    let w : r.begun_bytes < length (step_bytes r.image (current r)) = slice_get_within (step_bytes r.image (current r)) r.begun_bytes byte e in omega (arith, w)

looked_sends : (r : Receiver) (now : ℕ) (enabled : Bool) (frame : ℕ) (a : Bool) → passes r now (current r) ≡ a → eqb r.left 0 ≡ true → SendsWhileRunning r
    → SendsWhileRunning (looked r now enabled frame)
looked_sends r now enabled frame true p z s = rw p (λ l. absurd (omega (arith, is_zero r.left z l)))
looked_sends r now true frame false p z s = rw p (framed_sends r frame _ refl s)
looked_sends r now false frame false p z s = rw p s

ready_sends : (r : Receiver) (now : ℕ) (enabled : Bool) (frame : ℕ) (a : Bool) → eqb r.left 0 ≡ a → SendsWhileRunning r
    → SendsWhileRunning (ready r now enabled frame)
ready_sends r now enabled frame true z s = rw z (looked_sends r now enabled frame _ refl z s)
ready_sends r now enabled frame false z s = rw z s

hears_sends : (r : Receiver) (event : Option Event) → SendsWhileRunning r → SendsWhileRunning (heard_with r event)
hears_sends r None s = s
hears_sends r (Some event) s = s

receive_sends : (r : Receiver) (now : ℕ) (event : Option Event) (enabled : Bool) (frame : ℕ) → SendsWhileRunning r
    → SendsWhileRunning (receive r now event enabled frame).receiver
unfolding receive
receive_sends r now event enabled frame s =
    run_sends (ready (heard_with r event) now enabled frame) _ _ _ refl refl refl
    (ready_sends (heard_with r event) now enabled frame _ refl (hears_sends r event s))

-- the current step and what was heard stay, or the step passes and nothing was heard since
abbrev pub StaysOrPasses : Receiver → Receiver → Type 0
StaysOrPasses old new =
    ((length new.steps ≡ length old.steps) × (new.heard ≡ old.heard)) ⊎ ((suc (length new.steps) ≡ length old.steps) × (new.heard ≡ []))

run_either : (r : Receiver) (a b c : Bool) → eqb r.left 0 ≡ a → eqb r.left 1 ≡ b → is_sent r ≡ c → (0 < r.left → 0 < length r.steps)
    → StaysOrPasses r (run r).receiver
run_either r true b c p q h s = rw p (inl (refl, refl))
run_either r false true true p q h s = rw (p, q, h) (inr (one_less r.steps (s (is_one r.left q)), refl))
run_either r false true false p q h s = rw (p, q, h) (inl (refl, refl))
run_either r false false c p q h s = rw (p, q) (inl (refl, refl))

framed_either : (r : Receiver) (frame : ℕ) (byte : Option ℕ) → slice_get (step_bytes r.image (current r)) r.begun_bytes ≡ byte → eqb r.left 0 ≡ true
    → StaysOrPasses r (run (framed r frame byte)).receiver
framed_either r frame None e z = rw z (inl (refl, refl))
framed_either r frame (Some byte) e z =
    let w : r.begun_bytes < length (step_bytes r.image (current r)) = slice_get_within (step_bytes r.image (current r)) r.begun_bytes byte e in
    run_either (framed r frame (Some byte)) _ _ _ refl refl refl (λ l. has_step r.image r.steps (omega (arith, w)))

looked_either : (r : Receiver) (now : ℕ) (enabled : Bool) (frame : ℕ) (a : Bool) → passes r now (current r) ≡ a → eqb r.left 0 ≡ true
    → StaysOrPasses r (run (looked r now enabled frame)).receiver
looked_either r now enabled frame true p z = rw (p, z) (inr (one_less r.steps (passes_step r now _ refl p), refl))
looked_either r now true frame false p z = rw p (framed_either r frame _ refl z)
looked_either r now false frame false p z = rw (p, z) (inl (refl, refl))

ready_either : (r : Receiver) (now : ℕ) (enabled : Bool) (frame : ℕ) (a : Bool) → eqb r.left 0 ≡ a → SendsWhileRunning r
    → StaysOrPasses r (run (ready r now enabled frame)).receiver
ready_either r now enabled frame true z s = rw z (looked_either r now enabled frame _ refl z)
ready_either r now enabled frame false z s = rw z (run_either r _ _ _ refl refl refl (λ l. has_step r.image r.steps (s l)))

receive_either : (r : Receiver) (now : ℕ) (event : Option Event) (enabled : Bool) (frame : ℕ) → SendsWhileRunning r
    → StaysOrPasses (heard_with r event) (receive r now event enabled frame).receiver
unfolding receive
receive_either r now event enabled frame s = ready_either (heard_with r event) now enabled frame _ refl (hears_sends r event s)

-- what is heard

heard_more : (r : Receiver) (event : Option Event) (all : List ℕ) → r.heard ≡ last_64 all → (heard_with r event).heard ≡ last_64 (all ++ bytes_out event)
heard_more r None all e = e ∙ ap last_64 (sym (append-nil all))
heard_more r (Some event) all e = ap (λ heard. last_64 (heard ++ event.value ∷ [])) e ∙ hears_enough.byte all event.value

since_passed : (new old : ℕ) (all heard before : List ℕ) → before ≡ last_64 all
    → ((new ≡ old) × (heard ≡ before)) ⊎ ((suc new ≡ old) × (heard ≡ [])) → heard ≡ last_64 (cond (eqb new old) all [])
since_passed new old all heard before e (inl s) = rw (equal new old s.0) (s.1 ∙ e)
since_passed new old all heard before e (inr s) = rw (one_apart new old s.0) s.1

-- the receiver of a run
pub record Keeps (r : Receiver) (all : List ℕ) : Type 0 where
  pub sends : SendsWhileRunning r
  pub valid : list_all is_step r.steps ≡ true
  pub heard : r.heard ≡ last_64 all

valid_rest : (steps : List UartStep) → list_all is_step steps ≡ true → list_all is_step (drop 1 steps) ≡ true
valid_rest [] v = v
valid_rest (step ∷ rest) v = right_true (is_step step) (list_all is_step rest) v

valid_after : (old new : List UartStep) → PassesOne old new → list_all is_step old ≡ true → list_all is_step new ≡ true
valid_after old new (inl e) v = ap (list_all is_step) e ∙ v
valid_after old new (inr e) v = ap (list_all is_step) e ∙ valid_rest old v

receive_keeps : (r : Receiver) (now : ℕ) (event : Option Event) (enabled : Bool) (frame : ℕ) (all : List ℕ) → Keeps r all
    → Keeps (receive r now event enabled frame).receiver
    (cond (eqb (length (receive r now event enabled frame).receiver.steps) (length r.steps)) (all ++ bytes_out event) [])
receive_keeps r now event enabled frame all k = record {
  sends = receive_sends r now event enabled frame k.sends;
  valid = valid_after r.steps (receive r now event enabled frame).receiver.steps (receive_steps r now event enabled frame) k.valid;
  heard = since_passed (length (receive r now event enabled frame).receiver.steps) (length r.steps) (all ++ bytes_out event)
      (receive r now event enabled frame).receiver.heard (heard_with r event).heard (heard_more r event all k.heard)
      (subst (λ steps. ((length (receive r now event enabled frame).receiver.steps ≡ length steps)
      × ((receive r now event enabled frame).receiver.heard ≡ (heard_with r event).heard))
      ⊎ ((suc (length (receive r now event enabled frame).receiver.steps) ≡ length steps)
      × ((receive r now event enabled frame).receiver.heard ≡ []))) (hears_steps r event) (receive_either r now event enabled frame k.sends));
}

-- all bytes that were sent since the current step became the current one, after a cycle
abbrev pub since : UartState → Given UartState → List ℕ → List ℕ
since s g all = cond (eqb (length g.unit.receiver.steps) (length s.receiver.steps)) (all ++ bytes_out g.event) []

worked_keeps : (s : UartState) (now : ℕ) (down : Option Down) (all : List ℕ) → reset_in down ≡ 0 → Keeps s.receiver all
    → Keeps (uart_cycle s now down).unit.receiver (since s (uart_cycle s now down) all)
worked_keeps s now down all h k =
    let a : (enabled : Bool) × (frame : ℕ) × Receives s now enabled frame (uart_cycle s now down) = unit_receives s now down h in
    subst (λ r. Keeps r (cond (eqb (length r.steps) (length s.receiver.steps)) (all ++ bytes_out (uart_cycle s now down).event) []))
    (sym a.2.receiver) (receive_keeps s.receiver now (uart_cycle s now down).event a.0 a.1 all k)

reset_keeps : (s : UartState) (now : ℕ) (all : List ℕ) → Keeps s.receiver all
    → Keeps (uart_cycle s now (Some Reset)).unit.receiver (since s (uart_cycle s now (Some Reset)) all)
unfolding uart_cycle
reset_keeps s now all k = record {
  sends = λ l. absurd (omega (arith, l));
  valid = k.valid;
  heard = since_passed (length s.receiver.steps) (length s.receiver.steps) (all ++ []) s.receiver.heard s.receiver.heard
      (k.heard ∙ ap last_64 (sym (append-nil all))) (inl (refl, refl));
}

cycle_keeps : (s : UartState) (now : ℕ) (down : Option Down) (all : List ℕ) → Keeps s.receiver all
    → Keeps (uart_cycle s now down).unit.receiver (since s (uart_cycle s now down) all)
cycle_keeps s now None all k = worked_keeps s now None all refl k
cycle_keeps s now (Some Reset) all k = reset_keeps s now all k
cycle_keeps s now (Some (Set reg word)) all k = worked_keeps s now (Some (Set reg word)) all refl k

run_keeps : (s : UartState) (downs : ℕ → Option Down) → Keeps s.receiver [] → (now : ℕ)
    → Keeps (unit_after uart_cycle s 0 downs now).receiver (sent_since s downs now)
unfolding sent_since
run_keeps s downs k zero = subst (λ u. Keeps u.receiver []) (sym (after_none uart_cycle s 0 downs)) k
run_keeps s downs k (suc now) =
    let u : UartState = unit_after uart_cycle s 0 downs now in
    subst (λ v. Keeps v.receiver (cond (eqb (length v.receiver.steps) (length u.receiver.steps)) (sent_since s downs now ++ sent_in s downs now) []))
    (sym (after_more uart_cycle s 0 downs now))
    (subst (λ g. Keeps g.unit.receiver (since u g (sent_since s downs now))) (sym (given_from_zero uart_cycle s downs now))
    (cycle_keeps u now (downs now) (sent_since s downs now) (run_keeps s downs k now)))

-- a look at an expect step

idle_at_expect : (r : Receiver) (text : List ℕ) → current r ≡ Some (Expect text) → SendsWhileRunning r → eqb r.left 0 ≡ true
idle_at_expect r text e s = is_none_left r.left (λ l. subst (λ step. 0 < length (step_bytes r.image step)) e (s l))

abbrev is_valid : Option UartStep → Bool
is_valid None = true
is_valid (Some step) = is_step step

short_text : (steps : List UartStep) (text : List ℕ) → list_all is_step steps ≡ true → slice_get steps 0 ≡ Some (Expect text) → length text ≤ 64
short_text [] text v e = absurd (false≢true (ap is_some e))
short_text (step ∷ rest) text v e =
    let valid : is_step (Expect text) ≡ true = sym (ap is_valid e) ∙ left_true (is_step step) (list_all is_step rest) v in
    is_at_most (length text) 64 (right_true _ (leb (length text) 64) valid)

-- what is left of the steps
abbrev left_of : List UartStep → Bool → List UartStep
left_of steps b = cond b (drop 1 steps) steps

looked_passes : (r : Receiver) (now : ℕ) (enabled : Bool) (frame : ℕ) → passes r now (current r) ≡ true → looked r now enabled frame ≡ passed r
looked_passes r now enabled frame p = rw p refl

looked_waits : (r : Receiver) (now : ℕ) (enabled : Bool) (frame : ℕ) (text : List ℕ) → passes r now (current r) ≡ false → current r ≡ Some (Expect text)
    → looked r now enabled frame ≡ r
looked_waits r now true frame text p e =
    rw p (ap (λ step. framed r frame (slice_get (step_bytes r.image step) r.begun_bytes)) e ∙ ap (framed r frame) (nothing_at r.begun_bytes))
looked_waits r now false frame text p e = rw p refl

look_by : (r : Receiver) (now : ℕ) (enabled : Bool) (frame : ℕ) (text : List ℕ) (b : Bool) → passes r now (current r) ≡ b → current r ≡ Some (Expect text)
    → eqb r.left 0 ≡ true → (run (ready r now enabled frame)).receiver.steps ≡ left_of r.steps b
look_by r now enabled frame text true p e z =
    ap (λ q. (run q).receiver.steps) (ready_on r now enabled frame z ∙ looked_passes r now enabled frame p) ∙ run_idle (passed r) z
look_by r now enabled frame text false p e z =
    ap (λ q. (run q).receiver.steps) (ready_on r now enabled frame z ∙ looked_waits r now enabled frame text p e) ∙ run_idle r z

-- whether all bytes end with the text decides
look_at : (r : Receiver) (now : ℕ) (enabled : Bool) (frame : ℕ) (all text : List ℕ) → r.heard ≡ last_64 all → current r ≡ Some (Expect text)
    → eqb r.left 0 ≡ true → length text ≤ 64 → (run (ready r now enabled frame)).receiver.steps ≡ left_of r.steps (ends_with eqb all text)
look_at r now enabled frame all text h e z l =
    look_by r now enabled frame text (ends_with eqb all text)
    (ap (passes r now) e ∙ ap (λ heard. ends_with eqb heard text) h ∙ hears_enough.text all text l) e z

receive_at : (r : Receiver) (now : ℕ) (event : Option Event) (enabled : Bool) (frame : ℕ) (all text : List ℕ) → Keeps r all → current r ≡ Some (Expect text)
    → (receive r now event enabled frame).receiver.steps ≡ left_of r.steps (ends_with eqb (all ++ bytes_out event) text)
unfolding receive
receive_at r now None enabled frame all text k e =
    look_at r now enabled frame (all ++ []) text (heard_more r None all k.heard) e (idle_at_expect r text e k.sends) (short_text r.steps text k.valid e)
receive_at r now (Some event) enabled frame all text k e =
    look_at (heard_with r (Some event)) now enabled frame (all ++ event.value ∷ []) text (heard_more r (Some event) all k.heard) e
    (idle_at_expect r text e k.sends) (short_text r.steps text k.valid e)

worked_at : (s : UartState) (now : ℕ) (down : Option Down) (all text : List ℕ) → reset_in down ≡ 0 → Keeps s.receiver all → current s.receiver ≡ Some (Expect text)
    → (uart_cycle s now down).unit.receiver.steps ≡ left_of s.receiver.steps (ends_with eqb (all ++ bytes_out (uart_cycle s now down).event) text)
worked_at s now down all text h k e =
    let a : (enabled : Bool) × (frame : ℕ) × Receives s now enabled frame (uart_cycle s now down) = unit_receives s now down h in
    ap (λ r. r.steps) a.2.receiver ∙ receive_at s.receiver now (uart_cycle s now down).event a.0 a.1 all text k e

cycle_at : (s : UartState) (now : ℕ) (down : Option Down) (all text : List ℕ) → Keeps s.receiver all → current s.receiver ≡ Some (Expect text)
    → (uart_cycle s now down).unit.receiver.steps
    ≡ left_of s.receiver.steps (eqb (reset_in down) 0 && ends_with eqb (all ++ bytes_out (uart_cycle s now down).event) text)
unfolding uart_cycle
cycle_at s now None all text k e = worked_at s now None all text refl k e
cycle_at s now (Some Reset) all text k e = refl
cycle_at s now (Some (Set reg word)) all text k e = worked_at s now (Some (Set reg word)) all text refl k e

at_power_on : (number : ℕ) (steps : List UartStep) (image : List ℕ) → list_all is_step steps ≡ true → Keeps (uart_start number steps image).receiver []
at_power_on number steps image v = record { sends = λ l. absurd (omega (arith, l)); valid = v; heard = refl }

hears_itself : (s : UartState) (downs : ℕ → Option Down) (now : ℕ) → Keeps (unit_after uart_cycle s 0 downs now).receiver (sent_since s downs now)
    → HearsItself s downs now
hears_itself s downs now k =
    let u : UartState = unit_after uart_cycle s 0 downs now in
    let same : given_after uart_cycle s 0 downs now ≡ uart_cycle u now (downs now) = given_from_zero uart_cycle s downs now in record {
      kept = k.heard;
      expected = λ text e.
          ap (λ v. v.receiver.steps) (after_more uart_cycle s 0 downs now) ∙ ap (λ g. g.unit.receiver.steps) same
          ∙ cycle_at u now (downs now) (sent_since s downs now) text k e
          ∙ ap (λ g. left_of u.receiver.steps (eqb (reset_in (downs now)) 0 && ends_with eqb (sent_since s downs now ++ bytes_out g.event) text)) (sym same);
    }

-- what a unit hears in each run from power-on
pub hears_all : (number : ℕ) (steps : List UartStep) (image : List ℕ) → HearsAll (uart_start number steps image)
unfolding HearsAll
hears_all number steps image v downs now =
    hears_itself (uart_start number steps image) downs now
    (run_keeps (uart_start number steps image) downs (at_power_on number steps image v) now)
