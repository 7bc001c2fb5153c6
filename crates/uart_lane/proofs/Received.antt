-- What a cycle does to the script.
use Rattle.std.proofs.Common.{◌≡◌, ◌≤◌, ◌<◌, ℕ, ◌+◌, ◌-◌, ◌⊎◌, inl, inr, Bool, true, false, eqb, ltb, leb, List, [], ◌∷◌, ◌++◌, length, drop, Option, None, Some, refl, sym, ap, subst, ◌∙◌, arith}
use Rattle.std.specs.Prelude.{is_some, option_to_list, slice_get}
use Rattle.std.proofs.lemmas.Bool.{false≢true}
use Rattle.std.proofs.lemmas.Bool.Decides.{nat_tests}
use Rattle.std.proofs.lemmas.List.{drop_all, drop_more}
use Rattle.std.proofs.lemmas.Option.{get_or_from_slice_get, slice_get_within}
use Rattle.chip_base.specs.declared.event.Event.{Event}
use Rattle.chip_base.specs.declared.message.Down.{Down}
use Rattle.chip_base.specs.declared.message.Down.TheVariants.{Reset, Set}
use Rattle.chip_base.specs.declared.message.Up.{Up}
use Rattle.chip_base.specs.declared.script.UartStep.{UartStep}
use Rattle.chip_base.specs.declared.script.UartStep.TheVariants.{At, Expect, Send, Image}
use Rattle.chip_base.specs.Given.{Given}
use Rattle.uart_lane.specs.Cycle.{begun, frame_of, frame_sent as sent_last, heard_by, may_begin, queued, received, sent, set_in, uart_cycle, with_byte}
use Rattle.uart_lane.specs.Receiver.{Receiver}
use Rattle.uart_lane.specs.Receiving.{current, frame_received, framed, heard_with, is_sent, looked, passed, passes, ready, receive, run, step_bytes}
use Rattle.uart_lane.specs.Script.{KeepsScript, byte_up, not_begun, sent_by, to_come}
use Rattle.uart_lane.specs.State.{UartState}

-- lists and tests

pub at_most : (a b : ℕ) → leb a b ≡ true → a ≤ b
at_most a b h = grind (arith, nat_tests)

pub none_after : (n : ℕ) (bytes : List ℕ) → leb (length bytes) n ≡ true → drop n bytes ≡ []
none_after n bytes h = drop_all n bytes (at_most (length bytes) n h)

pub drop_got : (n : ℕ) (bytes : List ℕ) (b : ℕ) → slice_get bytes n ≡ Some b → drop n bytes ≡ b ∷ drop (n + 1) bytes
drop_got n bytes b h =
    drop_more bytes n b (slice_get_within bytes n b h) ∙ ap (λ x. x ∷ drop (n + 1) bytes) (get_or_from_slice_get bytes n b b h)

-- where no byte of the current step is left, those of the later steps are to come
sent_on : (image : List ℕ) (begun_bytes : ℕ) (steps : List UartStep) → leb (length (step_bytes image (slice_get steps 0))) begun_bytes ≡ true
    → sent_by image begun_bytes steps ≡ sent_by image 0 (drop 1 steps)
sent_on image begun_bytes [] h = refl
sent_on image begun_bytes (step ∷ rest) h = ap (λ bytes. bytes ++ sent_by image 0 rest) (none_after begun_bytes (step_bytes image (Some step)) h)

pub passed_keeps : (r : Receiver) → is_sent r ≡ true → not_begun r ≡ not_begun (passed r)
passed_keeps r h = sent_on r.image r.begun_bytes r.steps h

pub none_first : (n : ℕ) → leb 0 n ≡ true
none_first n = grind (arith, nat_tests)

-- a step that passes at a look has no byte left
pub look_sent : (r : Receiver) (now : ℕ) (step : Option UartStep) → current r ≡ step → passes r now step ≡ true → is_sent r ≡ true
look_sent r now None e h = absurd (false≢true h)
look_sent r now (Some (At cycle)) e h = rw e (none_first r.begun_bytes)
look_sent r now (Some (Expect text)) e h = rw e (none_first r.begun_bytes)
look_sent r now (Some (Send text)) e h = h
look_sent r now (Some Image) e h = h

-- a byte whose frame begins is the first of those that had none
framed_on : (image : List ℕ) (begun_bytes byte : ℕ) (steps : List UartStep) → slice_get (step_bytes image (slice_get steps 0)) begun_bytes ≡ Some byte
    → sent_by image begun_bytes steps ≡ byte ∷ sent_by image (begun_bytes + 1) steps
framed_on image begun_bytes byte [] h = absurd (false≢true (ap is_some h))
framed_on image begun_bytes byte (step ∷ rest) h = ap (λ bytes. bytes ++ sent_by image 0 rest) (drop_got begun_bytes (step_bytes image (Some step)) byte h)

-- the parts of a receiver's cycle

pub hears_keep : (r : Receiver) (event : Option Event) → to_come (heard_with r event) ≡ to_come r
hears_keep r None = refl
hears_keep r (Some e) = refl

pub not_zero : (n : ℕ) → 0 < n → eqb n 0 ≡ false
not_zero n h = grind (arith, nat_tests)

framed_keeps : (r : Receiver) (frame : ℕ) (byte : Option ℕ) → eqb r.left 0 ≡ true → 0 < frame
    → slice_get (step_bytes r.image (current r)) r.begun_bytes ≡ byte → to_come (framed r frame byte) ≡ to_come r
framed_keeps r frame None z f e = refl
framed_keeps r frame (Some byte) z f e = rw (not_zero frame f, z) (sym (framed_on r.image r.begun_bytes byte r.steps e))

looked_keeps : (r : Receiver) (now : ℕ) (enabled : Bool) (frame : ℕ) (a : Bool) → passes r now (current r) ≡ a → eqb r.left 0 ≡ true → 0 < frame
    → to_come (looked r now enabled frame) ≡ to_come r
looked_keeps r now enabled frame true p z f = rw (p, z) (sym (passed_keeps r (look_sent r now _ refl p)))
looked_keeps r now true frame false p z f = rw p (framed_keeps r frame _ z f refl)
looked_keeps r now false frame false p z f = rw p refl

pub ready_off : (r : Receiver) (now : ℕ) (enabled : Bool) (frame : ℕ) → eqb r.left 0 ≡ false → ready r now enabled frame ≡ r
ready_off r now enabled frame z = rw z refl

pub ready_on : (r : Receiver) (now : ℕ) (enabled : Bool) (frame : ℕ) → eqb r.left 0 ≡ true → ready r now enabled frame ≡ looked r now enabled frame
ready_on r now enabled frame z = rw z refl

ready_keeps : (r : Receiver) (now : ℕ) (enabled : Bool) (frame : ℕ) (a : Bool) → eqb r.left 0 ≡ a → 0 < frame
    → to_come (ready r now enabled frame) ≡ to_come r
ready_keeps r now enabled frame true z f = ap to_come (ready_on r now enabled frame z) ∙ looked_keeps r now enabled frame _ refl z f
ready_keeps r now enabled frame false z f = ap to_come (ready_off r now enabled frame z)

frame_received_keeps : (r : Receiver) (a : Bool) → is_sent r ≡ a → to_come (frame_received r) ≡ not_begun r
frame_received_keeps r true h = rw h (sym (passed_keeps r h))
frame_received_keeps r false h = rw h refl

pub still_runs : (n : ℕ) → eqb n 0 ≡ false → eqb n 1 ≡ false → eqb (n - 1) 0 ≡ false
still_runs n p q = grind (arith, nat_tests)

run_off : (r : Receiver) → eqb r.left 0 ≡ true → run r ≡ record { receiver = r; byte = None }
run_off r z = rw z refl

run_keeps : (r : Receiver) (a b : Bool) → eqb r.left 0 ≡ a → eqb r.left 1 ≡ b
    → to_come r ≡ option_to_list (run r).byte ++ to_come (run r).receiver
run_keeps r true b p q = subst (λ g. to_come r ≡ option_to_list g.byte ++ to_come g.receiver) (sym (run_off r p)) refl
run_keeps r false true p q = rw (p, q) (ap (λ bytes. r.byte ∷ bytes) (sym (frame_received_keeps r _ refl)))
run_keeps r false false p q = rw (p, q, still_runs r.left p q) refl

pub receive_keeps : (r : Receiver) (now : ℕ) (event : Option Event) (enabled : Bool) (frame : ℕ) → 0 < frame
    → to_come r ≡ option_to_list (receive r now event enabled frame).byte ++ to_come (receive r now event enabled frame).receiver
unfolding receive
receive_keeps r now event enabled frame f =
    sym (hears_keep r event)
    ∙ sym (ready_keeps (heard_with r event) now enabled frame _ refl f)
    ∙ run_keeps (ready (heard_with r event) now enabled frame) _ _ refl refl

-- at most one step passes

-- the steps stay, or the first is gone
abbrev pub PassesOne : List UartStep → List UartStep → Type 0
PassesOne old new = (new ≡ old) ⊎ (new ≡ drop 1 old)

run_steps : (r : Receiver) (a b c : Bool) → eqb r.left 0 ≡ a → eqb r.left 1 ≡ b → is_sent r ≡ c → PassesOne r.steps (run r).receiver.steps
run_steps r true b c p q h = inl (rw p refl)
run_steps r false true true p q h = inr (rw (p, q, h) refl)
run_steps r false true false p q h = inl (rw (p, q, h) refl)
run_steps r false false c p q h = inl (rw (p, q) refl)

framed_steps : (r : Receiver) (frame : ℕ) (byte : Option ℕ) → (framed r frame byte).steps ≡ r.steps
framed_steps r frame None = refl
framed_steps r frame (Some byte) = refl

-- a frame that doesn't run passes nothing
pub run_idle : (r : Receiver) → eqb r.left 0 ≡ true → (run r).receiver.steps ≡ r.steps
run_idle r z = rw z refl

-- where the look doesn't pass a step, the frame may
look_steps : (r : Receiver) (now : ℕ) (enabled : Bool) (frame : ℕ) (a : Bool) → passes r now (current r) ≡ a → eqb r.left 0 ≡ true
    → PassesOne r.steps (run (looked r now enabled frame)).receiver.steps
look_steps r now enabled frame true p z = inr (rw p (run_idle (passed r) z))
look_steps r now true frame false p z =
    rw p (subst (λ steps. PassesOne steps (run (framed r frame (slice_get (step_bytes r.image (current r)) r.begun_bytes))).receiver.steps)
    (framed_steps r frame (slice_get (step_bytes r.image (current r)) r.begun_bytes))
    (run_steps (framed r frame (slice_get (step_bytes r.image (current r)) r.begun_bytes)) _ _ _ refl refl refl))
look_steps r now false frame false p z = rw p (run_steps r _ _ _ refl refl refl)

ready_steps : (r : Receiver) (now : ℕ) (enabled : Bool) (frame : ℕ) (a : Bool) → eqb r.left 0 ≡ a
    → PassesOne r.steps (run (ready r now enabled frame)).receiver.steps
ready_steps r now enabled frame true z = rw z (look_steps r now enabled frame _ refl z)
ready_steps r now enabled frame false z = rw z (run_steps r _ _ _ refl refl refl)

pub hears_steps : (r : Receiver) (event : Option Event) → (heard_with r event).steps ≡ r.steps
hears_steps r None = refl
hears_steps r (Some e) = refl

pub receive_steps : (r : Receiver) (now : ℕ) (event : Option Event) (enabled : Bool) (frame : ℕ)
    → PassesOne r.steps (receive r now event enabled frame).receiver.steps
unfolding receive
receive_steps r now event enabled frame =
    subst (λ steps. PassesOne steps (run (ready (heard_with r event) now enabled frame)).receiver.steps)
    (hears_steps r event) (ready_steps (heard_with r event) now enabled frame _ refl)

-- the transmitter leaves the receiver, and takes no byte up

pub record LeavesReceiver (s : UartState) (g : Given UartState) : Type 0 where
  pub receiver : g.unit.receiver ≡ s.receiver
  pub up : byte_up g.up ≡ []

last_leaves : (s : UartState) (now : ℕ) (fifo : List ℕ) → LeavesReceiver s (sent_last s now fifo)
last_leaves s now [] = record { receiver = refl; up = refl }
last_leaves s now (b ∷ rest) = record { receiver = refl; up = refl }

sent_leaves_by : (s : UartState) (now : ℕ) (a b : Bool) → eqb s.left 0 ≡ a → eqb s.left 1 ≡ b → LeavesReceiver s (sent s now)
sent_leaves_by s now true b p q = rw p record { receiver = refl; up = refl }
sent_leaves_by s now false true p q = rw (p, q) (last_leaves s now s.fifo)
sent_leaves_by s now false false p q = rw (p, q) record { receiver = refl; up = refl }

begun_receiver : (s : UartState) (a : Bool) → may_begin s ≡ a → (begun s).receiver ≡ s.receiver
begun_receiver s true h = rw h refl
begun_receiver s false h = rw h refl

pub transmitter_leaves : (s : UartState) (now : ℕ) → LeavesReceiver s (sent (begun s) now)
transmitter_leaves s now =
    let leaves : LeavesReceiver (begun s) (sent (begun s) now) = sent_leaves_by (begun s) now _ _ refl refl in
    record { receiver = leaves.receiver ∙ begun_receiver s _ refl; up = leaves.up }

pub byte_beside : (up : Option Up) (byte : Option ℕ) → byte_up up ≡ [] → byte_up (with_byte up byte) ≡ option_to_list byte
byte_beside None None h = refl
byte_beside None (Some b) h = refl
byte_beside (Some up) None h = h
byte_beside (Some up) (Some b) h = refl

queued_receiver : (s : UartState) (byte : ℕ) (a : Bool) → ltb (length s.fifo) 16 ≡ a → (queued s byte).receiver ≡ s.receiver
queued_receiver s byte true h = rw h refl
queued_receiver s byte false h = rw h refl

pub set_receiver : (s : UartState) (reg word : ℕ) (a b : Bool) → eqb reg 0 ≡ a → eqb reg 4 ≡ b → (set_in s reg word).receiver ≡ s.receiver
set_receiver s reg word true b p q = rw p refl
set_receiver s reg word false true p q = rw (p, q) (queued_receiver s _ _ refl)
set_receiver s reg word false false p q = rw (p, q) refl

-- what both parts of a cycle do
record WorksAlong (s : UartState) (g : Given UartState) : Type 0 where
  bytes : to_come s.receiver ≡ byte_up g.up ++ to_come g.unit.receiver
  steps : PassesOne s.receiver.steps g.unit.receiver.steps

received_along : (s : UartState) (g : Given UartState) (now : ℕ) → LeavesReceiver s g → 0 < g.unit.bit → WorksAlong s (received g now)
received_along s g now l p = record {
  bytes = ap to_come (sym l.receiver)
      ∙ receive_keeps g.unit.receiver now g.event g.unit.enabled (frame_of g.unit) (omega (arith, p))
      ∙ ap (λ bytes. bytes ++ to_come (heard_by g now).receiver) (sym (byte_beside g.up (heard_by g now).byte l.up));
  steps = subst (λ r. PassesOne r.steps (heard_by g now).receiver.steps) l.receiver
      (receive_steps g.unit.receiver now g.event g.unit.enabled (frame_of g.unit));
}

works_along : (s : UartState) (now : ℕ) → 0 < (sent (begun s) now).unit.bit → WorksAlong s (received (sent (begun s) now) now)
works_along s now p = received_along s (sent (begun s) now) now (transmitter_leaves s now) p

pub keeps_script : (s : UartState) (now : ℕ) (down : Option Down) → 0 < (uart_cycle s now down).unit.bit
    → KeepsScript s down (uart_cycle s now down).unit (uart_cycle s now down).up
unfolding uart_cycle
keeps_script s now None p =
    let w : WorksAlong s (received (sent (begun s) now) now) = works_along s now p in
    record { bytes = λ r. w.bytes; after_reset = λ r. absurd (omega arith); steps = w.steps }
keeps_script s now (Some Reset) p = record { bytes = λ r. absurd (omega arith); after_reset = λ r. refl; steps = inl refl }
keeps_script s now (Some (Set reg word)) p =
    let e : (set_in s reg word).receiver ≡ s.receiver = set_receiver s reg word _ _ refl refl in
    let w : WorksAlong (set_in s reg word) (received (sent (begun (set_in s reg word)) now) now) = works_along (set_in s reg word) now p in
    record {
      bytes = λ r. ap to_come (sym e) ∙ w.bytes;
      after_reset = λ r. absurd (omega arith);
      steps = subst (λ receiver. PassesOne receiver.steps (received (sent (begun (set_in s reg word)) now) now).unit.receiver.steps) e w.steps;
    }

-- the same, where the unit after the cycle and its message are known by equations
pub script_kept : (s : UartState) (now : ℕ) (down : Option Down) (new : UartState) (up : Option Up) → 0 < new.bit
    → new ≡ (uart_cycle s now down).unit → up ≡ (uart_cycle s now down).up → KeepsScript s down new up
script_kept s now down new up p e u = rw (e, u) (keeps_script s now down (subst (λ s. 0 < s.bit) e p))
