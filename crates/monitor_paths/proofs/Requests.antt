-- While the monitor has the open front: what its requests do and are answered.
use Rattle.std.proofs.Common.{◌≡◌, ◌≤◌, ◌<◌, ◌^◌, ℕ, suc, ◌+◌, ◌-◌, ◌⊎◌, inl, inr, Bool, true, false, ◌&&◌, List, [], ◌∷◌, ◌++◌, length, drop, get_or, Option, None, Some, refl, sym, ap, ◌∙◌, arith, append-nil, length-append, subst}
use Rattle.std.specs.Prelude.{◌==◌, ◌%◌, nat_lt, not}
use Rattle.std.specs.Int.{bit_at}
use Rattle.std.proofs.lemmas.Bool.Decides.{nat_tests}
use Rattle.chip_base.specs.Messages.{credit_in}
use Rattle.chip_base.specs.declared.message.Down.{Down}
use Rattle.chip_base.specs.declared.message.Up.{Up}
use Rattle.flash_seen.specs.Laws.{asks_status}
use Rattle.flash_seen.specs.Seen.{NoStarts, Seen, drain, seen, starts, step}
use Rattle.flash_seen.specs.World.{Control, Datum, Elsewhere, Idle, IsAllowed, IsAnswer, IsHeard, IsIdleBelow, IsReady, IsTold, IsToldAt, Openness, Place, Ready, Selection, Sent, Shut, Stage, World, chosen_more, effect, free_after, has_bit, looked, stage_after, unshut}
use Rattle.spi_flash.specs.Flash.{FlashState}
use Rattle.spi_flash.specs.SpiCounts.{entries_in}
use Rattle.spi_flash.specs.declared.transfer.Entry.{Entry}
use Rattle.spi_flash.specs.declared.transfer.Entry.TheVariants.{Byte, Select}
use Rattle.spi_flash.specs.declared.transfer.Transfer.{Transfer}
use Rattle.unit_fronts.specs.Control.{IsWritable, TellsControl}
use Rattle.unit_fronts.specs.SerialRegisters.{SerialRegisters, has_received, serial_control}
use Rattle.unit_fronts.proofs.Control.{tells_control}
use Rattle.monitor_paths.specs.FlashPath.{front_after, sent_by}
use Rattle.monitor_paths.specs.Laws.{ReplyFits, touch_at}
use Rattle.soc_words.specs.Link.{count_on}
use Rattle.monitor_paths.specs.Opened.{AreSelections, AtStage, Awaited, Come, IsFree, IsIdle, IsSent, OpenedAt, Rising}
use Rattle.monitor_paths.proofs.Fronts.{is_open}
use Rattle.monitor_paths.proofs.Links.{drain_more, selections_more, starts_more}

-- CTRL's bit 16 is set where an entry was received

bit_test : (bit : ℕ) (n : ℕ) (b : Bool) → nat_lt 0 n ≡ b → (bit ≡ 1 → 0 < n) → (0 < n → bit ≡ 1) → (bit == 1) ≡ b
bit_test bit n true e f g = let some : 0 < n = grind (arith, nat_tests) in let one : bit ≡ 1 = g some in rw one refl
bit_test bit n false e f g = by (bit == 1) refl
  where
    by : (is_set : Bool) → (bit == 1) ≡ is_set → is_set ≡ false
    by false h = refl
    by true h = let one : bit ≡ 1 = grind (arith, nat_tests) in let some : 0 < n = f one in let none : n ≡ 0 = grind (arith, nat_tests) in absurd (omega (arith, some, none))

tells_received : (p : SerialRegisters) → IsWritable p.kept → p.kept < 2 ^ 23 → has_bit (serial_control p) 16 ≡ has_received p
tells_received p k l =
    let told : TellsControl p (serial_control p) = tells_control p (serial_control p) refl k l in
    bit_test (bit_at (serial_control p) 16) (length p.received) (has_received p) refl told.received.0 told.received.1

-- a load of CTRL

looked_sent : (g : Seen) (free : Bool) (recv : List ℕ) (es : List Entry) (ups : List (Option Up)) (f : FlashState) (before : Transfer) (set : Bool)
    → nat_lt 0 (length recv) ≡ set → IsSent g free recv es ups f before → AtStage (looked (Sent before) set) g free recv es ups f
looked_sent g free recv es ups f before false e h = h
looked_sent g free recv es ups f before true e (Awaited h) =
    let no_word : nat_lt 0 (length recv) ≡ false = ap (λ (r : List ℕ). nat_lt 0 (length r)) h.none in let bad : ⊥ = cc in elim bad [ ]
looked_sent g free recv es ups f before true e (Rising h) =
    let no_word : nat_lt 0 (length recv) ≡ false = ap (λ (r : List ℕ). nat_lt 0 (length r)) h.none in let bad : ⊥ = cc in elim bad [ ]
looked_sent g free recv es ups f before true e (Come h) = h

looked_at : (s : Stage) (g : Seen) (free : Bool) (recv : List ℕ) (es : List Entry) (ups : List (Option Up)) (f : FlashState) (set : Bool)
    → nat_lt 0 (length recv) ≡ set → AtStage s g free recv es ups f → AtStage (looked s set) g free recv es ups f
looked_at Shut g free recv es ups f set e h = h
looked_at (Idle k) g free recv es ups f set e h = h
looked_at (Sent before) g free recv es ups f set e h = looked_sent g free recv es ups f before set e h
looked_at (Ready before) g free recv es ups f set e h = h

-- another stage of the same flash
restaged : (w : World) (s : Stage) (owing had : ℕ) (recv : List ℕ) (es : List Entry) (ups : List (Option Up)) (f : FlashState)
    → AtStage s w.flash w.free recv es ups f → OpenedAt w owing had recv es ups f → OpenedAt (record w { stage = s }) owing had recv es ups f
restaged w s owing had recv es ups f h o = record { owed = o.owed; credits = o.credits; drained = o.drained; free = o.free; stage = h }

unshut_at : (s : Stage) (g : Seen) (free : Bool) (recv : List ℕ) (es : List Entry) (ups : List (Option Up)) (f : FlashState) (set : Bool)
    → AtStage s g free recv es ups f → AtStage (unshut s set) g free recv es ups f
unshut_at Shut g free recv es ups f true h = h
unshut_at Shut g free recv es ups f false h = h
unshut_at (Idle k) g free recv es ups f set h = h
unshut_at (Sent before) g free recv es ups f set h = h
unshut_at (Ready before) g free recv es ups f set h = h

-- nothing goes down

pub silent : (w : World) (owing had : ℕ) (recv : List ℕ) (es : List Entry) (ups : List (Option Up)) (f : FlashState)
    → OpenedAt w owing had recv es ups f → OpenedAt w owing had recv (es ++ []) ups f
silent w owing had recv es ups f o = subst (λ es. OpenedAt w owing had recv es ups f) (sym (append-nil es)) o

-- a selection or deselect goes down

idle_more : (k : ℕ) (recv : List ℕ) (es : List Entry) (ups : List (Option Up)) (on : Bool) → IsIdle k recv es ups → IsIdle (suc k) recv (es ++ Select on ∷ []) ups
idle_more k recv es ups on h = record {
  none = h.none;
  words = h.words;
  selections = selections_more es on h.selections;
  few = let more : length (es ++ Select on ∷ []) ≡ length es + 1 = length-append es (Select on ∷ []) in omega (arith, more, h.few);
}

is_not : (a b : Bool) → not b && a ≡ true → (a ≡ true) × (b ≡ false)
is_not a true e = let bad : ⊥ = cc in elim bad [ ]
is_not true false e = (refl, refl)
is_not false false e = let bad : ⊥ = cc in elim bad [ ]

selection_at : (w : World) (s : Stage) (owing had : ℕ) (recv : List ℕ) (es : List Entry) (ups : List (Option Up)) (f : FlashState) (on : Bool)
    → w.stage ≡ s → IsIdleBelow 2 s → AtStage s w.flash w.free recv es ups f → OpenedAt w owing had recv es ups f
    → (1 ≤ had) × OpenedAt (record { flash = step w.flash (Select on); free = not (starts w.flash (Select on)) && w.free; stage = chosen_more w.stage; used = true })
    owing (had - 1) recv (es ++ Select on ∷ []) ups f
selection_at w Shut owing had recv es ups f on e l h o = elim l [ ]
selection_at w (Sent before) owing had recv es ups f on e l h o = elim l [ ]
selection_at w (Ready before) owing had recv es ups f on e l h o = elim l [ ]
selection_at w (Idle k) owing had recv es ups f on e l h o =
    let more : length (es ++ Select on ∷ []) ≡ length es + 1 = length-append es (Select on ∷ []) in
    let sum : had + length es + count_on credit_in ups ≡ 16 = o.credits in
    let some : length es + count_on credit_in ups ≤ k = h.few in
    let one : 1 ≤ had = omega (arith, sum, some, l) in (
      one,
      record {
        owed = o.owed;
        credits = omega (arith, sum, more, one);
        drained = drain_more (seen f) es (Select on) ∙ ap (λ s. step s (Select on)) o.drained;
        free = λ x. let both : (w.free ≡ true) × (starts w.flash (Select on) ≡ false) = is_not w.free (starts w.flash (Select on)) x in record {
          none = (o.free both.0).none;
          starts = starts_more (seen f) es (Select on) (o.free both.0).starts (ap (λ s. starts s (Select on)) o.drained ∙ both.1);
        };
        stage = subst (λ s. AtStage (chosen_more s) (step w.flash (Select on)) (not (starts w.flash (Select on)) && w.free) recv (es ++ Select on ∷ []) ups f) (sym e)
            (idle_more k recv es ups on h);
      },
    )

-- a byte goes down

byte_starts : (g : Seen) (byte : ℕ) (fitted : Bool) → g.fitted ≡ fitted → starts g (Byte byte) ≡ false
byte_starts g byte true e = rw e refl
byte_starts g byte false e = rw e refl

datum_at : (w : World) (s : Stage) (owing had : ℕ) (recv : List ℕ) (es : List Entry) (ups : List (Option Up)) (f : FlashState) (byte : ℕ)
    → IsIdleBelow 3 s → IsHeard w.free w.flash.transfer byte → AtStage s w.flash w.free recv es ups f → OpenedAt w owing had recv es ups f
    → (1 ≤ had) × OpenedAt (record { flash = step w.flash (Byte byte); free = w.free; stage = Sent w.flash.transfer; used = true }) owing (had - 1) recv (es ++ Byte byte ∷ []) ups f
datum_at w Shut owing had recv es ups f byte l r h o = elim l [ ]
datum_at w (Sent before) owing had recv es ups f byte l r h o = elim l [ ]
datum_at w (Ready before) owing had recv es ups f byte l r h o = elim l [ ]
datum_at w (Idle k) owing had recv es ups f byte l r h o =
    let more : length (es ++ Byte byte ∷ []) ≡ length es + 1 = length-append es (Byte byte ∷ []) in
    let sum : had + length es + count_on credit_in ups ≡ 16 = o.credits in
    let some : length es + count_on credit_in ups ≤ k = h.few in
    let one : 1 ≤ had = omega (arith, sum, some, l) in (
      one,
      record {
        owed = o.owed;
        credits = omega (arith, sum, more, one);
        drained = drain_more (seen f) es (Byte byte) ∙ ap (λ s. step s (Byte byte)) o.drained;
        free = λ x. record {
          none = (o.free x).none;
          starts = starts_more (seen f) es (Byte byte) (o.free x).starts (byte_starts (drain (seen f) es) byte _ refl);
        };
        stage = Awaited (record {
          none = h.none;
          words = h.words;
          earlier = es;
          byte = byte;
          order = refl;
          selections = h.selections;
          transfer = ap (λ s. s.transfer) (sym o.drained);
          followed = r;
        });
      },
    )

-- a load of DATA

freed_by : (before : Transfer) (x : ℕ) (free : Bool) (status even : Bool) → asks_status before ≡ status → (x % 2 == 0) ≡ even
    → free_after (Ready before) x free ≡ true → (free ≡ true) ⊎ ((asks_status before ≡ true) × (x % 2 ≡ 0))
freed_by before x free true true e h i = inr (e, grind (arith, nat_tests))
freed_by before x free true false e h i = let j : free ≡ true = (rw (e, h) refl) ∙ i in inl j
freed_by before x free false even e h i = let j : free ≡ true = (rw e refl) ∙ i in inl j

load_at : (w : World) (s : Stage) (owing had : ℕ) (recv : List ℕ) (es : List Entry) (ups : List (Option Up)) (f : FlashState)
    → w.stage ≡ s → IsReady s → AtStage s w.flash w.free recv es ups f → OpenedAt w owing had recv es ups f
    → IsToldAt w w.stage (get_or recv 0 0)
    × OpenedAt (record { flash = w.flash; free = free_after w.stage (get_or recv 0 0) w.free; stage = stage_after w.stage; used = w.used }) owing had (drop 1 recv) es ups f
load_at w Shut owing had recv es ups f e r h o = elim r [ ]
load_at w (Idle k) owing had recv es ups f e r h o = elim r [ ]
load_at w (Sent before) owing had recv es ups f e r h o = elim r [ ]
load_at w (Ready before) owing had recv es ups f e r h o =
    let is : get_or recv 0 0 ≡ h.word = ap (λ (r : List ℕ). get_or r 0 0) h.one in
    let rest : drop 1 recv ≡ [] = ap (λ (r : List ℕ). drop 1 r) h.one in
    let no_entry : es ≡ [] = h.done in
    let told : IsAnswer w.flash w.free before (get_or recv 0 0) = subst (λ x. IsAnswer w.flash w.free before x) (sym is) h.given.answer in
    let idle : IsIdle 0 (drop 1 recv) es ups = record {
      none = rest;
      words = h.words;
      selections = subst AreSelections (sym no_entry) tt;
      few = omega (arith, h.credits, ap length no_entry);
    } in
    let frees : (free_after (Ready before) (get_or recv 0 0) w.free ≡ true → IsFree f es)
    = λ (x : free_after (Ready before) (get_or recv 0 0) w.free ≡ true). elim (freed_by before (get_or recv 0 0) w.free _ _ refl refl x) [
      | inl old ↦ o.free old
      | inr new ↦ record { none = h.given.idle new.0 (ap (λ n. n % 2) (sym is) ∙ new.1); starts = subst (λ es. NoStarts (seen f) es) (sym no_entry) tt }
    ] in (
      subst (λ s. IsToldAt w s (get_or recv 0 0)) (sym e) told,
      subst (λ s. OpenedAt (record { flash = w.flash; free = free_after s (get_or recv 0 0) w.free; stage = stage_after s; used = w.used }) owing had (drop 1 recv) es ups f) (sym e)
          (record { owed = o.owed; credits = o.credits; drained = o.drained; free = frees; stage = idle }),
    )

-- a request that may be made is answered as it is told, and keeps what the monitor knows
pub record Serves (w : World) (es : List Entry) (ups : List (Option Up)) (f : FlashState) (place : Place) (store : Option ℕ) (reply : ℕ) (new : SerialRegisters) (sent : Option Down) : Type 0 where
  pub told : IsTold w place store reply
  pub opened : OpenedAt (effect w place store reply) new.owed new.credits new.received (es ++ entries_in sent) ups f

-- by the front after the request, and by what it sends
abbrev pub ServesBy : World → SerialRegisters → List Entry → List (Option Up) → FlashState → Place → Option ℕ → ℕ → Type 0
ServesBy w p es ups f place store reply = Serves w es ups f place store reply (front_after p (touch_at place store)) (sent_by p (touch_at place store))

twice : (v : ℕ) → v % 256 % 256 ≡ v % 256
twice v = omega arith

twice_one : (v : ℕ) → (v % 2 % 2 == 1) ≡ (v % 2 == 1)
twice_one v = ap (λ n. n == 1) (omega arith)

some_credit : (p : SerialRegisters) → 1 ≤ p.credits → (p.credits == 0) ≡ false
some_credit p e = grind (arith, nat_tests)

load_control : (w : World) (p : SerialRegisters) (es : List Entry) (ups : List (Option Up)) (f : FlashState) → IsWritable p.kept → p.kept < 2 ^ 23
    → OpenedAt w p.owed p.credits p.received es ups f → ServesBy w p es ups f Control None (serial_control p)
load_control w p es ups f k l o = rw (is_open p o.owed) record {
  told = tt;
  opened = restaged w (looked w.stage (has_bit (serial_control p) 16)) p.owed p.credits p.received (es ++ []) ups f
      (subst (λ b. AtStage (looked w.stage b) w.flash w.free p.received (es ++ []) ups f) (sym (tells_received p k l))
      (looked_at w.stage w.flash w.free p.received (es ++ []) ups f _ refl (silent w p.owed p.credits p.received es ups f o).stage))
      (silent w p.owed p.credits p.received es ups f o);
}

load_datum : (w : World) (p : SerialRegisters) (es : List Entry) (ups : List (Option Up)) (f : FlashState) → IsReady w.stage
    → OpenedAt w p.owed p.credits p.received es ups f → ServesBy w p es ups f Datum None (get_or p.received 0 0)
load_datum w p es ups f may o =
    let both = load_at w w.stage p.owed p.credits p.received es ups f refl may o.stage o in
    rw (is_open p o.owed) record {
      told = both.0;
      opened = silent (effect w Datum None (get_or p.received 0 0)) p.owed p.credits (drop 1 p.received) es ups f both.1;
    }

pub serves : (w : World) (p : SerialRegisters) (es : List Entry) (ups : List (Option Up)) (f : FlashState) (place : Place) (store : Option ℕ) (reply : ℕ) → IsWritable p.kept → p.kept < 2 ^ 23
    → IsAllowed w place store → ReplyFits p place store reply → OpenedAt w p.owed p.credits p.received es ups f → ServesBy w p es ups f place store reply
serves w p es ups f Control None reply k l may fits o =
    let word : reply ≡ serial_control p = fits ∙ (rw (is_open p o.owed) refl) in
    subst (λ x. ServesBy w p es ups f Control None x) (sym word) (load_control w p es ups f k l o)
serves w p es ups f Control (Some v) reply k l may fits o = rw (is_open p o.owed) record { told = tt; opened = silent w p.owed p.credits p.received es ups f o }
serves w p es ups f Selection None reply k l may fits o = rw (is_open p o.owed) record { told = tt; opened = silent w p.owed p.credits p.received es ups f o }
serves w p es ups f Selection (Some v) reply k l may fits o =
    let both = selection_at w w.stage p.owed p.credits p.received es ups f (v % 2 == 1) refl may o.stage o in
    rw (is_open p o.owed, some_credit p both.0) record {
      told = tt;
      opened = subst (λ on. OpenedAt (effect w Selection (Some v) 0) p.owed (p.credits - 1) p.received (es ++ Select on ∷ []) ups f) (sym (twice_one v)) both.1;
    }
serves w p es ups f Datum None reply k l may fits o =
    let word : reply ≡ get_or p.received 0 0 = fits ∙ (rw (is_open p o.owed) refl) in
    subst (λ x. ServesBy w p es ups f Datum None x) (sym word) (load_datum w p es ups f may o)
serves w p es ups f Datum (Some v) reply k l may fits o =
    let both = datum_at w w.stage p.owed p.credits p.received es ups f (v % 256) may.0 may.1 o.stage o in
    rw (is_open p o.owed, some_credit p both.0) record {
      told = tt;
      opened = subst (λ b. OpenedAt (effect w Datum (Some v) 0) p.owed (p.credits - 1) p.received (es ++ Byte b ∷ []) ups f) (sym (twice v)) both.1;
    }
serves w p es ups f Openness None reply k l may fits o = record {
  told = tt;
  opened = restaged w (unshut w.stage (has_bit reply 3)) p.owed p.credits p.received (es ++ []) ups f
      (unshut_at w.stage w.flash w.free p.received (es ++ []) ups f _ (silent w p.owed p.credits p.received es ups f o).stage)
      (silent w p.owed p.credits p.received es ups f o);
}
serves w p es ups f Openness (Some v) reply k l may fits o = record { told = tt; opened = silent w p.owed p.credits p.received es ups f o }
serves w p es ups f Elsewhere None reply k l may fits o = record { told = tt; opened = silent w p.owed p.credits p.received es ups f o }
serves w p es ups f Elsewhere (Some v) reply k l may fits o = record { told = tt; opened = silent w p.owed p.credits p.received es ups f o }
