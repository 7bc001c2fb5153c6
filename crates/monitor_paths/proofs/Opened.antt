-- While the monitor has the open front: an arrival and the unit's cycle keep what it knows.
use Rattle.std.proofs.Common.{◌≡◌, ◌≤◌, ◌<◌, ℕ, suc, ◌+◌, ◌⊎◌, inl, inr, Bool, true, false, List, [], ◌∷◌, ◌++◌, length, Option, None, Some, refl, sym, ap, ap₂, ◌∙◌, arith, append_assoc, length-append, subst}
use Rattle.std.specs.Prelude.{◌==◌, ◌%◌}
use Rattle.chip_base.specs.Given.{Given}
use Rattle.chip_base.specs.Messages.{credit_in, credit_up, done_in, reset_in, with_word}
use Rattle.chip_base.specs.declared.message.Down.{Down}
use Rattle.chip_base.specs.declared.message.Down.TheVariants.{Reset, Set}
use Rattle.chip_base.specs.declared.message.Up.{Up}
use Rattle.flash_seen.specs.Laws.{IsCalm, asks_status}
use Rattle.flash_seen.specs.Seen.{NoStarts, Seen, drain, seen, step}
use Rattle.flash_seen.specs.World.{Idle, IsAnswer, IsHeard, Ready, Sent, Shut, Stage, World}
use Rattle.flash_seen.proofs.Flashes.{sees_all, stays_calm}
use Rattle.spi_flash.specs.Flash.{FlashState, byte_sent, flash_answer, flash_cycle, selected}
use Rattle.spi_flash.specs.SpiCounts.{entries_in}
use Rattle.spi_flash.specs.SpiCycle.{SpiState, engine, set_in, spi_cycle}
use Rattle.spi_flash.specs.declared.transfer.Entry.{Entry}
use Rattle.spi_flash.specs.declared.transfer.Entry.TheVariants.{Byte, Select}
use Rattle.spi_flash.specs.declared.transfer.Transfer.{Transfer}
use Rattle.spi_flash.specs.declared.transfer.Transfer.TheVariants.{Opened as Selected}
use Rattle.unit_fronts.specs.SerialRegisters.{SerialRegisters}
use Rattle.monitor_paths.specs.FlashPath.{heard_by}
use Rattle.soc_words.specs.Link.{all_on, count_on}
use Rattle.monitor_paths.specs.OnLinks.{word_in, words_in}
use Rattle.monitor_paths.specs.Opened.{AreSelections, AtStage, Awaited, Come, HasCome, IsAwaited, IsGiven, IsIdle, IsRising, IsSent, OpenedAt, Rising}
use Rattle.monitor_paths.proofs.Fronts.{Hears, hears}
use Rattle.soc_words.proofs.Links.{all_more, behind_more, count_more}
use Rattle.monitor_paths.proofs.Links.{behind_none, both_nil, left_nil, nothing_more, right_nil, words_counted}
use Rattle.monitor_paths.proofs.Unit.{Answers, Exchanges, Selects, Waits, Works, answer_after, answers, cycle_free, cycle_seen, selected_free, sent_work, sets, works}

-- an arrival

few_sent : (g : Seen) (free : Bool) (recv : List ℕ) (es : List Entry) (ups : List (Option Up)) (f : FlashState) (before : Transfer)
    → IsSent g free recv es ups f before → length recv < 16
few_sent g free recv es ups f before (Awaited h) = omega (arith, ap length h.none)
few_sent g free recv es ups f before (Rising h) = omega (arith, ap length h.none)
few_sent g free recv es ups f before (Come h) = omega (arith, ap length h.one)

few : (s : Stage) (g : Seen) (free : Bool) (recv : List ℕ) (es : List Entry) (ups : List (Option Up)) (f : FlashState) → AtStage s g free recv es ups f → length recv < 16
few Shut g free recv es ups f h = omega (arith, ap length h.none)
few (Idle k) g free recv es ups f h = omega (arith, ap length h.none)
few (Sent before) g free recv es ups f h = few_sent g free recv es ups f before h
few (Ready before) g free recv es ups f h = omega (arith, ap length h.one)

one_word : (ws rest : List ℕ) (x : ℕ) → ws ++ rest ≡ x ∷ [] → ((ws ≡ []) × (rest ≡ x ∷ [])) ⊎ ((ws ≡ x ∷ []) × (rest ≡ []))
one_word [] rest x e = inl (refl, e)
one_word (v ∷ vs) rest x e =
    let same : v ≡ x = cc in
    let none : vs ++ rest ≡ [] = cc in
    let vs_none : vs ≡ [] = left_nil vs rest none in
    inr (ap₂ (λ (a : ℕ) (b : List ℕ). a ∷ b) same vs_none, right_nil vs rest none)

idle_heard : (k : ℕ) (recv recv2 : List ℕ) (es : List Entry) (y : Option Up) (ups : List (Option Up)) → recv2 ≡ recv ++ words_in y
    → IsIdle k recv es (y ∷ ups) → IsIdle k recv2 es ups
idle_heard k recv recv2 es y ups e h = record {
  none = e ∙ both_nil recv (words_in y) h.none (left_nil (words_in y) (all_on words_in ups) h.words);
  words = right_nil (words_in y) (all_on words_in ups) h.words;
  selections = h.selections;
  few = let some : length es + (credit_in y + count_on credit_in ups) ≤ k = h.few in omega (arith, some);
}

come_heard : (g : Seen) (free : Bool) (recv recv2 : List ℕ) (es : List Entry) (y : Option Up) (ups : List (Option Up)) (f : FlashState) (before : Transfer)
    → recv2 ≡ recv ++ words_in y → HasCome g free recv es (y ∷ ups) f before → HasCome g free recv2 es ups f before
come_heard g free recv recv2 es y ups f before e h = record {
  done = h.done;
  words = right_nil (words_in y) (all_on words_in ups) h.words;
  credits = let z : credit_in y + count_on credit_in ups ≡ 0 = h.credits in omega (arith, z);
  word = h.word;
  one = e ∙ ap₂ (λ (a b : List ℕ). a ++ b) h.one (left_nil (words_in y) (all_on words_in ups) h.words);
  given = h.given;
}

word_there : (y : Option Up) (x : ℕ) → words_in y ≡ x ∷ [] → word_in y ≡ 1
word_there None x e = let bad : ⊥ = cc in elim bad [ ]
word_there (Some up) x e = by up.has refl
  where
    by : (b : Bool) → up.has ≡ b → word_in (Some up) ≡ 1
    by true h = rw h refl
    by false h = let none : words_in (Some up) ≡ [] = rw h refl in let bad : [] ≡ x ∷ [] = sym none ∙ e in let worse : ⊥ = cc in elim worse [ ]

sent_heard : (g : Seen) (free : Bool) (recv recv2 : List ℕ) (es : List Entry) (y : Option Up) (ups : List (Option Up)) (f : FlashState) (before : Transfer)
    → recv2 ≡ recv ++ words_in y → IsSent g free recv es (y ∷ ups) f before → IsSent g free recv2 es ups f before
sent_heard g free recv recv2 es y ups f before e (Awaited h) = Awaited (record {
  none = e ∙ both_nil recv (words_in y) h.none (left_nil (words_in y) (all_on words_in ups) h.words);
  words = right_nil (words_in y) (all_on words_in ups) h.words;
  earlier = h.earlier;
  byte = h.byte;
  order = h.order;
  selections = h.selections;
  transfer = h.transfer;
  followed = h.followed;
})
sent_heard g free recv recv2 es y ups f before e (Rising h) = elim (one_word (words_in y) (all_on words_in ups) h.word h.words) [
  | inl still ↦ Rising (record {
    done = h.done;
    none = e ∙ both_nil recv (words_in y) h.none still.0;
    word = h.word;
    words = still.1;
    last = h.last.1;
    given = h.given;
  })
  | inr here ↦ Come (record {
    done = h.done;
    words = here.1;
    credits = h.last.0 (word_there y h.word here.0);
    word = h.word;
    one = e ∙ ap₂ (λ (a b : List ℕ). a ++ b) h.none here.0;
    given = h.given;
  })
]
sent_heard g free recv recv2 es y ups f before e (Come h) = Come (come_heard g free recv recv2 es y ups f before e h)

stage_heard : (s : Stage) (g : Seen) (free : Bool) (recv recv2 : List ℕ) (es : List Entry) (y : Option Up) (ups : List (Option Up)) (f : FlashState)
    → recv2 ≡ recv ++ words_in y → AtStage s g free recv es (y ∷ ups) f → AtStage s g free recv2 es ups f
stage_heard Shut g free recv recv2 es y ups f e h = idle_heard 0 recv recv2 es y ups e h
stage_heard (Idle k) g free recv recv2 es y ups f e h = idle_heard k recv recv2 es y ups e h
stage_heard (Sent before) g free recv recv2 es y ups f e h = sent_heard g free recv recv2 es y ups f before e h
stage_heard (Ready before) g free recv recv2 es y ups f e h = come_heard g free recv recv2 es y ups f before e h

pub opened_heard : (w : World) (p : SerialRegisters) (es : List Entry) (y : Option Up) (ups : List (Option Up)) (f : FlashState) → done_in y ≡ 0
    → OpenedAt w p.owed p.credits p.received es (y ∷ ups) f → OpenedAt w (heard_by p y).owed (heard_by p y).credits (heard_by p y).received es ups f
opened_heard w p es y ups f undone o =
    let h : Hears p y (heard_by p y) = hears p y in
    let sum : p.credits + length es + (credit_in y + count_on credit_in ups) ≡ 16 = o.credits in
    let more : (heard_by p y).credits ≡ p.credits + credit_in y = h.gains o.owed undone (omega (arith, sum)) in
    record {
      owed = h.still o.owed;
      credits = omega (arith, more, sum);
      drained = o.drained;
      free = o.free;
      stage = stage_heard w.stage w.flash w.free p.received (heard_by p y).received es y ups f
          (h.takes o.owed undone (few w.stage w.flash w.free p.received es (y ∷ ups) f o.stage)) o.stage;
    }

-- an empty place is put before a link

idle_before : (k : ℕ) (recv : List ℕ) (es : List Entry) (ups : List (Option Up)) → IsIdle k recv es ups → IsIdle k recv es (None ∷ ups)
idle_before k recv es ups h = record { none = h.none; words = h.words; selections = h.selections; few = omega (arith, h.few) }

come_before : (g : Seen) (free : Bool) (recv : List ℕ) (es : List Entry) (ups : List (Option Up)) (f : FlashState) (before : Transfer)
    → HasCome g free recv es ups f before → HasCome g free recv es (None ∷ ups) f before
come_before g free recv es ups f before h = record { done = h.done; words = h.words; credits = omega (arith, h.credits); word = h.word; one = h.one; given = h.given }

sent_before : (g : Seen) (free : Bool) (recv : List ℕ) (es : List Entry) (ups : List (Option Up)) (f : FlashState) (before : Transfer)
    → IsSent g free recv es ups f before → IsSent g free recv es (None ∷ ups) f before
sent_before g free recv es ups f before (Awaited h) = Awaited (record {
  none = h.none;
  words = h.words;
  earlier = h.earlier;
  byte = h.byte;
  order = h.order;
  selections = h.selections;
  transfer = h.transfer;
  followed = h.followed;
})
sent_before g free recv es ups f before (Rising h) = Rising (record {
  done = h.done;
  none = h.none;
  word = h.word;
  words = h.words;
  last = (λ e. absurd (omega (arith, e)), h.last);
  given = h.given;
})
sent_before g free recv es ups f before (Come h) = Come (come_before g free recv es ups f before h)

stage_before : (s : Stage) (g : Seen) (free : Bool) (recv : List ℕ) (es : List Entry) (ups : List (Option Up)) (f : FlashState)
    → AtStage s g free recv es ups f → AtStage s g free recv es (None ∷ ups) f
stage_before Shut g free recv es ups f h = idle_before 0 recv es ups h
stage_before (Idle k) g free recv es ups f h = idle_before k recv es ups h
stage_before (Sent before) g free recv es ups f h = sent_before g free recv es ups f before h
stage_before (Ready before) g free recv es ups f h = come_before g free recv es ups f before h

pub opened_before : (w : World) (owing had : ℕ) (recv : List ℕ) (es : List Entry) (ups : List (Option Up)) (f : FlashState)
    → OpenedAt w owing had recv es ups f → OpenedAt w owing had recv es (None ∷ ups) f
opened_before w owing had recv es ups f o = record {
  owed = o.owed;
  credits = omega (arith, o.credits);
  drained = o.drained;
  free = o.free;
  stage = stage_before w.stage w.flash w.free recv es ups f o.stage;
}

-- a message reaches the unit

pub opened_set : (w : World) (p : SerialRegisters) (downs : List (Option Down)) (s : SpiState) (ups : List (Option Up)) (reg word : ℕ)
    → OpenedAt w p.owed p.credits p.received (s.queue ++ all_on entries_in (Some (Set reg word) ∷ downs)) ups s.flash
    → OpenedAt w p.owed p.credits p.received ((set_in s reg word).queue ++ all_on entries_in downs) ups (set_in s reg word).flash
opened_set w p downs s ups reg word o =
    let all : length (s.queue ++ (entries_in (Some (Set reg word)) ++ all_on entries_in downs)) ≡ length s.queue + (length (entries_in (Some (Set reg word))) + length (all_on entries_in downs))
    = length-append s.queue (entries_in (Some (Set reg word)) ++ all_on entries_in downs)
    ∙ ap (λ n. length s.queue + n) (length-append (entries_in (Some (Set reg word))) (all_on entries_in downs)) in
    let sum : p.credits + length (s.queue ++ (entries_in (Some (Set reg word)) ++ all_on entries_in downs)) + count_on credit_in ups ≡ 16 = o.credits in
    let queue : (set_in s reg word).queue ≡ s.queue ++ entries_in (Some (Set reg word)) = (sets s reg word).room (omega (arith, all, sum)) in
    let same : s.queue ++ (entries_in (Some (Set reg word)) ++ all_on entries_in downs) ≡ (set_in s reg word).queue ++ all_on entries_in downs
    = sym (ap (λ es. es ++ all_on entries_in downs) queue ∙ append_assoc s.queue (entries_in (Some (Set reg word))) (all_on entries_in downs)) in
    subst (λ f. OpenedAt w p.owed p.credits p.received ((set_in s reg word).queue ++ all_on entries_in downs) ups f) (sym (sets s reg word).flash)
    (subst (λ es. OpenedAt w p.owed p.credits p.received es ups s.flash) same o)

-- the flash's own cycle

given_cycled : (g : Seen) (free : Bool) (f : FlashState) (before : Transfer) (x : ℕ) → IsGiven g free f before x → IsGiven g free (flash_cycle f) before x
given_cycled g free f before x h = record { answer = h.answer; idle = λ a b. cycle_free f (h.idle a b) }

come_cycled : (g : Seen) (free : Bool) (recv : List ℕ) (es : List Entry) (ups : List (Option Up)) (f : FlashState) (before : Transfer)
    → HasCome g free recv es ups f before → HasCome g free recv es ups (flash_cycle f) before
come_cycled g free recv es ups f before h = record {
  done = h.done;
  words = h.words;
  credits = h.credits;
  word = h.word;
  one = h.one;
  given = given_cycled g free f before h.word h.given;
}

sent_cycled : (g : Seen) (free : Bool) (recv : List ℕ) (es : List Entry) (ups : List (Option Up)) (f : FlashState) (before : Transfer)
    → IsSent g free recv es ups f before → IsSent g free recv es ups (flash_cycle f) before
sent_cycled g free recv es ups f before (Awaited h) = Awaited (record {
  none = h.none;
  words = h.words;
  earlier = h.earlier;
  byte = h.byte;
  order = h.order;
  selections = h.selections;
  transfer = h.transfer ∙ ap (λ s. (drain s h.earlier).transfer) (sym (cycle_seen f));
  followed = h.followed;
})
sent_cycled g free recv es ups f before (Rising h) = Rising (record {
  done = h.done;
  none = h.none;
  word = h.word;
  words = h.words;
  last = h.last;
  given = given_cycled g free f before h.word h.given;
})
sent_cycled g free recv es ups f before (Come h) = Come (come_cycled g free recv es ups f before h)

stage_cycled : (s : Stage) (g : Seen) (free : Bool) (recv : List ℕ) (es : List Entry) (ups : List (Option Up)) (f : FlashState)
    → AtStage s g free recv es ups f → AtStage s g free recv es ups (flash_cycle f)
stage_cycled Shut g free recv es ups f h = h
stage_cycled (Idle k) g free recv es ups f h = h
stage_cycled (Sent before) g free recv es ups f h = sent_cycled g free recv es ups f before h
stage_cycled (Ready before) g free recv es ups f h = come_cycled g free recv es ups f before h

opened_cycled : (w : World) (owing had : ℕ) (recv : List ℕ) (es : List Entry) (ups : List (Option Up)) (f : FlashState)
    → OpenedAt w owing had recv es ups f → OpenedAt w owing had recv es ups (flash_cycle f)
opened_cycled w owing had recv es ups f o = record {
  owed = o.owed;
  credits = o.credits;
  drained = ap (λ s. drain s es) (cycle_seen f) ∙ o.drained;
  free = λ e. record { none = cycle_free f (o.free e).none; starts = subst (λ s. NoStarts s es) (sym (cycle_seen f)) (o.free e).starts };
  stage = stage_cycled w.stage w.flash w.free recv es ups f o.stage;
}

-- nothing goes up

idle_none : (k : ℕ) (recv : List ℕ) (es : List Entry) (ups : List (Option Up)) → IsIdle k recv es ups → IsIdle k recv es (ups ++ None ∷ [])
idle_none k recv es ups h = record {
  none = h.none;
  words = nothing_more words_in ups None refl ∙ h.words;
  selections = h.selections;
  few = let more : count_on credit_in (ups ++ None ∷ []) ≡ count_on credit_in ups + 0 = count_more credit_in ups None in omega (arith, more, h.few);
}

come_none : (g : Seen) (free : Bool) (recv : List ℕ) (es : List Entry) (ups : List (Option Up)) (f : FlashState) (before : Transfer)
    → HasCome g free recv es ups f before → HasCome g free recv es (ups ++ None ∷ []) f before
come_none g free recv es ups f before h = record {
  done = h.done;
  words = nothing_more words_in ups None refl ∙ h.words;
  credits = let more : count_on credit_in (ups ++ None ∷ []) ≡ count_on credit_in ups + 0 = count_more credit_in ups None in omega (arith, more, h.credits);
  word = h.word;
  one = h.one;
  given = h.given;
}

sent_none : (g : Seen) (free : Bool) (recv : List ℕ) (es : List Entry) (ups : List (Option Up)) (f : FlashState) (before : Transfer)
    → IsSent g free recv es ups f before → IsSent g free recv es (ups ++ None ∷ []) f before
sent_none g free recv es ups f before (Awaited h) = Awaited (record {
  none = h.none;
  words = nothing_more words_in ups None refl ∙ h.words;
  earlier = h.earlier;
  byte = h.byte;
  order = h.order;
  selections = h.selections;
  transfer = h.transfer;
  followed = h.followed;
})
sent_none g free recv es ups f before (Rising h) = Rising (record {
  done = h.done;
  none = h.none;
  word = h.word;
  words = nothing_more words_in ups None refl ∙ h.words;
  last = behind_more word_in credit_in ups None (inl refl) h.last;
  given = h.given;
})
sent_none g free recv es ups f before (Come h) = Come (come_none g free recv es ups f before h)

stage_none : (s : Stage) (g : Seen) (free : Bool) (recv : List ℕ) (es : List Entry) (ups : List (Option Up)) (f : FlashState)
    → AtStage s g free recv es ups f → AtStage s g free recv es (ups ++ None ∷ []) f
stage_none Shut g free recv es ups f h = idle_none 0 recv es ups h
stage_none (Idle k) g free recv es ups f h = idle_none k recv es ups h
stage_none (Sent before) g free recv es ups f h = sent_none g free recv es ups f before h
stage_none (Ready before) g free recv es ups f h = come_none g free recv es ups f before h

opened_none : (w : World) (owing had : ℕ) (recv : List ℕ) (es : List Entry) (ups : List (Option Up)) (f : FlashState)
    → OpenedAt w owing had recv es ups f → OpenedAt w owing had recv es (ups ++ None ∷ []) f
opened_none w owing had recv es ups f o = record {
  owed = o.owed;
  credits = let more : count_on credit_in (ups ++ None ∷ []) ≡ count_on credit_in ups + 0 = count_more credit_in ups None in omega (arith, more, o.credits);
  drained = o.drained;
  free = o.free;
  stage = stage_none w.stage w.flash w.free recv es ups f o.stage;
}

-- a selection or deselect is done

idle_selects : (k : ℕ) (recv : List ℕ) (on : Bool) (es : List Entry) (ups : List (Option Up)) → IsIdle k recv (Select on ∷ es) ups
    → IsIdle k recv es (ups ++ Some credit_up ∷ [])
idle_selects k recv on es ups h = record {
  none = h.none;
  words = nothing_more words_in ups (Some credit_up) refl ∙ h.words;
  selections = h.selections;
  few = let more : count_on credit_in (ups ++ Some credit_up ∷ []) ≡ count_on credit_in ups + 1 = count_more credit_in ups (Some credit_up) in
      let some : suc (length es) + count_on credit_in ups ≤ k = h.few in omega (arith, more, some);
}

awaited_selects : (g : Seen) (free : Bool) (recv : List ℕ) (on : Bool) (es : List Entry) (ups : List (Option Up)) (f : FlashState) (before : Transfer) (earlier : List Entry) (byte : ℕ)
    → IsCalm f → recv ≡ [] → all_on words_in ups ≡ [] → Select on ∷ es ≡ earlier ++ Byte byte ∷ [] → AreSelections earlier → before ≡ (drain (seen f) earlier).transfer
    → IsHeard free before byte → IsAwaited free recv es (ups ++ Some credit_up ∷ []) (selected f on) before
awaited_selects g free recv on es ups f before [] byte c r w e a t h = let bad : ⊥ = cc in elim bad [ ]
awaited_selects g free recv on es ups f before (Byte b ∷ earlier) byte c r w e a t h = elim a [ ]
awaited_selects g free recv on es ups f before (Select by ∷ earlier) byte c r w e a t h =
    let same : on ≡ by = cc in
    record {
      none = r;
      words = nothing_more words_in ups (Some credit_up) refl ∙ w;
      earlier = earlier;
      byte = byte;
      order = cc;
      selections = a;
      transfer = t ∙ ap (λ (s : Seen). (drain s earlier).transfer) (ap (λ on. step (seen f) (Select on)) (sym same) ∙ sym ((sees_all f).selection on c));
      followed = h;
    }

sent_selects : (g : Seen) (free : Bool) (recv : List ℕ) (on : Bool) (es : List Entry) (ups : List (Option Up)) (f : FlashState) (before : Transfer) → IsCalm f
    → IsSent g free recv (Select on ∷ es) ups f before → IsSent g free recv es (ups ++ Some credit_up ∷ []) (selected f on) before
sent_selects g free recv on es ups f before c (Awaited h) =
    Awaited (awaited_selects g free recv on es ups f before h.earlier h.byte c h.none h.words h.order h.selections h.transfer h.followed)
sent_selects g free recv on es ups f before c (Rising h) = let e : Select on ∷ es ≡ [] = h.done in let bad : ⊥ = cc in elim bad [ ]
sent_selects g free recv on es ups f before c (Come h) = let e : Select on ∷ es ≡ [] = h.done in let bad : ⊥ = cc in elim bad [ ]

stage_selects : (s : Stage) (g : Seen) (free : Bool) (recv : List ℕ) (on : Bool) (es : List Entry) (ups : List (Option Up)) (f : FlashState) → IsCalm f
    → AtStage s g free recv (Select on ∷ es) ups f → AtStage s g free recv es (ups ++ Some credit_up ∷ []) (selected f on)
stage_selects Shut g free recv on es ups f c h = idle_selects 0 recv on es ups h
stage_selects (Idle k) g free recv on es ups f c h = idle_selects k recv on es ups h
stage_selects (Sent before) g free recv on es ups f c h = sent_selects g free recv on es ups f before c h
stage_selects (Ready before) g free recv on es ups f c h = let e : Select on ∷ es ≡ [] = h.done in let bad : ⊥ = cc in elim bad [ ]

opened_selects : (w : World) (owing had : ℕ) (recv : List ℕ) (on : Bool) (es : List Entry) (ups : List (Option Up)) (f : FlashState) → IsCalm f
    → OpenedAt w owing had recv (Select on ∷ es) ups f → OpenedAt w owing had recv es (ups ++ Some credit_up ∷ []) (selected f on)
opened_selects w owing had recv on es ups f c o = record {
  owed = o.owed;
  credits = let more : count_on credit_in (ups ++ Some credit_up ∷ []) ≡ count_on credit_in ups + 1 = count_more credit_in ups (Some credit_up) in
      let sum : had + suc (length es) + count_on credit_in ups ≡ 16 = o.credits in omega (arith, more, sum);
  drained = ap (λ s. drain s es) ((sees_all f).selection on c) ∙ o.drained;
  free = λ e. record {
    none = selected_free f on (o.free e).none (o.free e).starts.0;
    starts = subst (λ s. NoStarts s es) (sym ((sees_all f).selection on c)) (o.free e).starts.1;
  };
  stage = stage_selects w.stage w.flash w.free recv on es ups f c o.stage;
}

-- a byte is exchanged

abbrev answered : FlashState → Option Up
answered f = Some (with_word credit_up (flash_answer f))

awaited_exchanges : (w : World) (owing had : ℕ) (recv : List ℕ) (b : ℕ) (es : List Entry) (ups : List (Option Up)) (f : FlashState) (before : Transfer) (earlier : List Entry) (byte : ℕ)
    → IsCalm f → recv ≡ [] → all_on words_in ups ≡ [] → Byte b ∷ es ≡ earlier ++ Byte byte ∷ [] → AreSelections earlier → before ≡ (drain (seen f) earlier).transfer
    → IsHeard w.free before byte → w.stage ≡ Sent before → OpenedAt w owing had recv (Byte b ∷ es) ups f
    → OpenedAt w owing had recv es (ups ++ answered f ∷ []) (byte_sent f b)
awaited_exchanges w owing had recv b es ups f before (Byte x ∷ earlier) byte c r v e a t h s o = elim a [ ]
awaited_exchanges w owing had recv b es ups f before (Select x ∷ earlier) byte c r v e a t h s o = let bad : ⊥ = cc in elim bad [ ]
awaited_exchanges w owing had recv b es ups f before [] byte c r v e a t h s o =
    let same : b ≡ byte = cc in
    let none : es ≡ [] = cc in
    let is_free : (w.free ≡ true → f.work ≡ None) = λ (x : w.free ≡ true). (o.free x).none in
    let follows : (f.transfer ≡ Selected → (b == 0x05) ≡ false → f.work ≡ None)
    = λ (x : f.transfer ≡ Selected) (y : (b == 0x05) ≡ false). is_free (h (t ∙ x) (ap (λ n. n == 0x05) (sym same) ∙ y)) in
    let goes : seen (byte_sent f b) ≡ step (seen f) (Byte b) = (sees_all f).byte b follows in
    let ends : step (seen f) (Byte b) ≡ w.flash = sym (ap (λ es. drain (step (seen f) (Byte b)) es) none) ∙ o.drained in
    let told : Answers f w.free = answers f w.free c is_free in
    let given : IsGiven w.flash w.free (byte_sent f b) before (flash_answer f) = record {
      answer = subst (λ t. IsAnswer w.flash w.free t (flash_answer f)) (sym t)
          (subst (λ g. IsAnswer g w.free f.transfer (flash_answer f)) ends (answer_after (seen f) b w.free f.transfer (flash_answer f) told.told));
      idle = λ (x : asks_status before ≡ true) (y : flash_answer f % 2 ≡ 0). sent_work f b ∙ told.known (ap asks_status (sym t) ∙ x) y;
    } in
    let rising : IsRising w.flash w.free recv es (ups ++ answered f ∷ []) (byte_sent f b) before = record {
      done = none;
      none = r;
      word = flash_answer f;
      words = all_more words_in ups (answered f) ∙ ap (λ ws. ws ++ flash_answer f ∷ []) v;
      last = behind_more word_in credit_in ups (answered f) (inr (sym (words_counted ups) ∙ ap length v)) (behind_none word_in credit_in ups (sym (words_counted ups) ∙ ap length v));
      given = given;
    } in
    record {
      owed = o.owed;
      credits = let more : count_on credit_in (ups ++ answered f ∷ []) ≡ count_on credit_in ups + 1 = count_more credit_in ups (answered f) in
          let sum : had + suc (length es) + count_on credit_in ups ≡ 16 = o.credits in omega (arith, more, sum);
      drained = ap (λ s. drain s es) goes ∙ o.drained;
      free = λ e. record { none = sent_work f b ∙ is_free e; starts = subst (λ s. NoStarts s es) (sym goes) (o.free e).starts.1 };
      stage = subst (λ s. AtStage s w.flash w.free recv es (ups ++ answered f ∷ []) (byte_sent f b)) (sym s) (Rising rising);
    }

sent_exchanges : (w : World) (owing had : ℕ) (recv : List ℕ) (b : ℕ) (es : List Entry) (ups : List (Option Up)) (f : FlashState) (before : Transfer)
    → IsCalm f → w.stage ≡ Sent before → OpenedAt w owing had recv (Byte b ∷ es) ups f → IsSent w.flash w.free recv (Byte b ∷ es) ups f before
    → OpenedAt w owing had recv es (ups ++ answered f ∷ []) (byte_sent f b)
sent_exchanges w owing had recv b es ups f before c s o (Awaited h) =
    awaited_exchanges w owing had recv b es ups f before h.earlier h.byte c h.none h.words h.order h.selections h.transfer h.followed s o
sent_exchanges w owing had recv b es ups f before c s o (Rising h) = let e : Byte b ∷ es ≡ [] = h.done in let bad : ⊥ = cc in elim bad [ ]
sent_exchanges w owing had recv b es ups f before c s o (Come h) = let e : Byte b ∷ es ≡ [] = h.done in let bad : ⊥ = cc in elim bad [ ]

stage_exchanges : (w : World) (owing had : ℕ) (recv : List ℕ) (b : ℕ) (es : List Entry) (ups : List (Option Up)) (f : FlashState) (s : Stage)
    → IsCalm f → w.stage ≡ s → OpenedAt w owing had recv (Byte b ∷ es) ups f → AtStage s w.flash w.free recv (Byte b ∷ es) ups f
    → OpenedAt w owing had recv es (ups ++ answered f ∷ []) (byte_sent f b)
stage_exchanges w owing had recv b es ups f Shut c s o h = elim h.selections [ ]
stage_exchanges w owing had recv b es ups f (Idle k) c s o h = elim h.selections [ ]
stage_exchanges w owing had recv b es ups f (Sent before) c s o h = sent_exchanges w owing had recv b es ups f before c s o h
stage_exchanges w owing had recv b es ups f (Ready before) c s o h = let e : Byte b ∷ es ≡ [] = h.done in let bad : ⊥ = cc in elim bad [ ]

-- the unit's cycle

abbrev pub Known : World → SerialRegisters → List (Option Down) → SpiState → List (Option Up) → Type 0
Known w p downs s ups = OpenedAt w p.owed p.credits p.received (s.queue ++ all_on entries_in downs) ups s.flash

opened_worked : (w : World) (p : SerialRegisters) (downs : List (Option Down)) (s : SpiState) (ups : List (Option Up)) (g : Given SpiState) → Works s g → IsCalm s.flash → Known w p downs s ups
    → Known w p downs g.unit (ups ++ g.up ∷ [])
opened_worked w p downs s ups g (Waits queue flash up) c o =
    subst (λ up. OpenedAt w p.owed p.credits p.received (g.unit.queue ++ all_on entries_in downs) (ups ++ up ∷ []) g.unit.flash) (sym up)
    (subst (λ f. OpenedAt w p.owed p.credits p.received (g.unit.queue ++ all_on entries_in downs) (ups ++ None ∷ []) f) (sym flash)
    (subst (λ queue. OpenedAt w p.owed p.credits p.received (queue ++ all_on entries_in downs) (ups ++ None ∷ []) (flash_cycle s.flash)) (sym queue)
    (opened_none w p.owed p.credits p.received (s.queue ++ all_on entries_in downs) ups (flash_cycle s.flash)
    (opened_cycled w p.owed p.credits p.received (s.queue ++ all_on entries_in downs) ups s.flash o))))
opened_worked w p downs s ups g (Selects on rest is queue flash up) c o =
    subst (λ up. OpenedAt w p.owed p.credits p.received (g.unit.queue ++ all_on entries_in downs) (ups ++ up ∷ []) g.unit.flash) (sym up)
    (subst (λ f. OpenedAt w p.owed p.credits p.received (g.unit.queue ++ all_on entries_in downs) (ups ++ Some credit_up ∷ []) f) (sym flash)
    (subst (λ queue. OpenedAt w p.owed p.credits p.received (queue ++ all_on entries_in downs) (ups ++ Some credit_up ∷ []) (selected (flash_cycle s.flash) on)) (sym queue)
    (opened_selects w p.owed p.credits p.received on (rest ++ all_on entries_in downs) ups (flash_cycle s.flash) ((stays_calm s.flash).cycle c)
    (subst (λ queue. OpenedAt w p.owed p.credits p.received (queue ++ all_on entries_in downs) ups (flash_cycle s.flash)) is
    (opened_cycled w p.owed p.credits p.received (s.queue ++ all_on entries_in downs) ups s.flash o)))))
opened_worked w p downs s ups g (Exchanges byte rest is queue flash up) c o =
    let cycling : OpenedAt w p.owed p.credits p.received (Byte byte ∷ (rest ++ all_on entries_in downs)) ups (flash_cycle s.flash)
    = subst (λ queue. OpenedAt w p.owed p.credits p.received (queue ++ all_on entries_in downs) ups (flash_cycle s.flash)) is
    (opened_cycled w p.owed p.credits p.received (s.queue ++ all_on entries_in downs) ups s.flash o) in
    subst (λ up. OpenedAt w p.owed p.credits p.received (g.unit.queue ++ all_on entries_in downs) (ups ++ up ∷ []) g.unit.flash) (sym up)
    (subst (λ f. OpenedAt w p.owed p.credits p.received (g.unit.queue ++ all_on entries_in downs) (ups ++ answered (flash_cycle s.flash) ∷ []) f) (sym flash)
    (subst (λ queue. OpenedAt w p.owed p.credits p.received (queue ++ all_on entries_in downs) (ups ++ answered (flash_cycle s.flash) ∷ []) (byte_sent (flash_cycle s.flash) byte)) (sym queue)
    (stage_exchanges w p.owed p.credits p.received byte (rest ++ all_on entries_in downs) ups (flash_cycle s.flash) w.stage ((stays_calm s.flash).cycle c) refl cycling cycling.stage)))

-- no Reset comes
pub opened_unit : (w : World) (p : SerialRegisters) (downs : List (Option Down)) (s : SpiState) (ups : List (Option Up)) (now : ℕ) (d : Option Down) → reset_in d ≡ 0 → IsCalm s.flash
    → Known w p (d ∷ downs) s ups → Known w p downs (spi_cycle s now d).unit (ups ++ (spi_cycle s now d).up ∷ [])
unfolding spi_cycle
opened_unit w p downs s ups now None r c o = opened_worked w p downs s ups (engine s) (works s) c o
opened_unit w p downs s ups now (Some Reset) r c o = absurd (omega (arith, r))
opened_unit w p downs s ups now (Some (Set reg word)) r c o =
    opened_worked w p downs (set_in s reg word) ups (engine (set_in s reg word)) (works (set_in s reg word)) (subst IsCalm (sym (sets s reg word).flash) c) (opened_set w p downs s ups reg word o)
