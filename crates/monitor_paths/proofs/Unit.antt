-- What a message and a cycle do to the unit and its flash, and what a byte is answered.
use Rattle.std.proofs.Common.{◌≡◌, ◌≤◌, ℕ, ◌+◌, ◌%◌, Bool, true, false, ◌&&◌, List, [], ◌∷◌, ◌++◌, length, Option, None, Some, refl, sym, ap, ◌∙◌, arith, append-nil, subst}
use Rattle.std.specs.Prelude.{◌==◌, nat_lt, not, is_some, if◌then◌else◌}
use Rattle.std.proofs.lemmas.Bool.{eqb-true}
use Rattle.std.proofs.lemmas.Bool.Decides.{nat_tests}
use Rattle.chip_base.specs.Given.{Given, quiet}
use Rattle.chip_base.specs.Messages.{credit_up, with_word}
use Rattle.chip_base.specs.declared.message.Down.TheVariants.{Set}
use Rattle.flash_seen.specs.Laws.{IsCalm, asks_status}
use Rattle.flash_seen.specs.Seen.{Seen, answer_seen, seen, starts, step}
use Rattle.flash_seen.specs.World.{IsAnswer}
use Rattle.flash_seen.proofs.Flashes.{answers_as_seen, sees_all}
use Rattle.spi_flash.specs.Flash.{FlashState, byte_sent, flash_answer, flash_cycle, selected, transfer_answer, worked}
use Rattle.spi_flash.specs.SpiCounts.{entries_in}
use Rattle.spi_flash.specs.SpiCycle.{SpiState, engine, engine_at, exchanged, queued, running, selecting, set_in}
use Rattle.spi_flash.specs.declared.transfer.Entry.{Entry}
use Rattle.spi_flash.specs.declared.transfer.Entry.TheVariants.{Byte, Select}
use Rattle.spi_flash.specs.declared.transfer.Transfer.{Transfer}
use Rattle.spi_flash.specs.declared.transfer.Transfer.TheVariants.{Idle, Ignored, Opened, Command, Read, Program}
use Rattle.spi_flash.specs.declared.transfer.UnderWay.{UnderWay}

-- a message

pub record SetsIn (s : SpiState) (reg word : ℕ) (new : SpiState) : Type 0 where
  pub flash : new.flash ≡ s.flash
  pub room : length s.queue + length (entries_in (Some (Set reg word))) ≤ 16 → new.queue ≡ s.queue ++ entries_in (Some (Set reg word))
  pub none : entries_in (Some (Set reg word)) ≡ [] → new.queue ≡ s.queue

appends_by : (s : SpiState) (entry : Entry) (room : Bool) → nat_lt (length s.queue) 16 ≡ room
    → ((queued s entry).flash ≡ s.flash) × (length s.queue + 1 ≤ 16 → (queued s entry).queue ≡ s.queue ++ entry ∷ [])
appends_by s entry true h = rw h (refl, λ l. refl)
appends_by s entry false h = rw h (refl, λ l. let full : 16 ≤ length s.queue = grind (arith, nat_tests) in absurd (omega (arith, l, full)))

is_none : (entry : Entry) → entry ∷ [] ≡ [] → ⊥
is_none entry e = let bad : ⊥ = cc in bad

sets_entry : (s : SpiState) (reg word : ℕ) (entry : Entry) → set_in s reg word ≡ queued s entry → entries_in (Some (Set reg word)) ≡ entry ∷ [] → SetsIn s reg word (set_in s reg word)
sets_entry s reg word entry e f =
    let t = appends_by s entry _ refl in
    record {
      flash = ap (λ s. s.flash) e ∙ t.0;
      room = λ l. ap (λ s. s.queue) e ∙ t.1 (subst (λ es. length s.queue + length es ≤ 16) f l) ∙ ap (λ es. s.queue ++ es) (sym f);
      none = λ l. elim (is_none entry (sym f ∙ l)) [ ];
    }

sets_none : (s : SpiState) (reg word : ℕ) → (set_in s reg word).flash ≡ s.flash → (set_in s reg word).queue ≡ s.queue → entries_in (Some (Set reg word)) ≡ []
    → SetsIn s reg word (set_in s reg word)
sets_none s reg word flash queue none = record {
  flash = flash;
  room = λ l. queue ∙ sym (append-nil s.queue) ∙ ap (λ es. s.queue ++ es) (sym none);
  none = λ l. queue;
}

sets_by : (s : SpiState) (reg word : ℕ) (a b c : Bool) → (reg == 0) ≡ a → (reg == 4) ≡ b → (reg == 8) ≡ c → SetsIn s reg word (set_in s reg word)
sets_by s reg word true b c d e f =
    let zero_there : reg ≡ 0 = eqb-true reg 0 d in
    sets_none s reg word (rw zero_there refl) (rw zero_there refl) (rw zero_there refl)
sets_by s reg word false true c d e f = sets_entry s reg word (Byte (word % 256)) (rw (d, e) refl) (rw e refl)
sets_by s reg word false false true d e f = sets_entry s reg word (Select (word % 2 == 1)) (rw (d, e, f) refl) (rw (e, f) refl)
sets_by s reg word false false false d e f = sets_none s reg word (rw (d, e, f) refl) (rw (d, e, f) refl) (rw (e, f) refl)

pub sets : (s : SpiState) (reg word : ℕ) → SetsIn s reg word (set_in s reg word)
sets s reg word = sets_by s reg word _ _ _ refl refl refl

-- a cycle: nothing is done for an entry, a selection or deselect is done, or a byte is exchanged
pub data Works (s : SpiState) (g : Given SpiState) : Type 0 where
  Waits : g.unit.queue ≡ s.queue → g.unit.flash ≡ flash_cycle s.flash → g.up ≡ None → Works s g
  Selects : (on : Bool) (rest : List Entry) → s.queue ≡ Select on ∷ rest → g.unit.queue ≡ rest → g.unit.flash ≡ selected (flash_cycle s.flash) on
      → g.up ≡ Some credit_up → Works s g
  Exchanges : (byte : ℕ) (rest : List Entry) → s.queue ≡ Byte byte ∷ rest → g.unit.queue ≡ rest → g.unit.flash ≡ byte_sent (flash_cycle s.flash) byte
      → g.up ≡ Some (with_word credit_up (flash_answer (flash_cycle s.flash))) → Works s g

abbrev cycled : SpiState → SpiState
cycled s = record s { flash = flash_cycle s.flash }

exchanged_by : (s : SpiState) (byte : ℕ) (rest : List Entry) (left : ℕ) (last : Bool) → (left == 1) ≡ last → s.queue ≡ Byte byte ∷ rest
    → Works s (exchanged (cycled s) byte rest left)
exchanged_by s byte rest left true e q = rw e (Exchanges byte rest q refl refl refl)
exchanged_by s byte rest left false e q = rw e (Waits refl refl refl)

selecting_by : (s : SpiState) (on : Bool) (rest : List Entry) (now : Bool) → (s.left == 0 && s.enabled) ≡ now → s.queue ≡ Select on ∷ rest
    → Works s (selecting (cycled s) on rest)
selecting_by s on rest true e q = rw e (Selects on rest q refl refl refl)
selecting_by s on rest false e q = rw e (Waits refl refl refl)

running_by : (s : SpiState) (byte : ℕ) (rest : List Entry) (idle on : Bool) → (s.left == 0) ≡ idle → s.enabled ≡ on → s.queue ≡ Byte byte ∷ rest
    → Works s (running (cycled s) byte rest)
running_by s byte rest true true e o q = subst (λ g. Works s g) (rw (e, o) refl) (exchanged_by s byte rest s.time _ refl q)
running_by s byte rest true false e o q = let w : Works s (quiet (cycled s)) = Waits refl refl refl in subst (λ g. Works s g) (rw (e, o) refl) w
running_by s byte rest false on e o q = subst (λ g. Works s g) (rw e refl) (exchanged_by s byte rest s.left _ refl q)

works_at : (s : SpiState) (queue : List Entry) → s.queue ≡ queue → Works s (engine_at (cycled s) queue)
works_at s [] e = Waits refl refl refl
works_at s (Select on ∷ rest) e = selecting_by s on rest _ refl e
works_at s (Byte byte ∷ rest) e = running_by s byte rest _ _ refl refl e

pub works : (s : SpiState) → Works s (engine s)
works s = works_at s s.queue refl

-- the flash

pub cycle_seen : (f : FlashState) → seen (flash_cycle f) ≡ seen f
cycle_seen f = (sees_all f).cycle

pub cycle_free : (f : FlashState) → f.work ≡ None → (flash_cycle f).work ≡ None
cycle_free f e = let same : flash_cycle f ≡ f = ap (worked f) e in ap (λ f. f.work) same ∙ e

none_under_way : (work : Option UnderWay) → is_some work ≡ false → work ≡ None
none_under_way None h = refl
none_under_way (Some work) h = absurd (cc h)

pub selected_free : (f : FlashState) (on : Bool) → f.work ≡ None → starts (seen f) (Select on) ≡ false → (selected f on).work ≡ None
selected_free f on e s = none_under_way (selected f on).work ((sees_all f).starts on e ∙ s)

sent_work_by : (f : FlashState) (byte : ℕ) (fitted : Bool) → f.fitted ≡ fitted → (byte_sent f byte).work ≡ f.work
sent_work_by f byte true e = rw e refl
sent_work_by f byte false e = rw e refl

pub sent_work : (f : FlashState) (byte : ℕ) → (byte_sent f byte).work ≡ f.work
sent_work f byte = sent_work_by f byte f.fitted refl

-- an answer

abbrev flash : Bool → List ℕ → Bool → Transfer → Option UnderWay → FlashState
flash fitted cells enable transfer work = record { fitted = fitted; cells = cells; enable = enable; transfer = transfer; work = work }

other_answer : (s t : ℕ) (cells : List ℕ) (transfer : Transfer) → asks_status transfer ≡ false → transfer_answer s cells transfer ≡ transfer_answer t cells transfer
other_answer s t cells Idle h = refl
other_answer s t cells Ignored h = refl
other_answer s t cells Opened h = refl
other_answer s t cells (Command code count address) h = rw h refl
other_answer s t cells (Read at) h = refl
other_answer s t cells (Program address page at filled) h = refl

status_answer : (s : ℕ) (cells : List ℕ) (transfer : Transfer) → asks_status transfer ≡ true → transfer_answer s cells transfer ≡ s
status_answer s cells Idle h = absurd (cc h)
status_answer s cells Ignored h = absurd (cc h)
status_answer s cells Opened h = absurd (cc h)
status_answer s cells (Command code count address) h = rw h refl
status_answer s cells (Read at) h = absurd (cc h)
status_answer s cells (Program address page at filled) h = absurd (cc h)

abbrev idle_word : Bool → ℕ
idle_word enable = 0 + (if enable then 2 else 0)

idle_even : (enable : Bool) → idle_word enable % 2 ≡ 0
idle_even true = refl
idle_even false = refl

idle_is : (enable : Bool) → idle_word enable ≡ (if enable then 2 else 0)
idle_is true = refl
idle_is false = refl

free_even : (cells : List ℕ) (enable : Bool) (transfer : Transfer) (work : Option UnderWay) → work ≡ None → asks_status transfer ≡ true
    → flash_answer (flash true cells enable transfer work) % 2 ≡ 0
free_even cells enable transfer work e h = rw e (ap (λ n. n % 2) (status_answer (idle_word enable) cells transfer h) ∙ idle_even enable)

-- what a flash answers to the next byte
pub record Answers (f : FlashState) (free : Bool) : Type 0 where
  pub told : IsAnswer (seen f) free f.transfer (flash_answer f)
  pub known : asks_status f.transfer ≡ true → flash_answer f % 2 ≡ 0 → f.work ≡ None

idle_status : (cells : List ℕ) (enable : Bool) (transfer : Transfer) (work : Option UnderWay) → asks_status transfer ≡ true
    → flash_answer (flash true cells enable transfer work) ≡ answer_seen (seen (flash true cells enable transfer work))
    → flash_answer (flash true cells enable transfer work) ≡ (if not (is_some work) && enable then 2 else 0)
idle_status cells enable transfer work h e =
    e ∙ status_answer (idle_word (not (is_some work) && enable)) (seen (flash true cells enable transfer work)).cells transfer h ∙ idle_is (not (is_some work) && enable)

answers_by : (fitted : Bool) (cells : List ℕ) (enable : Bool) (transfer : Transfer) (work : Option UnderWay) (free : Bool) → IsCalm (flash fitted cells enable transfer work)
    → (free ≡ true → work ≡ None) → Answers (flash fitted cells enable transfer work) free
answers_by false cells enable transfer work free c f = record {
  told = record {
    absent = λ h. refl;
    other = λ (h : false ≡ true). absurd (cc h);
    idle = λ h e. refl;
    done = λ (h : false ≡ true). absurd (cc h);
    busy = λ (h : false ≡ true). absurd (cc h);
  };
  known = λ h e. c.unfit refl;
}
answers_by true cells enable transfer work free c f =
    let as_seen = answers_as_seen (flash true cells enable transfer work) in
    record {
      told = record {
        absent = λ (h : true ≡ false). absurd (cc h);
        other = λ h s. as_seen.other c s ∙ other_answer _ 0 _ transfer s;
        idle = λ s e. free_even cells enable transfer work (f e) s;
        done = λ h s e. idle_status cells enable transfer work s (as_seen.status refl s e).1;
        busy = λ h s e. as_seen.busy c refl s e;
      };
      known = λ s e. (as_seen.status refl s e).0;
    }

pub answers : (f : FlashState) (free : Bool) → IsCalm f → (free ≡ true → f.work ≡ None) → Answers f free
answers f free c h = answers_by f.fitted f.cells f.enable f.transfer f.work free c h

answer_after_by : (fitted : Bool) (cells : List ℕ) (writable : Bool) (transfer : Transfer) (byte : ℕ) (free : Bool) (before : Transfer) (reply : ℕ)
    → IsAnswer (record { fitted = fitted; cells = cells; writable = writable; transfer = transfer }) free before reply
    → IsAnswer (step (record { fitted = fitted; cells = cells; writable = writable; transfer = transfer }) (Byte byte)) free before reply
answer_after_by true cells writable transfer byte free before reply a = record { absent = a.absent; other = a.other; idle = a.idle; done = a.done; busy = a.busy }
answer_after_by false cells writable transfer byte free before reply a = a

-- it is the answer of the flash as it is seen after the byte too
pub answer_after : (s : Seen) (byte : ℕ) (free : Bool) (before : Transfer) (reply : ℕ) → IsAnswer s free before reply → IsAnswer (step s (Byte byte)) free before reply
answer_after s byte free before reply a = answer_after_by s.fitted s.cells s.writable s.transfer byte free before reply a
