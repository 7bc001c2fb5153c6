-- The flash, and the flash as it is seen from outside.
use Rattle.std.proofs.Common.{[], ◌∷◌, ◌≡◌, ℕ, ◌+◌, ◌%◌, ◌==◌, ◌&&◌, Bool, true, false, List, refl, sym, ap, arith, subst, ◌∙◌, Option, Some, None, nat_lt, if◌then◌else◌}
use Rattle.std.specs.Prelude.{not, is_some}
use Rattle.std.proofs.lemmas.Bool.{eqb-true}
use Rattle.spi_flash.specs.declared.transfer.Entry.{Entry}
use Rattle.spi_flash.specs.declared.transfer.Entry.TheVariants.{Byte, Select}
use Rattle.spi_flash.specs.declared.transfer.Transfer.{Transfer}
use Rattle.spi_flash.specs.declared.transfer.Transfer.TheVariants.{Idle, Ignored, Opened, Command, Read, Program}
use Rattle.spi_flash.specs.declared.transfer.Operation.{Operation}
use Rattle.spi_flash.specs.declared.transfer.UnderWay.{UnderWay}
use Rattle.spi_flash.specs.Flash.{FlashState, byte_sent, command_in, commanded, deselected, enable_after, erase_of, flash_answer, flash_cycle, flash_size, flash_start, followed, opened, operation_of, selected, settled_by, started, transfer_answer, worked}
use Rattle.flash_seen.specs.Laws.{AnswersAsSeen, IsCalm, IsFollowed, SeesAll, StaysCalm, asks_status, is_passive, DrainsAsSeen, after_entries, after_entry}
use Rattle.flash_seen.specs.Seen.{answer_seen, seen, starts, starts_by, step, NoStarts, drain}

abbrev flash : Bool → List ℕ → Bool → Transfer → Option UnderWay → FlashState
flash fitted cells enable transfer work = record { fitted = fitted; cells = cells; enable = enable; transfer = transfer; work = work }

-- a cycle

cycled_some : (fitted : Bool) (cells : List ℕ) (enable : Bool) (transfer : Transfer) (work : UnderWay) (last : Bool) → (work.left == 1) ≡ last
    → seen (worked (flash fitted cells enable transfer (Some work)) (Some work)) ≡ seen (flash fitted cells enable transfer (Some work))
cycled_some fitted cells enable transfer work true e = rw e refl
cycled_some fitted cells enable transfer work false e = rw e refl

cycled_of : (fitted : Bool) (cells : List ℕ) (enable : Bool) (transfer : Transfer) (work : Option UnderWay)
    → seen (worked (flash fitted cells enable transfer work) work) ≡ seen (flash fitted cells enable transfer work)
cycled_of fitted cells enable transfer None = refl
cycled_of fitted cells enable transfer (Some work) = cycled_some fitted cells enable transfer work (work.left == 1) refl

seen_cycle : (f : FlashState) → seen (flash_cycle f) ≡ seen f
seen_cycle f = cycled_of f.fitted f.cells f.enable f.transfer f.work

calm_some : (f : FlashState) (work : UnderWay) (last : Bool) → (work.left == 1) ≡ last → f.work ≡ Some work → IsCalm f → IsCalm (worked f (Some work))
calm_some f work true e is c = rw e record { passive = λ (h : false ≡ true). absurd (cc h); enabled = λ (h : false ≡ true). absurd (cc h); unfit = λ h. refl }
calm_some f work false e is c = rw e record {
  passive = λ h. c.passive (ap (λ w. is_some w) is);
  enabled = λ h. c.enabled (ap (λ w. is_some w) is);
  unfit = λ h. let bad : Some work ≡ None = sym is ∙ c.unfit h in absurd (cc bad);
}

calm_of : (f : FlashState) (work : Option UnderWay) → f.work ≡ work → IsCalm f → IsCalm (worked f work)
calm_of f None is c = c
calm_of f (Some work) is c = calm_some f work (work.left == 1) refl is c

calm_cycle : (f : FlashState) → IsCalm f → IsCalm (flash_cycle f)
calm_cycle f c = calm_of f f.work refl c

-- a transfer that is passive starts nothing

record Passes (transfer : Transfer) : Type 0 where
  none : operation_of transfer ≡ None
  kept : (enable : Bool) → enable_after transfer enable ≡ enable

none_either : (b : Bool) (operation : Option Operation) → operation ≡ None → (if b then operation else None) ≡ None
none_either true operation e = e
none_either false operation e = refl

passive_five : (count address : ℕ) → Passes (Command 0x05 count address)
passive_five count address = record { none = none_either (count == 3) None refl; kept = λ e. refl }

passive : (transfer : Transfer) → is_passive transfer ≡ true → Passes transfer
passive Idle h = record { none = refl; kept = λ e. refl }
passive Ignored h = record { none = refl; kept = λ e. refl }
passive Opened h = record { none = refl; kept = λ e. refl }
passive (Read at) h = absurd (cc h)
passive (Program address page at filled) h = absurd (cc h)
passive (Command code count address) h = subst (λ k. Passes (Command k count address)) (sym (eqb-true code 5 h)) (passive_five count address)

-- a selection

ended_free : (cells : List ℕ) (enable : Bool) (transfer : Transfer) (operation : Option Operation) → operation_of transfer ≡ operation
    → seen (deselected (flash true cells enable transfer None)) ≡ step (seen (flash true cells enable transfer None)) (Select false)
ended_free cells true transfer (Some operation) e = rw e refl
ended_free cells false transfer (Some operation) e = rw e refl
ended_free cells true transfer None e = rw e refl
ended_free cells false transfer None e = rw e refl

ended_busy : (cells : List ℕ) (enable : Bool) (transfer : Transfer) (work : UnderWay) → Passes transfer
    → seen (deselected (flash true cells enable transfer (Some work))) ≡ step (seen (flash true cells enable transfer (Some work))) (Select false)
ended_busy cells enable transfer work p = rw (p.none, p.kept false) refl

selected_of : (fitted : Bool) (cells : List ℕ) (enable : Bool) (transfer : Transfer) (work : Option UnderWay) (on : Bool) → IsCalm (flash fitted cells enable transfer work)
    → seen (selected (flash fitted cells enable transfer work) on) ≡ step (seen (flash fitted cells enable transfer work)) (Select on)
selected_of false cells enable transfer work on c = refl
selected_of true cells enable transfer work true c = refl
selected_of true cells enable transfer None false c = ended_free cells enable transfer (operation_of transfer) refl
selected_of true cells enable transfer (Some work) false c = ended_busy cells enable transfer work (passive transfer (c.passive refl))

pub seen_selected : (f : FlashState) (on : Bool) → IsCalm f → seen (selected f on) ≡ step (seen f) (Select on)
seen_selected f on c = selected_of f.fitted f.cells f.enable f.transfer f.work on c

passive_opened : (transfer : Transfer) → is_passive transfer ≡ true → is_passive (opened transfer) ≡ true
passive_opened Idle h = refl
passive_opened Ignored h = refl
passive_opened Opened h = refl
passive_opened (Read at) h = h
passive_opened (Program address page at filled) h = h
passive_opened (Command code count address) h = h

-- what a deselect starts is started where write enable is set, and leaves it so
started_needs : (operation : Option Operation) (enable : Bool) → is_some (started operation enable None) ≡ true → (is_some operation ≡ true) × (enable ≡ true)
started_needs None enable h = absurd (cc h)
started_needs (Some operation) true h = (refl, refl)
started_needs (Some operation) false h = absurd (cc h)

erase_none : (code address : ℕ) → (code == 0x04) ≡ true → erase_of code address ≡ None
erase_none code address e = let is : code ≡ 0x04 = eqb-true code 4 e in rw is refl

is_some_if : (b : Bool) (operation : Option Operation) → is_some (if b then operation else None) ≡ true → is_some operation ≡ true
is_some_if true operation h = h
is_some_if false operation h = absurd (cc h)

kept_by : (code address : ℕ) (six four : Bool) → (code == 0x06) ≡ six → (code == 0x04) ≡ four → is_some (erase_of code address) ≡ true
    → (if six then true else if four then false else true) ≡ true
kept_by code address true four s f h = refl
kept_by code address false false s f h = refl
kept_by code address false true s f h = let bad : false ≡ true = sym (ap (λ o. is_some o) (erase_none code address f)) ∙ h in absurd (cc bad)

enable_kept : (transfer : Transfer) → is_some (operation_of transfer) ≡ true → enable_after transfer true ≡ true
enable_kept Idle h = refl
enable_kept Ignored h = refl
enable_kept Opened h = refl
enable_kept (Read at) h = refl
enable_kept (Program address page at filled) h = refl
enable_kept (Command code count address) h = kept_by code (address % flash_size) _ _ refl refl (is_some_if (count == 3) _ h)

enabled_started : (transfer : Transfer) (enable : Bool) → is_some (started (operation_of transfer) enable None) ≡ true → enable_after transfer enable ≡ true
enabled_started transfer enable h =
    let needs : (is_some (operation_of transfer) ≡ true) × (enable ≡ true) = started_needs (operation_of transfer) enable h in
    ap (enable_after transfer) needs.1 ∙ enable_kept transfer needs.0

calm_selected_of : (fitted : Bool) (cells : List ℕ) (enable : Bool) (transfer : Transfer) (work : Option UnderWay) (on : Bool)
    → IsCalm (flash fitted cells enable transfer work) → IsCalm (selected (flash fitted cells enable transfer work) on)
calm_selected_of false cells enable transfer work on c = c
calm_selected_of true cells enable transfer work true c = record {
  passive = λ h. passive_opened transfer (c.passive h);
  enabled = c.enabled;
  unfit = λ (h : true ≡ false). absurd (cc h);
}
calm_selected_of true cells enable transfer None false c = record {
  passive = λ h. refl;
  enabled = enabled_started transfer enable;
  unfit = λ (h : true ≡ false). absurd (cc h);
}
calm_selected_of true cells enable transfer (Some work) false c = record {
  passive = λ h. refl;
  enabled = λ h. (passive transfer (c.passive refl)).kept enable ∙ c.enabled refl;
  unfit = λ (h : true ≡ false). absurd (cc h);
}

calm_selected : (f : FlashState) (on : Bool) → IsCalm f → IsCalm (selected f on)
calm_selected f on c = calm_selected_of f.fitted f.cells f.enable f.transfer f.work on c

starts_one : (operation : Option Operation) (enable : Bool) → is_some (started operation enable None) ≡ starts_by enable operation
starts_one None enable = refl
starts_one (Some operation) true = refl
starts_one (Some operation) false = refl

starts_of : (fitted : Bool) (cells : List ℕ) (enable : Bool) (transfer : Transfer) (work : Option UnderWay) (on : Bool) → work ≡ None
    → is_some (selected (flash fitted cells enable transfer work) on).work ≡ starts (seen (flash fitted cells enable transfer work)) (Select on)
starts_of false cells enable transfer work on e = rw e refl
starts_of true cells enable transfer work true e = rw e refl
starts_of true cells enable transfer work false e = rw e (starts_one (operation_of transfer) enable)

starts_seen : (f : FlashState) (on : Bool) → f.work ≡ None → is_some (selected f on).work ≡ starts (seen f) (Select on)
starts_seen f on e = starts_of f.fitted f.cells f.enable f.transfer f.work on e

-- a byte

first_followed : (work : Option UnderWay) (byte : ℕ) (five : Bool) → (byte == 0x05) ≡ five → (five ≡ false → work ≡ None)
    → command_in (is_some work) byte ≡ Command byte 0 0
first_followed None byte five e h = refl
first_followed (Some work) byte true e h = rw e refl
first_followed (Some work) byte false e h = let bad : Some work ≡ None = h refl in absurd (cc bad)

byte_of_flash : (fitted : Bool) (cells : List ℕ) (enable : Bool) (transfer : Transfer) (work : Option UnderWay) (byte : ℕ) → IsFollowed (flash fitted cells enable transfer work) byte
    → seen (byte_sent (flash fitted cells enable transfer work) byte) ≡ step (seen (flash fitted cells enable transfer work)) (Byte byte)
byte_of_flash false cells enable transfer work byte h = refl
byte_of_flash true cells enable Idle work byte h = refl
byte_of_flash true cells enable Ignored work byte h = refl
byte_of_flash true cells enable Opened work byte h =
    ap (λ transfer. record { fitted = true; cells = settled_by cells work; writable = not (is_some work) && enable; transfer = transfer })
    (first_followed work byte (byte == 0x05) refl (h refl))
byte_of_flash true cells enable (Command code count address) work byte h = refl
byte_of_flash true cells enable (Read at) work byte h = refl
byte_of_flash true cells enable (Program address page at filled) work byte h = refl

seen_byte : (f : FlashState) (byte : ℕ) → IsFollowed f byte → seen (byte_sent f byte) ≡ step (seen f) (Byte byte)
seen_byte f byte h = byte_of_flash f.fitted f.cells f.enable f.transfer f.work byte h

passive_either : (b : Bool) (x y : Transfer) → is_passive x ≡ true → is_passive y ≡ true → is_passive (if b then x else y) ≡ true
passive_either true x y p q = p
passive_either false x y p q = q

passive_commanded : (count address byte : ℕ) → is_passive (commanded 0x05 count address byte) ≡ true
passive_commanded count address byte = passive_either (nat_lt count 2) _ _ refl (passive_either (count == 2) _ _ refl refl)

passive_followed : (transfer : Transfer) (byte : ℕ) (five : Bool) → (byte == 0x05) ≡ five → is_passive transfer ≡ true → is_passive (followed true transfer byte) ≡ true
passive_followed Idle byte five e h = refl
passive_followed Ignored byte five e h = refl
passive_followed Opened byte true e h = rw e e
passive_followed Opened byte false e h = rw e refl
passive_followed (Read at) byte five e h = absurd (cc h)
passive_followed (Program address page at filled) byte five e h = absurd (cc h)
passive_followed (Command code count address) byte five e h =
    subst (λ k. is_passive (commanded k count address byte) ≡ true) (sym (eqb-true code 5 h)) (passive_commanded count address byte)

calm_byte_some : (transfer : Transfer) (work : Option UnderWay) (byte : ℕ) → (is_some work ≡ true → is_passive transfer ≡ true) → is_some work ≡ true
    → is_passive (followed (is_some work) transfer byte) ≡ true
calm_byte_some transfer None byte h e = absurd (cc e)
calm_byte_some transfer (Some work) byte h e = passive_followed transfer byte (byte == 0x05) refl (h refl)

calm_byte_of : (fitted : Bool) (cells : List ℕ) (enable : Bool) (transfer : Transfer) (work : Option UnderWay) (byte : ℕ)
    → IsCalm (flash fitted cells enable transfer work) → IsCalm (byte_sent (flash fitted cells enable transfer work) byte)
calm_byte_of false cells enable transfer work byte c = c
calm_byte_of true cells enable transfer work byte c = record { passive = calm_byte_some transfer work byte c.passive; enabled = c.enabled; unfit = c.unfit }

calm_byte : (f : FlashState) (byte : ℕ) → IsCalm f → IsCalm (byte_sent f byte)
calm_byte f byte c = calm_byte_of f.fitted f.cells f.enable f.transfer f.work byte c

pub calm_at_start : (fitted : Bool) → IsCalm (flash_start fitted)
calm_at_start fitted = record { passive = λ h. refl; enabled = λ (h : false ≡ true). absurd (cc h); unfit = λ h. refl }

pub stays_calm : (f : FlashState) → StaysCalm f
stays_calm f = record {
  cycle = calm_cycle f;
  selection = calm_selected f;
  byte = calm_byte f;
  reset = λ c. record { passive = λ h. refl; enabled = c.enabled; unfit = c.unfit };
}

pub sees_all : (f : FlashState) → SeesAll f
sees_all f = record { cycle = seen_cycle f; selection = seen_selected f; byte = seen_byte f; reset = refl; starts = starts_seen f }

-- entries

work_of_byte : (f : FlashState) (byte : ℕ) (fitted : Bool) → f.fitted ≡ fitted → (byte_sent f byte).work ≡ f.work
work_of_byte f byte true e = rw e refl
work_of_byte f byte false e = rw e refl

is_none : (work : Option UnderWay) → is_some work ≡ false → work ≡ None
is_none None h = refl
is_none (Some work) h = absurd (cc h)

pub calm_free : (f : FlashState) → f.work ≡ None → IsCalm f
calm_free f e = record {
  passive = λ h. let bad : true ≡ false = sym h ∙ ap (λ w. is_some w) e in absurd (cc bad);
  enabled = λ h. let bad : true ≡ false = sym h ∙ ap (λ w. is_some w) e in absurd (cc bad);
  unfit = λ h. e;
}

record EntersFree (f : FlashState) (entry : Entry) : Type 0 where
  free : (after_entry f entry).work ≡ None
  same : seen (after_entry f entry) ≡ step (seen f) entry

enters_free : (f : FlashState) (entry : Entry) → f.work ≡ None → starts (seen f) entry ≡ false → EntersFree f entry
enters_free f (Byte byte) e s = record { free = work_of_byte f byte f.fitted refl ∙ e; same = seen_byte f byte (λ o h. e) }
enters_free f (Select on) e s = record { free = is_none (selected f on).work (starts_seen f on e ∙ s); same = seen_selected f on (calm_free f e) }

pub drains_from : (entries : List Entry) (f : FlashState) → f.work ≡ None → NoStarts (seen f) entries
    → ((after_entries f entries).work ≡ None) × (seen (after_entries f entries) ≡ drain (seen f) entries)
drains_from [] f e n = (e, refl)
drains_from (entry ∷ more) f e n =
    let one = enters_free f entry e n.0 in
    let rest = drains_from more (after_entry f entry) one.free (subst (λ s. NoStarts s more) (sym one.same) n.1) in
    (rest.0, rest.1 ∙ ap (λ s. drain s more) one.same)

pub drains_as_seen : (f : FlashState) → DrainsAsSeen f
drains_as_seen f e entries n = drains_from entries f e n

-- answers

settled_answer : (s t : ℕ) (cells : List ℕ) (transfer : Transfer) (work : Option UnderWay) → (is_some work ≡ true → is_passive transfer ≡ true) → asks_status transfer ≡ false
    → transfer_answer s cells transfer ≡ transfer_answer t (settled_by cells work) transfer
settled_answer s t cells Idle work c h = refl
settled_answer s t cells Ignored work c h = refl
settled_answer s t cells Opened work c h = refl
settled_answer s t cells (Command code count address) work c h = rw h refl
settled_answer s t cells (Program address page at filled) work c h = refl
settled_answer s t cells (Read at) None c h = refl
settled_answer s t cells (Read at) (Some work) c h = let bad : false ≡ true = c refl in absurd (cc bad)

other_of : (fitted : Bool) (cells : List ℕ) (enable : Bool) (transfer : Transfer) (work : Option UnderWay) → IsCalm (flash fitted cells enable transfer work) → asks_status transfer ≡ false
    → flash_answer (flash fitted cells enable transfer work) ≡ answer_seen (seen (flash fitted cells enable transfer work))
other_of false cells enable transfer work c h = refl
other_of true cells enable transfer work c h = settled_answer _ _ cells transfer work c.passive h

status_answer : (s : ℕ) (cells : List ℕ) (transfer : Transfer) → asks_status transfer ≡ true → transfer_answer s cells transfer ≡ s
status_answer s cells Idle h = absurd (cc h)
status_answer s cells Ignored h = absurd (cc h)
status_answer s cells Opened h = absurd (cc h)
status_answer s cells (Read at) h = absurd (cc h)
status_answer s cells (Program address page at filled) h = absurd (cc h)
status_answer s cells (Command code count address) h = rw h refl

abbrev status_word : Bool → Bool → ℕ
status_word busy enable = (if busy then 1 else 0) + (if enable then 2 else 0)

status_even : (work : Option UnderWay) (enable : Bool) → status_word (is_some work) enable % 2 ≡ 0 → work ≡ None
status_even None enable h = refl
status_even (Some work) true h = absurd (omega (arith, h))
status_even (Some work) false h = absurd (omega (arith, h))

status_same : (cells : List ℕ) (enable : Bool) (transfer : Transfer) (work : Option UnderWay) → work ≡ None
    → flash_answer (flash true cells enable transfer work) ≡ answer_seen (seen (flash true cells enable transfer work))
status_same cells enable transfer work e = rw e refl

status_of_flash : (fitted : Bool) (cells : List ℕ) (enable : Bool) (transfer : Transfer) (work : Option UnderWay) → fitted ≡ true → asks_status transfer ≡ true
    → flash_answer (flash fitted cells enable transfer work) % 2 ≡ 0
    → (work ≡ None) × (flash_answer (flash fitted cells enable transfer work) ≡ answer_seen (seen (flash fitted cells enable transfer work)))
status_of_flash false cells enable transfer work is h e = absurd (cc is)
status_of_flash true cells enable transfer work is h e =
    let even : status_word (is_some work) enable % 2 ≡ 0 = ap (λ n. n % 2) (sym (status_answer (status_word (is_some work) enable) cells transfer h)) ∙ e in
    let none : work ≡ None = status_even work enable even in
    (none, status_same cells enable transfer work none)

status_odd : (work : Option UnderWay) (enable : Bool) → (is_some work ≡ true → enable ≡ true) → status_word (is_some work) enable % 2 ≡ 1 → status_word (is_some work) enable ≡ 3
status_odd None true c h = absurd (omega (arith, h))
status_odd None false c h = absurd (omega (arith, h))
status_odd (Some work) true c h = refl
status_odd (Some work) false c h = let bad : false ≡ true = c refl in absurd (cc bad)

busy_of_flash : (fitted : Bool) (cells : List ℕ) (enable : Bool) (transfer : Transfer) (work : Option UnderWay) → IsCalm (flash fitted cells enable transfer work) → fitted ≡ true
    → asks_status transfer ≡ true → flash_answer (flash fitted cells enable transfer work) % 2 ≡ 1 → flash_answer (flash fitted cells enable transfer work) ≡ 3
busy_of_flash false cells enable transfer work c is h e = absurd (cc is)
busy_of_flash true cells enable transfer work c is h e =
    let same : flash_answer (flash true cells enable transfer work) ≡ status_word (is_some work) enable = status_answer (status_word (is_some work) enable) cells transfer h in
    same ∙ status_odd work enable c.enabled (ap (λ n. n % 2) (sym same) ∙ e)

pub answers_as_seen : (f : FlashState) → AnswersAsSeen f
answers_as_seen f = record {
  other = other_of f.fitted f.cells f.enable f.transfer f.work;
  status = status_of_flash f.fitted f.cells f.enable f.transfer f.work;
  busy = busy_of_flash f.fitted f.cells f.enable f.transfer f.work;
}
