-- What a flash answers where nothing is asked of it, and what changes nothing.
use Rattle.std.proofs.Common.{◌≡◌, ◌≢◌, ◌==◌, ℕ, Bool, true, false, List, Option, None, Some, refl, sym, subst, ◌∙◌}
use Rattle.std.specs.Prelude.{is_some}
use Rattle.std.proofs.lemmas.Bool.{eqb-true, ne_eqb, false≢true}
use Rattle.spi_flash.specs.declared.transfer.Transfer.{Transfer}
use Rattle.spi_flash.specs.declared.transfer.Transfer.TheVariants.{Idle, Ignored, Opened, Command, Read, Program}
use Rattle.spi_flash.specs.declared.transfer.UnderWay.{UnderWay}
use Rattle.spi_flash.specs.Flash.{FlashState, byte_sent, deselected, flash_cycle, operation_of, selected, started, status_of}
use Rattle.spi_flash.specs.Unasked.{AnswersUnasked, ShowsBusy}

abbrev flash : Bool → List ℕ → Bool → Transfer → Option UnderWay → FlashState
flash fitted cells enable transfer work = record { fitted = fitted; cells = cells; enable = enable; transfer = transfer; work = work }

idle_again : (fitted : Bool) (cells : List ℕ) (enable : Bool) (work : Option UnderWay) → selected (flash fitted cells enable Idle work) false ≡ flash fitted cells enable Idle work
idle_again true cells enable work = refl
idle_again false cells enable work = refl

idle_by : (f : FlashState) → f.transfer ≡ Idle → selected f false ≡ f
idle_by f e = subst (λ t. selected (flash f.fitted f.cells f.enable t f.work) false ≡ flash f.fitted f.cells f.enable t f.work) (sym e) (idle_again f.fitted f.cells f.enable f.work)

idle_byte : (f : FlashState) → f.fitted ≡ true → f.transfer ≡ Idle → (byte : ℕ) → byte_sent f byte ≡ f
idle_byte f p e byte =
    subst (λ b. byte_sent (flash b f.cells f.enable f.transfer f.work) byte ≡ flash b f.cells f.enable f.transfer f.work) (sym p)
    (subst (λ t. byte_sent (flash true f.cells f.enable t f.work) byte ≡ flash true f.cells f.enable t f.work) (sym e) refl)

absent_selected : (f : FlashState) → f.fitted ≡ false → (on : Bool) → selected f on ≡ f
absent_selected f p on = rw p refl

pub answers_unasked : (f : FlashState) → AnswersUnasked f
answers_unasked f = record {
  absent = λ p. (rw p refl, λ byte. rw p refl, absent_selected f p);
  idle = λ p e. (rw (p, e) refl, idle_byte f p e);
  opened = λ p e. rw (p, e) refl;
  ignored = λ p e. rw (p, e) refl;
  command = λ p code count address e a b. rw (p, e, a, b) refl;
  page = λ p address page at filled e. rw (p, e) refl;
  deselected_again = idle_by f;
}

-- an erase that starts leaves write enable set
erase_starts : (cells : List ℕ) (enable : Bool) (code count address : ℕ) (three small large : Bool) → (count == 3) ≡ three → (code == 0x20) ≡ small → (code == 0xd8) ≡ large
    → is_some (started (operation_of (Command code count address)) enable None) ≡ true → status_of (deselected (flash true cells enable (Command code count address) None)) ≡ 3
erase_starts cells enable code count address false small large c s l e =
    let none : is_some (started (operation_of (Command code count address)) enable None) ≡ false = rw c refl in absurd (false≢true (sym none ∙ e))
erase_starts cells enable code count address true false false c s l e =
    let none : is_some (started (operation_of (Command code count address)) enable None) ≡ false = rw (c, s, l) refl in absurd (false≢true (sym none ∙ e))
erase_starts cells false code count address true true large c s l e =
    let none : is_some (started (operation_of (Command code count address)) false None) ≡ false = rw (c, s) refl in absurd (false≢true (sym none ∙ e))
erase_starts cells false code count address true false true c s l e =
    let none : is_some (started (operation_of (Command code count address)) false None) ≡ false = rw (c, s, l) refl in absurd (false≢true (sym none ∙ e))
erase_starts cells true code count address true true large c s l e =
    let six : (code == 0x06) ≡ false = rw (eqb-true code 0x20 s) refl in
    let four : (code == 0x04) ≡ false = rw (eqb-true code 0x20 s) refl in
    rw (c, s, six, four) refl
erase_starts cells true code count address true false true c s l e =
    let six : (code == 0x06) ≡ false = rw (eqb-true code 0xd8 l) refl in
    let four : (code == 0x04) ≡ false = rw (eqb-true code 0xd8 l) refl in
    rw (c, s, l, six, four) refl

starts_by : (cells : List ℕ) (enable : Bool) (transfer : Transfer) → is_some (started (operation_of transfer) enable None) ≡ true
    → status_of (deselected (flash true cells enable transfer None)) ≡ 3
starts_by cells enable Idle e = absurd (false≢true e)
starts_by cells enable Ignored e = absurd (false≢true e)
starts_by cells enable Opened e = absurd (false≢true e)
starts_by cells enable (Command code count address) e = erase_starts cells enable code count address (count == 3) (code == 0x20) (code == 0xd8) refl refl refl e
starts_by cells enable (Read at) e = absurd (false≢true e)
starts_by cells enable (Program address page at false) e = absurd (false≢true e)
starts_by cells true (Program address page at true) e = refl
starts_by cells false (Program address page at true) e = absurd (false≢true e)

shows_start : (f : FlashState) → f.fitted ≡ true → f.work ≡ None → is_some (selected f false).work ≡ true → status_of (selected f false) ≡ 3
shows_start f p w e =
    let here : (fitted : Bool) (work : Option UnderWay) → fitted ≡ true → work ≡ None → is_some (selected (flash fitted f.cells f.enable f.transfer work) false).work ≡ true
    → status_of (selected (flash fitted f.cells f.enable f.transfer work) false) ≡ 3
    = λ fitted work a b.
    subst (λ x. is_some (selected (flash x f.cells f.enable f.transfer work) false).work ≡ true → status_of (selected (flash x f.cells f.enable f.transfer work) false) ≡ 3) (sym a)
    (subst (λ x. is_some (selected (flash true f.cells f.enable f.transfer x) false).work ≡ true → status_of (selected (flash true f.cells f.enable f.transfer x) false) ≡ 3) (sym b)
    (starts_by f.cells f.enable f.transfer)) in
    here f.fitted f.work p w e

shows_on : (f : FlashState) (w : UnderWay) → f.work ≡ Some w → w.left ≢ 1 → status_of (flash_cycle f) ≡ status_of f
shows_on f w e n =
    subst (λ x. status_of (flash_cycle (flash f.fitted f.cells f.enable f.transfer x)) ≡ status_of (flash f.fitted f.cells f.enable f.transfer x)) (sym e) goes
  where
    goes : status_of (flash_cycle (flash f.fitted f.cells f.enable f.transfer (Some w))) ≡ status_of (flash f.fitted f.cells f.enable f.transfer (Some w))
    goes = rw (ne_eqb w.left 1 n) refl

pub shows_busy : (f : FlashState) → ShowsBusy f
shows_busy f = record { starts = shows_start f; goes_on = shows_on f }
