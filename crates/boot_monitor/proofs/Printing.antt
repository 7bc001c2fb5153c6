-- The actions that print a text from a place on.
use Rattle.std.proofs.Common.{◌≡◌, ℕ, zero, suc, ◌+◌, ◌<◌, true, false, List, [], ◌∷◌, length, drop, get_or, refl, sym, ap, ◌∙◌, arith, subst, add-one}
use Rattle.std.specs.Prelude.{Some, None, slice_get, ◌==◌, bit_and}
use Rattle.boot_monitor.proofs.Rest.{IsOpen, settled-open, open-print, if-true, if-false}
use Rattle.boot_monitor.specs.declared.phases.Purpose.{Purpose}
use Rattle.boot_monitor.specs.declared.phases.Purpose.TheVariants.{Command, Header, Payload}
use Rattle.boot_monitor.specs.declared.phases.Setting.TheVariants.{Imem, Dmem, Clock}
use Rattle.boot_monitor.specs.declared.phases.Text.{Text}
use Rattle.boot_monitor.specs.declared.phases.Text.TheVariants.{Greeting, Help, Name, Digits, InformationEnd, Up, Done, NoneHeld, UnknownCommand, BadSignature, BadSize, BadChecksum, BadFlash, Go}
use Rattle.boot_monitor.specs.declared.phases.Phase.{Phase}
use Rattle.boot_monitor.specs.declared.phases.Phase.TheVariants.{AwaitingRoom, Sending}
use Rattle.boot_monitor.specs.Actions.{Action, Save, Mind, answered, asks, is_full, load, print, settled, store, uart_ctrl, uart_data}
use Rattle.boot_monitor.specs.Phases.{IsReady, after_text, taking, text_of, todo_in}

pub drop-next : (text : List ℕ) (place : ℕ) → place < length text → drop place text ≡ get_or text place 0 ∷ drop (suc place) text
drop-next [] place h = let bad : ⊥ = omega arith in elim bad [ ]
drop-next (b ∷ text) zero h = refl
drop-next (b ∷ text) (suc place) h = drop-next text place (omega arith)

pub get_or-is : (text : List ℕ) (place b : ℕ) → slice_get text place ≡ Some b → get_or text place 0 ≡ b
get_or-is [] place b h = let bad : ⊥ = cc in elim bad [ ]
get_or-is (x ∷ text) zero b h = cc
get_or-is (x ∷ text) (suc place) b h = get_or-is text place b h

-- behind its end nothing of a text is left
pub drop-end : (text : List ℕ) (place : ℕ) → slice_get text place ≡ None → drop place text ≡ []
drop-end [] zero h = refl
drop-end [] (suc place) h = refl
drop-end (b ∷ text) zero h = let bad : ⊥ = cc in elim bad [ ]
drop-end (b ∷ text) (suc place) h = drop-end text place h

-- before a byte goes out, CTRL is loaded
pub asks-room : (phase : Phase) (text : Text) (place ctrl count size : ℕ) (bytes : List ℕ) → phase ≡ AwaitingRoom text place → IsReady phase
    → load uart_ctrl ≡ asks (todo_in phase ctrl count size) bytes
asks-room phase text place ctrl count size bytes e h =
    subst (λ p. load uart_ctrl ≡ asks (todo_in p ctrl count size) bytes) (sym e)
    (sym (ap (λ t. asks (print t (after_text text)) bytes) (drop-next (text_of text) place (subst IsReady e h))))

-- then the byte is stored
pub asks-byte : (phase : Phase) (text : Text) (place ctrl count size : ℕ) (bytes : List ℕ) (b : ℕ) → phase ≡ Sending text place
    → slice_get (text_of text) place ≡ Some b → store uart_data b ≡ asks (todo_in phase ctrl count size) bytes
asks-byte phase text place ctrl count size bytes b e h =
    subst (λ p. store uart_data b ≡ asks (todo_in p ctrl count size) bytes) (sym e) (ap (store uart_data) (sym (get_or-is (text_of text) place b h)))

pub open-text : (text : Text) → IsOpen (after_text text)
open-text Greeting = tt
open-text Help = tt
open-text (Name setting) = tt
open-text (Digits Imem word) = tt
open-text (Digits Dmem word) = tt
open-text (Digits Clock word) = tt
open-text InformationEnd = tt
open-text Up = tt
open-text Done = tt
open-text NoneHeld = tt
open-text UnknownCommand = tt
open-text BadSignature = tt
open-text BadSize = tt
open-text BadChecksum = tt
open-text BadFlash = tt
open-text Go = tt

module _ (room ctrl count size : ℕ) (i : Mind) (word : ℕ) where
  -- there is room
  pub room-then : (phase : Phase) (text : Text) (place : ℕ) → phase ≡ AwaitingRoom text place → IsReady phase → (bit_and word is_full == 0) ≡ true
      → answered room ctrl (todo_in phase ctrl count size) i word
      ≡ record { todo = Save uart_data (get_or (text_of text) place 0) ∷ print (drop (suc place) (text_of text)) (after_text text); mind = i }
  room-then phase text place e h t =
      ap (λ p. answered room ctrl (todo_in p ctrl count size) i word) e
      ∙ ap (λ x. answered room ctrl (print x (after_text text)) i word) (drop-next (text_of text) place (subst IsReady e h))
      ∙ if-true _ _ _ t

  -- there is none
  pub room-else : (phase : Phase) (text : Text) (place : ℕ) → phase ≡ AwaitingRoom text place → IsReady phase → (bit_and word is_full == 0) ≡ false
      → answered room ctrl (todo_in phase ctrl count size) i word ≡ record { todo = print (drop place (text_of text)) (after_text text); mind = i }
  room-else phase text place e h t =
      let next : drop place (text_of text) ≡ get_or (text_of text) place 0 ∷ drop (suc place) (text_of text) = drop-next (text_of text) place (subst IsReady e h) in
      ap (λ p. answered room ctrl (todo_in p ctrl count size) i word) e
      ∙ ap (λ x. answered room ctrl (print x (after_text text)) i word) next
      ∙ if-false _ _ _ t
      ∙ ap (λ x. record { todo = print x (after_text text); mind = i }) (sym next)

  -- a byte has gone out
  pub byte-answered : (phase : Phase) (text : Text) (place : ℕ) (todo : List Action) → phase ≡ Sending text place
      → todo ≡ print (drop (place + 1) (text_of text)) (after_text text)
      → answered room ctrl (todo_in phase ctrl count size) i word ≡ record { todo = todo; mind = i }
  byte-answered phase text place todo e h =
      ap (λ p. answered room ctrl (todo_in p ctrl count size) i word) e
      ∙ settled-open room ctrl (print (drop (suc place) (text_of text)) (after_text text)) i
      (open-print (drop (suc place) (text_of text)) (after_text text) (open-text text))
      ∙ ap (λ x. record { todo = x; mind = i }) (sym (h ∙ ap (λ n. print (drop n (text_of text)) (after_text text)) (add-one place)))

-- a text from a byte's place on begins with no decision
pub open-from : (text : Text) (place : ℕ) → place < length (text_of text) → IsOpen (print (drop place (text_of text)) (after_text text))
open-from text place h = subst (λ x. IsOpen (print x (after_text text))) (sym (drop-next (text_of text) place h)) tt

-- so does the taking of a byte
pub taking-settled : (purpose : Purpose) (room ctrl count size : ℕ) (i : Mind)
    → settled room ctrl (taking purpose count size) i ≡ record { todo = taking purpose count size; mind = i }
taking-settled Command room ctrl count size i = refl
taking-settled Header room ctrl count size i = refl
taking-settled Payload room ctrl count size i = refl

pub asks-taken : (purpose : Purpose) (count size : ℕ) (bytes : List ℕ) → load uart_data ≡ asks (taking purpose count size) bytes
asks-taken Command count size bytes = refl
asks-taken Header count size bytes = refl
asks-taken Payload count size bytes = refl
