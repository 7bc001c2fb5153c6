-- What comes of the command that stores an image to the flash.
use Rattle.std.proofs.Common.{◌≡◌, ℕ, zero, suc, ◌+◌, ◌*◌, ◌/◌, ◌%◌, ◌^◌, ◌<◌, ◌≤◌, ◌==◌, Bool, true, false, List, ◌∷◌, codes, if◌then◌else◌, refl, sym, arith, subst}
use Rattle.std.proofs.lemmas.Bool.Decides.{nat_tests}
use Rattle.spi_flash.specs.declared.transfer.Transfer.TheVariants.{Idle as Unselected, Command}
use Rattle.flash_seen.specs.World.{World, Idle, Ready, free_after}
use Rattle.boot_monitor.specs.Actions.{Action, ActionState, Mind, Writable, answer, blocks, burning, erases, header_address, header_by, page_words, payload_address, programs, prompting, storing}
use Rattle.boot_gate.specs.Gate.{Shown}
use Rattle.boot_gate.proofs.Maps.{all_programmed, burn, erased_at, erased_from, paged, words_in, words_length}
use Rattle.boot_gate.proofs.Passing.{Around, Ending, Asked, Passes, PassesFrom, enables, passes-status, passes-status_none, passes-wait, seen_as, stays_free, with_status, world_as, world_at, writes}
use Rattle.boot_gate.proofs.Taking.{passes-answer, saying}
use Rattle.boot_gate.proofs.Transfers.{at_rest, passes-erase, passes-program_bytes, passes-program_words, passes-write_enable, passes-write_enable_none, without}

-- for the pages of a payload
pub page_is : page_words ≡ 64
unfolding page_words
page_is = refl

module _ (room ctrl : ℕ) (shown : Shown) (Told : Type 0) (Q : Ending → Mind → World → Around → Type 0) where
  abbrev P : List Action → Mind → World → Around → Type 0
  P = Passes room ctrl shown Told Q

  abbrev rests : List ℕ → Bool → World
  rests cells writable = at_rest room ctrl shown Told Q cells writable Unselected 1

  -- the blocks are erased
  passes-erases : (n a : ℕ) (rest : List Action) (i : Mind) (cells : List ℕ) (writable : Bool) (m : Around) → a + 4096 * n ≤ 2 ^ 23
      → ((status : ℕ) (writable : Bool) → P rest (with_status i status) (rests (erased_from cells a n) writable) m)
      → P (erases a n rest) i (rests cells writable) m
  passes-erases zero a rest i cells writable m l h = h i.status writable
  passes-erases (suc n) a rest i cells writable m l h =
      passes-erase room ctrl shown Told Q a (erases (a + 4096) n rest) i cells writable 1 m (omega arith) (omega (arith, l)) (λ s.
      passes-erases n (a + 4096) rest (with_status i s) (erased_at cells a) false m (omega (arith, l)) h)

  -- the payload is programmed, page by page
  passes-programs : (full left a from : ℕ) (rest : List Action) (i : Mind) (cells : List ℕ) (writable : Bool) (m : Around) → page_words ≡ 64 → a + 256 * full + 256 ≤ 2 ^ 23
      → from % 4 ≡ 0 → from + 256 * full + 4 * left ≤ room
      → ((status : ℕ) (writable : Bool) → P rest (with_status i status) (rests (paged m.memory page_words cells a from full left) writable) m)
      → P (programs a from full left rest) i (rests cells writable) m
  passes-programs zero zero a from rest i cells writable m p l four f h = h i.status writable
  passes-programs zero (suc left) a from rest i cells writable m p l four f h =
      passes-program_words room ctrl shown Told Q a from (suc left) rest i cells writable 1 m (omega arith) (omega (arith, l)) four (omega (arith, f)) (omega (arith, words_length m.memory from (suc left))) (λ s. h s false)
  passes-programs (suc full) left a from rest i cells writable m p l four f h =
      passes-program_words room ctrl shown Told Q a from page_words (programs (a + 256) (from + 256) full left rest) i cells writable 1 m (omega arith) (omega (arith, l)) four (omega (arith, f, p))
      (omega (arith, words_length m.memory from page_words, p)) (λ s.
      passes-programs full left (a + 256) (from + 256) rest (with_status i s) (burn a (words_in m.memory from page_words) cells) false m p (omega (arith, l)) (omega (arith, four)) (omega (arith, f)) h)

  -- blocks, payload and header
  passes-burning : (size check : ℕ) (i : Mind) (cells : List ℕ) (writable : Bool) (m : Around) → size ≤ 2 ^ 20 → size ≤ room → size % 4 ≡ 0
      → ((status : ℕ) → Q Asked (with_status i status) (rests (all_programmed m.memory page_words cells size check) false) (saying room ctrl shown Told Q m (prompting (codes "OK"))))
      → P (burning size check) i (rests cells writable) m
  passes-burning size check i cells writable m small fits four h =
      passes-erases (blocks size) header_address _ i cells writable m (omega (arith, small)) (λ s w.
      passes-programs (size / 256) (size % 256 / 4) payload_address 0 _ (with_status i s) (erased_from cells header_address (blocks size)) w m page_is (omega (arith, small)) refl (omega (arith, fits, four)) (λ s w.
      passes-program_bytes room ctrl shown Told Q header_address (header_by size check) _ (with_status i s)
      (paged m.memory page_words (erased_from cells header_address (blocks size)) payload_address 0 (size / 256) (size % 256 / 4)) w 1 m (omega arith) (omega arith) (omega arith) (λ s.
      passes-answer room ctrl shown Told Q (codes "OK") (with_status i s) (rests (all_programmed m.memory page_words cells size check) false) m (h s))))

  -- an image is stored
  pub passes-storing : (size check : ℕ) (i : Mind) (cells : List ℕ) (writable free : Bool) (k : ℕ) (used : Bool) (m : Around) → k < 2 → size ≤ 2 ^ 20 → size ≤ room → size % 4 ≡ 0
      → ((status : ℕ) → Q Asked (with_status i status) (rests (all_programmed m.memory page_words cells size check) false) (saying room ctrl shown Told Q m (prompting (codes "OK"))))
      → P (storing size check) i (world_as (seen_as true cells writable Unselected) free (Idle k) used) m
  passes-storing size check i cells writable free k used m l small fits four h =
      enables (
      passes-wait room ctrl shown Told Q true _ i cells writable free k used m l (λ e. let bad : ⊥ = cc in elim bad [ ]) (λ s.
      passes-write_enable room ctrl shown Told Q _ (with_status i s) cells writable 1 m (omega arith) (
      passes-status room ctrl shown Told Q (Writable ∷ burning size check) (with_status i s) cells true true 1 true m (omega arith) (λ reply told.
      let two : reply ≡ 2 = told.done refl refl (told.idle refl refl) in
      let one : reply / 2 % 2 ≡ 1 = omega (arith, two) in
      let test : (reply / 2 % 2 == 0) ≡ false = grind (arith, nat_tests) in
      writes (
      subst (λ b. PassesFrom room ctrl shown Told Q (if◌then◌else◌ {A = ActionState} b (record { todo = answer (codes "ERR flash"); mind = with_status i reply }) (record { todo = burning size check; mind = with_status i reply }))
      (world_at (seen_as true cells true Unselected) (free_after (Ready (Command 5 0 0)) reply true) (Idle 1)) m) (sym test) (
      subst (λ free. P (burning size check) (with_status i reply) (world_at (seen_as true cells true Unselected) free (Idle 1)) m) (sym (stays_free (Ready (Command 5 0 0)) reply)) (
      passes-burning size check (with_status i reply) cells true m small fits four h)))))))

  -- where no flash is fitted, it can't be written
  pub passes-storing_none : (size check : ℕ) (i : Mind) (cells : List ℕ) (writable : Bool) (k : ℕ) (used : Bool) (m : Around) → k < 2
      → ((status : ℕ) → Q Asked (with_status i status) (without room ctrl shown Told Q cells writable 1) (saying room ctrl shown Told Q m (prompting (codes "ERR flash"))))
      → P (storing size check) i (world_as (seen_as false cells writable Unselected) true (Idle k) used) m
  passes-storing_none size check i cells writable k used m l h =
      enables (
      passes-wait room ctrl shown Told Q false _ i cells writable true k used m l (λ e. refl) (λ s.
      passes-write_enable_none room ctrl shown Told Q _ (with_status i s) cells writable 1 m (omega arith) (
      passes-status_none room ctrl shown Told Q (Writable ∷ burning size check) (with_status i s) cells writable Unselected 1 true m (omega arith) (
      writes (passes-answer room ctrl shown Told Q (codes "ERR flash") (with_status i 0) (without room ctrl shown Told Q cells writable 1) m (h 0))))))
