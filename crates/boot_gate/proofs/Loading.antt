-- What comes of the command that loads an image from the flash.
use Rattle.std.proofs.Common.{◌≡◌, ℕ, ◌+◌, ◌*◌, ◌/◌, ◌%◌, ◌^◌, ◌<◌, ◌≤◌, ◌==◌, Bool, true, false, not, ◌&&◌, List, [], ◌∷◌, ◌++◌, length, codes, nat_le, nat_lt, if◌then◌else◌, Option, Some, None, refl, sym, ap, ◌∙◌, arith, subst}
use Rattle.std.proofs.lemmas.Bool.Decides.{nat_tests}
use Rattle.image_tool.specs.Image.{AreBytes, check_of, is_allowed, size_of, sums_to_zero}
use Rattle.soc_bus.specs.Memory.{with_bytes}
use Rattle.spi_flash.specs.declared.transfer.Transfer.TheVariants.{Idle as Unselected, Read}
use Rattle.spi_flash.specs.Flash.{flash_size}
use Rattle.flash_seen.specs.World.{World, Idle}
use Rattle.boot_monitor.specs.Actions.{Action, Flash, Head, Mind, ActionState, Tail, answer, address_sent, collects, collects_words, deselect, header_address, loading, longer, mind, payload_address, payload_from, prompting}
use Rattle.boot_gate.specs.Gate.{Shown, bytes_from, image_text, load_text, loaded, payload_of}
use Rattle.boot_gate.specs.Items.{is_signed}
use Rattle.boot_gate.specs.Laws.{BeginsWith}
use Rattle.boot_gate.proofs.Ends.{IsKeeping}
use Rattle.boot_gate.proofs.Images.{Judged, judged}
use Rattle.boot_gate.proofs.Passing.{Around, Ending, Asked, Passes, PassesFrom, around, enables, heads, passes-wait, seen_as, selects, tails, with_status, world_as}
use Rattle.boot_gate.proofs.Stores.{begins_with}
use Rattle.boot_gate.proofs.Taking.{passes-answer}
use Rattle.boot_gate.proofs.Transfers.{at_rest, bytes_from-bytes, bytes_from-length, passes-address, passes-address_none, passes-collects, passes-collects_none, passes-collects_words, without}

-- an allowed size
pub record Allowed (room size : ℕ) : Type 0 where
  pub four : size % 4 ≡ 0
  pub fits : size ≤ room

allowed_by : (room size : ℕ) (a b c : Bool) → (size % 4 == 0) ≡ b → nat_le size room ≡ c → a && b && c ≡ true → Allowed room size
allowed_by room size true true true f g h = record { four = grind (arith, nat_tests); fits = grind (arith, nat_tests) }
allowed_by room size true true false f g h = let bad : ⊥ = cc in elim bad [ ]
allowed_by room size true false c f g h = let bad : ⊥ = cc in elim bad [ ]
allowed_by room size false b c f g h = let bad : ⊥ = cc in elim bad [ ]

-- for the words of a payload
pub allowed : (room size : ℕ) → is_allowed room size ≡ true → Allowed room size
allowed room size h = allowed_by room size (nat_lt 0 size) (size % 4 == 0) (nat_le size room) refl refl h

-- the tests on a header
pub not_true : (b : Bool) → not b ≡ true → b ≡ false
not_true true e = let bad : ⊥ = cc in elim bad [ ]
not_true false e = refl

pub not_false : (b : Bool) → not b ≡ false → b ≡ true
not_false true e = refl
not_false false e = let bad : ⊥ = cc in elim bad [ ]

module _ (room ctrl : ℕ) (shown : Shown) (Told : Type 0) (Q : Ending → Mind → World → Around → Type 0) where
  abbrev P : List Action → Mind → World → Around → Type 0
  P = Passes room ctrl shown Told Q

  abbrev rests : List ℕ → Bool → World
  rests cells writable = at_rest room ctrl shown Told Q cells writable Unselected 1

  -- where a load leads: to a payload that is held or to none, and to an answer
  abbrev pub Leads : Option (List ℕ) → List ℕ → World → Around → Type 0
  Leads held text w m = (i : Mind) (memory : List ℕ) → IsKeeping room held i memory → Q Asked i w (around memory (m.sent ++ prompting text) m.heard)

  -- on a header and its payload
  tail_by : (zero_sum : Bool) (header payload : List ℕ) (w : World) (m : Around) → Judged header payload zero_sum → size_of header ≡ length payload → is_allowed room (length payload) ≡ true
      → AreBytes payload → BeginsWith m.memory payload → Leads (payload_of header payload) (image_text (payload_of header payload)) w m
      → PassesFrom room ctrl shown Told Q (if◌then◌else◌ {A = ActionState} zero_sum
      (record { todo = answer (codes "OK"); mind = mind [] (Some (size_of (header ++ payload), check_of (header ++ payload))) })
      (record { todo = answer (codes "ERR checksum"); mind = mind [] None })) w m
  tail_by true header payload w m j size may small begins h =
      let kept : Mind = mind [] (Some (size_of (header ++ payload), check_of (header ++ payload))) in
      passes-answer room ctrl shown Told Q (codes "OK") kept w m (
      subst (λ p. Q Asked kept w (around m.memory (m.sent ++ prompting (image_text p)) m.heard)) j.held (
      h kept m.memory (subst (λ p. IsKeeping room p kept m.memory) (sym j.held) (record { bytes = refl; kept = (j.size ∙ size, j.check refl, begins); good = (may, small) }))))
  tail_by false header payload w m j size may small begins h =
      passes-answer room ctrl shown Told Q (codes "ERR checksum") (mind [] None) w m (
      subst (λ p. Q Asked (mind [] None) w (around m.memory (m.sent ++ prompting (image_text p)) m.heard)) j.held (
      h (mind [] None) m.memory (subst (λ p. IsKeeping room p (mind [] None) m.memory) (sym j.held) (record { bytes = refl; kept = tt; good = tt }))))

  -- on a header
  head_by : (plain unfit : Bool) (header : List ℕ) (i : Mind) (cells : List ℕ) (writable : Bool) (m : Around) → room ≤ 2 ^ 20 → length m.memory ≡ room → i.bytes ≡ header
      → length header ≡ 12 → AreBytes header → not (is_signed header) ≡ plain → not (is_allowed room (size_of header)) ≡ unfit
      → Leads (if plain then None else if unfit then None else payload_of header (bytes_from cells payload_address (size_of header)))
      (if plain then codes "ERR signature" else if unfit then codes "ERR size" else image_text (payload_of header (bytes_from cells payload_address (size_of header)))) (rests cells writable) m
      → PassesFrom room ctrl shown Told Q (if◌then◌else◌ {A = ActionState} plain (record { todo = answer (codes "ERR signature"); mind = mind [] None })
      (if◌then◌else◌ {A = ActionState} unfit (record { todo = answer (codes "ERR size"); mind = mind [] None })
      (record { todo = payload_from Flash (size_of header); mind = i }))) (rests cells writable) m
  head_by true unfit header i cells writable m small long is twelve bytes s a h =
      passes-answer room ctrl shown Told Q (codes "ERR signature") (mind [] None) (rests cells writable) m (h (mind [] None) m.memory (record { bytes = refl; kept = tt; good = tt }))
  head_by false true header i cells writable m small long is twelve bytes s a h =
      passes-answer room ctrl shown Told Q (codes "ERR size") (mind [] None) (rests cells writable) m (h (mind [] None) m.memory (record { bytes = refl; kept = tt; good = tt }))
  head_by false false header i cells writable m small long is twelve bytes s a h =
      let size : ℕ = size_of header in
      let payload : List ℕ = bytes_from cells payload_address size in
      let may : is_allowed room size ≡ true = not_false (is_allowed room size) a in
      let fine : Allowed room size = allowed room size may in
      let whole : 4 * (size / 4) ≡ size = omega (arith, fine.four) in
      let same : length payload ≡ size = bytes_from-length cells payload_address size in
      let last : 0 < 2 = omega arith in
      let memory : List ℕ = with_bytes m.memory 0 payload in
      passes-address room ctrl shown Told Q 0x03 payload_address (collects_words 0 (size / 4) (deselect ∷ Tail ∷ [])) i cells writable 1 m (omega arith) (omega arith) (
      passes-collects_words room ctrl shown Told Q (size / 4) 0 (deselect ∷ Tail ∷ []) i cells writable payload_address m refl (omega (arith, fine.fits, whole)) long (omega (arith, fine.fits, small, whole)) (
      subst (λ n. P (deselect ∷ Tail ∷ []) (longer i (bytes_from cells payload_address n)) (at_rest room ctrl shown Told Q cells writable (Read ((payload_address + n) % flash_size)) 0)
      (around (with_bytes m.memory 0 (bytes_from cells payload_address n)) m.sent m.heard)) (sym whole) (
      selects last (tails (
      subst (λ front. PassesFrom room ctrl shown Told Q (if◌then◌else◌ {A = ActionState} (sums_to_zero (front ++ payload))
      (record { todo = answer (codes "OK"); mind = mind [] (Some (size_of (front ++ payload), check_of (front ++ payload))) })
      (record { todo = answer (codes "ERR checksum"); mind = mind [] None })) (rests cells writable) (around memory m.sent m.heard)) (sym is) (
      tail_by (sums_to_zero (header ++ payload)) header payload (rests cells writable) (around memory m.sent m.heard)
      (judged header payload twelve bytes (not_false (is_signed header) s) same) (sym same) (ap (is_allowed room) same ∙ may) (bytes_from-bytes cells payload_address size)
      (begins_with m.memory payload) h))))))

  -- an image is loaded
  pub passes-loading : (cells : List ℕ) (writable free : Bool) (k : ℕ) (used : Bool) (m : Around) → k < 2 → room ≤ 2 ^ 20 → length m.memory ≡ room
      → Leads (loaded room (Some cells)) (load_text room (Some cells)) (rests cells writable) m
      → P loading (mind [] None) (world_as (seen_as true cells writable Unselected) free (Idle k) used) m
  passes-loading cells writable free k used m l small long h =
      let last : 0 < 2 = omega arith in
      let header : List ℕ = bytes_from cells header_address 12 in
      enables (
      passes-wait room ctrl shown Told Q true (address_sent 0x03 header_address (collects 12 (deselect ∷ Head Flash ∷ []))) (mind [] None) cells writable free k used m l (λ e. let bad : ⊥ = cc in elim bad [ ]) (λ s.
      passes-address room ctrl shown Told Q 0x03 header_address (collects 12 (deselect ∷ Head Flash ∷ [])) (with_status (mind [] None) s) cells writable 1 m (omega arith) (omega arith) (
      passes-collects room ctrl shown Told Q 12 (deselect ∷ Head Flash ∷ []) (with_status (mind [] None) s) cells writable header_address m (omega arith) (
      selects last (heads (
      head_by (not (is_signed header)) (not (is_allowed room (size_of header))) header (longer (with_status (mind [] None) s) header) cells writable m small long refl refl
      (bytes_from-bytes cells header_address 12) refl refl h))))))

  -- where no flash is fitted, there is no signature
  pub passes-loading_none : (cells : List ℕ) (writable : Bool) (k : ℕ) (used : Bool) (m : Around) → k < 2 → Leads None (codes "ERR signature") (without room ctrl shown Told Q cells writable 1) m
      → P loading (mind [] None) (world_as (seen_as false cells writable Unselected) true (Idle k) used) m
  passes-loading_none cells writable k used m l h =
      let last : 0 < 2 = omega arith in
      enables (
      passes-wait room ctrl shown Told Q false (address_sent 0x03 header_address (collects 12 (deselect ∷ Head Flash ∷ []))) (mind [] None) cells writable true k used m l (λ e. refl) (λ s.
      passes-address_none room ctrl shown Told Q 0x03 header_address (collects 12 (deselect ∷ Head Flash ∷ [])) (with_status (mind [] None) s) cells writable 1 m (omega arith) (
      passes-collects_none room ctrl shown Told Q 12 (deselect ∷ Head Flash ∷ []) (with_status (mind [] None) s) cells writable m (
      selects last (heads (passes-answer room ctrl shown Told Q (codes "ERR signature") (mind [] None) (without room ctrl shown Told Q cells writable 1) m
      (h (mind [] None) m.memory (record { bytes = refl; kept = tt; good = tt }))))))))
