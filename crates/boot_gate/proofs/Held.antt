-- What stands in the flash: it is loaded exactly where it is an image, and a stored image is loaded again.
use Rattle.std.proofs.Common.{◌≡◌, ℕ, suc, ◌+◌, ◌-◌, ◌%◌, ◌^◌, ◌<◌, ◌≤◌, Bool, true, false, not, List, [], ◌∷◌, ◌++◌, length, get_or, bytes_eq, if◌then◌else◌, Option, Some, None, refl, sym, ap, ap₂, ◌∙◌, arith}
use Rattle.std.proofs.lemmas.Slice.Eq.{bytes_eq-Decides}
use Rattle.image_tool.specs.Image.{AreBytes, checksum, header_of, image_of, is_allowed, size_of}
use Rattle.image_tool.proofs.WordLemmas.{word_of-bytes}
use Rattle.soc_bus.specs.Memory.{IsSize}
use Rattle.spi_flash.specs.Flash.{byte_of, cells_of}
use Rattle.spi_flash.proofs.Cells.{cells_at}
use Rattle.boot_monitor.specs.Actions.{header_address, payload_address}
use Rattle.boot_gate.specs.Gate.{bytes_from, loaded, payload_behind, payload_of, with_image}
use Rattle.boot_gate.specs.Items.{is_signed}
use Rattle.boot_gate.specs.Laws.{HasBlocks, HoldsImage, HoldsImages}
use Rattle.boot_gate.proofs.Loading.{allowed}
use Rattle.boot_gate.proofs.Maps.{header_bytes, within_high, within_true}
use Rattle.boot_gate.proofs.Transfers.{bytes_from-length}
use Rattle.boot_gate.proofs.Unique.{front-same}

inside : {p q : List ℕ} → Some p ≡ Some q → p ≡ q
inside e = cc

no_image : {p : List ℕ} → None ≡ Some p → ⊥
no_image e = let bad : ⊥ = cc in bad

-- header and payload are an image
is_image : (payload : List ℕ) → payload_of (header_of payload) payload ≡ Some payload
is_image payload = let t : bytes_eq (header_of payload ++ payload) (image_of payload) ≡ true = (bytes_eq-Decides (header_of payload ++ payload) (image_of payload)).1 refl in rw t refl

chosen : (signed fits : Bool) (found : Option (List ℕ)) → signed ≡ true → fits ≡ true → (if not signed then None else if not fits then None else found) ≡ found
chosen true true found s f = refl
chosen true false found s f = let bad : ⊥ = cc in elim bad [ ]
chosen false fits found s f = let bad : ⊥ = cc in elim bad [ ]

behind_header : (room : ℕ) (cells payload : List ℕ) → is_allowed room (length payload) ≡ true → length payload < 2 ^ 32 → bytes_from cells payload_address (length payload) ≡ payload
    → payload_behind room cells (header_of payload) ≡ Some payload
behind_header room cells payload may small there =
    let size : size_of (header_of payload) ≡ length payload = word_of-bytes (length payload) small in
    chosen (is_signed (header_of payload)) (is_allowed room (size_of (header_of payload))) (payload_of (header_of payload) (bytes_from cells payload_address (size_of (header_of payload)))) refl (ap (is_allowed room) size ∙ may)
    ∙ ap (λ n. payload_of (header_of payload) (bytes_from cells payload_address n)) size ∙ ap (payload_of (header_of payload)) there ∙ is_image payload

holds_by : (room : ℕ) (cells payload : List ℕ) → room ≤ 2 ^ 20 → HoldsImage room cells payload → loaded room (Some cells) ≡ Some payload
holds_by room cells payload small h =
    let fits : length payload ≤ room = (allowed room (length payload) h.allowed).fits in
    ap (payload_behind room cells) h.header ∙ behind_header room cells payload h.allowed (omega (arith, fits, small)) h.behind

-- what is found behind a header
found_by : (room : ℕ) (cells header payload : List ℕ) (same : Bool) → length header ≡ 12 → is_allowed room (size_of header) ≡ true
    → bytes_eq (header ++ bytes_from cells payload_address (size_of header)) (image_of (bytes_from cells payload_address (size_of header))) ≡ same
    → (if same then Some (bytes_from cells payload_address (size_of header)) else None) ≡ Some payload
    → (is_allowed room (length payload) ≡ true) × (header ≡ header_of payload) × (bytes_from cells payload_address (length payload) ≡ payload)
found_by room cells header payload false twelve may e f = elim (no_image f) [ ]
found_by room cells header payload true twelve may e f =
    let found : List ℕ = bytes_from cells payload_address (size_of header) in
    let is : found ≡ payload = inside f in
    let long : length payload ≡ size_of header = ap length (sym is) ∙ bytes_from-length cells payload_address (size_of header) in
    let image : header ++ found ≡ header_of found ++ found = (bytes_eq-Decides (header ++ found) (image_of found)).0 e in
    let front : header ≡ header_of found = (front-same header (header_of found) found found twelve image).0 in
    (ap (is_allowed room) long ∙ may, front ∙ ap header_of is, ap (bytes_from cells payload_address) long ∙ is)

found_at : (room : ℕ) (cells header payload : List ℕ) (signed fits : Bool) → length header ≡ 12 → is_allowed room (size_of header) ≡ fits
    → (if not signed then None else if not fits then None else payload_of header (bytes_from cells payload_address (size_of header))) ≡ Some payload
    → (is_allowed room (length payload) ≡ true) × (header ≡ header_of payload) × (bytes_from cells payload_address (length payload) ≡ payload)
found_at room cells header payload false fits twelve may f = elim (no_image f) [ ]
found_at room cells header payload true false twelve may f = elim (no_image f) [ ]
found_at room cells header payload true true twelve may f = found_by room cells header payload _ twelve may refl f

by_holds : (room : ℕ) (cells payload : List ℕ) → loaded room (Some cells) ≡ Some payload → HoldsImage room cells payload
by_holds room cells payload e =
    let header : List ℕ = bytes_from cells header_address 12 in
    let found = found_at room cells header payload (is_signed header) (is_allowed room (size_of header)) refl refl e in
    record { allowed = found.0; header = found.1; behind = found.2 }

-- bytes that stand in the flash one after another
bytes_from-is : (cells : List ℕ) (at : ℕ) (bytes : List ℕ) → AreBytes bytes → ((j : ℕ) → j < length bytes → byte_of cells (at + j) ≡ get_or bytes j 0) → bytes_from cells at (length bytes) ≡ bytes
bytes_from-is cells at [] small e = refl
bytes_from-is cells at (b ∷ bytes) small e =
    let here : at ≡ at + 0 = omega arith in
    let first : byte_of cells at ≡ b = ap (byte_of cells) here ∙ e 0 (omega arith) in
    let low : byte_of cells at % 256 ≡ b = omega (arith, first, small.0) in
    let next : (j : ℕ) → at + 1 + j ≡ at + suc j = λ j. omega arith in
    ap₂ (λ (b : ℕ) (bytes : List ℕ). b ∷ bytes) low
    (bytes_from-is cells (at + 1) bytes small.1 (λ j l. ap (byte_of cells) (next j) ∙ e (suc j) (omega (arith, l))))

past : (a j : ℕ) → a + j - a ≡ j
past a j = omega arith

-- a stored image stands in it
stored_holds : (room : ℕ) (cells payload : List ℕ) → room ≤ 2 ^ 20 → is_allowed room (length payload) ≡ true → AreBytes payload → HoldsImage room (cells_of (with_image payload (byte_of cells))) payload
stored_holds room cells payload small may bytes =
    let fits : length payload ≤ room = (allowed room (length payload) may).fits in
    let after : ℕ → ℕ = with_image payload (byte_of cells) in
    let at_header : (j : ℕ) → j < 12 → byte_of (cells_of after) (header_address + j) ≡ get_or (header_of payload) j 0 = λ j l.
    cells_at after (header_address + j) (omega (arith, l)) ∙ (rw (within_true header_address 12 (header_address + j) (omega arith) (omega (arith, l))) (ap (λ n. get_or (header_of payload) n 0) (past header_address j))) in
    let at_payload : (j : ℕ) → j < length payload → byte_of (cells_of after) (payload_address + j) ≡ get_or payload j 0 = λ j l.
    cells_at after (payload_address + j) (omega (arith, l, fits, small))
    ∙ (rw (within_high header_address 12 (payload_address + j) (omega arith), within_true payload_address (length payload) (payload_address + j) (omega arith) (omega (arith, l))) (ap (λ n. get_or payload n 0) (past payload_address j))) in
    record {
      allowed = may;
      header = bytes_from-is (cells_of after) header_address (header_of payload) (header_bytes (length payload) (checksum payload)) at_header;
      behind = bytes_from-is (cells_of after) payload_address payload bytes at_payload;
    }

-- the law
pub holds_images : (room : ℕ) (cells payload : List ℕ) → IsSize room → HoldsImages room cells payload
holds_images room cells payload size =
    let small : room ≤ 2 ^ 20 = omega (arith, size.to) in
    record {
      exactly = (by_holds room cells payload, holds_by room cells payload small);
      again = λ may bytes. holds_by room (cells_of (with_image payload (byte_of cells))) payload small (stored_holds room cells payload small may bytes);
    }

-- and the one on the blocks
pub has_blocks : (size : ℕ) → HasBlocks size
has_blocks size = record { enough = omega arith; least = omega arith }
