-- Header and payload are an image exactly where their words sum to zero.
use Rattle.std.proofs.Common.{◌≡◌, ◌↔◌, ℕ, Bool, true, false, List, ◌++◌, length, bytes_eq, if◌then◌else◌, Some, None, refl, sym, ap, ◌∙◌, arith}
use Rattle.std.proofs.lemmas.Bool.Decides.{nat_tests}
use Rattle.std.proofs.lemmas.Slice.Eq.{bytes_eq-Decides}
use Rattle.image_tool.specs.Image.{AreBytes, check_of, checksum, image_of, signature, signature_of, size_of, sums_to_zero}
use Rattle.image_tool.proofs.ImageLemmas.{sums_to_zero-header}
use Rattle.image_tool.proofs.WordLemmas.{word_at-append_left, word_of-bytes}
use Rattle.boot_gate.specs.Gate.{payload_of}
use Rattle.boot_gate.specs.Items.{is_signed}

-- what a header and its payload hold, and what their words are, by whether they sum to zero
pub record Judged (header payload : List ℕ) (is_zero : Bool) : Type 0 where
  pub held : payload_of header payload ≡ (if is_zero then Some payload else None)
  pub size : size_of (header ++ payload) ≡ size_of header
  pub check : is_zero ≡ true → check_of (header ++ payload) ≡ checksum payload

-- a header with the signature, and the payload that it asks for
pub judged : (header payload : List ℕ) → length header ≡ 12 → AreBytes header → is_signed header ≡ true → length payload ≡ size_of header
    → Judged header payload (sums_to_zero (header ++ payload))
judged header payload twelve small s size = by (sums_to_zero (header ++ payload)) refl
  where
    signed : signature_of header ≡ signature
    signed = grind (arith, nat_tests)

    same_size : size_of (header ++ payload) ≡ size_of header
    same_size = word_at-append_left header payload 4 (omega (arith, twelve))

    exactly : sums_to_zero (header ++ payload) ≡ true ↔ (header ++ payload ≡ image_of payload)
    exactly = sums_to_zero-header header payload twelve small signed (sym size)

    by : (is_zero : Bool) → sums_to_zero (header ++ payload) ≡ is_zero → Judged header payload is_zero
    by true e =
        let image : header ++ payload ≡ image_of payload = exactly.0 e in
        let same : bytes_eq (header ++ payload) (image_of payload) ≡ true = (bytes_eq-Decides _ _).1 image in
        record { held = rw same refl; size = same_size; check = λ t. ap check_of image ∙ word_of-bytes (checksum payload) (omega arith) }
    by false e = other (bytes_eq (header ++ payload) (image_of payload)) refl
      where
        other : (same : Bool) → bytes_eq (header ++ payload) (image_of payload) ≡ same → Judged header payload false
        other false differs = record { held = rw differs refl; size = same_size; check = λ t. let bad : ⊥ = cc in elim bad [ ] }
        other true same =
            let zero : sums_to_zero (header ++ payload) ≡ true = exactly.1 ((bytes_eq-Decides _ _).0 same) in
            let bad : ⊥ = cc in elim bad [ ]
