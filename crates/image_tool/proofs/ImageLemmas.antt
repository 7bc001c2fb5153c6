-- Images: their headers, their faults and their payloads.
use Rattle.std.proofs.Common.{get_or, Option, Some, ◌≡◌, ◌==◌, ℕ, ◌+◌, ◌^◌, ◌<◌, ◌≤◌, ◌↔◌, Bool, true, false, not, List, [], ◌∷◌, ◌++◌, length, take, drop, refl, sym, ap, ◌∙◌, arith, nat_lt, if◌then◌else◌, None}
use Rattle.std.proofs.lemmas.List.{drop_at, get_or_append_left, length-append, length-drop, take_all}
use Rattle.std.proofs.lemmas.Bool.Decides.{Decides-eqb, nat_tests}
use Rattle.image_tool.specs.declared.faults.ImageFault.{ImageFault}
use Rattle.image_tool.specs.FirstFault.{image_fault, sum_of}
use Rattle.image_tool.specs.Image.{AreBytes, IsImage, bytes_of, check_of, checksum, image_of, is_allowed, signature, signature_of, size_of, sums_to_zero, words, wrapping_sum}
use Rattle.image_tool.proofs.WordLemmas.{byte_below, bytes_of-word_of, drop_word, word_at-append_left, word_of-bytes, words-drop, wrapping_sum-fits}

-- bytes are those of the words of a header and what is behind it
pub header_split : (bytes : List ℕ) → 12 ≤ length bytes → ((i : ℕ) → i < 12 → get_or bytes i 0 < 256)
    → bytes ≡ bytes_of (signature_of bytes) ++ (bytes_of (size_of bytes) ++ (bytes_of (check_of bytes) ++ drop 12 bytes))
header_split bytes long below =
    let at = λ (i : ℕ). get_or bytes i 0 in
    let first : bytes ≡ bytes_of (signature_of bytes) ++ drop 4 bytes = drop_word bytes 0 (omega arith)
    ∙ ap (λ p. p ++ drop 4 bytes) (sym (bytes_of-word_of (at 0) (at 1) (at 2) (at 3)
    (below 0 (omega arith)) (below 1 (omega arith)) (below 2 (omega arith)) (below 3 (omega arith)))) in
    let second : drop 4 bytes ≡ bytes_of (size_of bytes) ++ drop 8 bytes = drop_word bytes 4 (omega arith)
    ∙ ap (λ p. p ++ drop 8 bytes) (sym (bytes_of-word_of (at 4) (at 5) (at 6) (at 7)
    (below 4 (omega arith)) (below 5 (omega arith)) (below 6 (omega arith)) (below 7 (omega arith)))) in
    let third : drop 8 bytes ≡ bytes_of (check_of bytes) ++ drop 12 bytes = drop_word bytes 8 (omega arith)
    ∙ ap (λ p. p ++ drop 12 bytes) (sym (bytes_of-word_of (at 8) (at 9) (at 10) (at 11)
    (below 8 (omega arith)) (below 9 (omega arith)) (below 10 (omega arith)) (below 11 (omega arith)))) in
    first ∙ ap (λ r. bytes_of (signature_of bytes) ++ r) (second ∙ ap (λ r. bytes_of (size_of bytes) ++ r) third)

-- the checksum word is the one that makes the sum zero
pub checksum_from_sum : (c : ℕ) (payload : List ℕ) → c < 2 ^ 32 → wrapping_sum (c ∷ words payload) ≡ 0 → c ≡ checksum payload
checksum_from_sum c payload fits zero_sum = let bound = wrapping_sum-fits (words payload) in omega arith

sum_of_checksum : (payload : List ℕ) → wrapping_sum (checksum payload ∷ words payload) ≡ 0
sum_of_checksum payload = let bound = wrapping_sum-fits (words payload) in omega arith

-- an image is put together from the bytes of its words and the payload
pub image_from_parts : (payload first second third : List ℕ) → first ≡ bytes_of signature → second ≡ bytes_of (length payload) → third ≡ bytes_of (checksum payload)
    → [] ++ first ++ second ++ third ++ payload ≡ image_of payload
image_from_parts payload first second third is_first is_second is_third = rw (is_first, is_second, is_third) refl

-- a header with the signature, the length and the checksum of what is behind it makes an image of it
pub image_from_header : (bytes : List ℕ) → 12 ≤ length bytes → ((i : ℕ) → i < 12 → get_or bytes i 0 < 256)
    → signature_of bytes ≡ signature → size_of bytes ≡ length (drop 12 bytes) → wrapping_sum (check_of bytes ∷ words (drop 12 bytes)) ≡ 0
    → bytes ≡ image_of (drop 12 bytes)
image_from_header bytes long below is_signature is_size zero_sum =
    let fits : check_of bytes < 2 ^ 32 =
    omega (arith, below 8 (omega arith), below 9 (omega arith), below 10 (omega arith), below 11 (omega arith)) in
    let is_check : check_of bytes ≡ checksum (drop 12 bytes) = checksum_from_sum (check_of bytes) (drop 12 bytes) fits zero_sum in
    header_split bytes long below
    ∙ (ap (λ w. bytes_of w ++ (bytes_of (size_of bytes) ++ (bytes_of (check_of bytes) ++ drop 12 bytes))) is_signature
    ∙ (ap (λ w. bytes_of signature ++ (bytes_of w ++ (bytes_of (check_of bytes) ++ drop 12 bytes))) is_size
    ∙ ap (λ w. bytes_of signature ++ (bytes_of (length (drop 12 bytes)) ++ (bytes_of w ++ drop 12 bytes))) is_check))

-- where there is no fault, a test failed nowhere
not_failed : (test : Bool) (fault : ImageFault) (rest : Option ImageFault) → (if test then Some fault else rest) ≡ None → (test ≡ false) × (rest ≡ None)
not_failed true fault rest none = let bad : ⊥ = cc in absurd bad
not_failed false fault rest none = (refl, none)

-- bytes without a fault are an image
pub image_from_none : (room : ℕ) (bytes : List ℕ) → ((i : ℕ) → i < 12 → get_or bytes i 0 < 256) → image_fault room bytes ≡ None → IsImage room bytes (drop 12 bytes)
image_from_none room bytes below none =
    let first = not_failed (nat_lt (length bytes) 12) _ _ none in
    let second = not_failed (not (signature_of bytes == signature)) _ _ first.1 in
    let third = not_failed (not (is_allowed room (size_of bytes))) _ _ second.1 in
    let fourth = not_failed (nat_lt (length bytes) (12 + size_of bytes)) _ _ third.1 in
    let fifth = not_failed (not (sum_of bytes == 0)) _ _ fourth.1 in
    let sixth = not_failed (nat_lt (12 + size_of bytes) (length bytes)) _ _ fifth.1 in
    let is_signature : signature_of bytes ≡ signature = grind (arith, nat_tests, second.0) in
    let allowed : is_allowed room (size_of bytes) ≡ true = grind (arith, third.0) in
    let zero_sum : sum_of bytes ≡ 0 = grind (arith, nat_tests, fifth.0) in
    let is_length : length bytes ≡ 12 + size_of bytes = grind (arith, nat_tests, fourth.0, sixth.0) in
    let is_size : size_of bytes ≡ length (drop 12 bytes) = omega (arith, length-drop 12 bytes) in
    let whole : take (size_of bytes) (drop 12 bytes) ≡ drop 12 bytes = take_all (size_of bytes) (drop 12 bytes) (omega arith) in
    let total : wrapping_sum (check_of bytes ∷ words (drop 12 bytes)) ≡ 0 =
    ap (λ p. wrapping_sum (check_of bytes ∷ words p)) (sym whole) ∙ zero_sum in
    (ap (is_allowed room) (sym is_size) ∙ allowed, image_from_header bytes (omega arith) below is_signature is_size total)

-- the length word of an image
pub size_of-image_of : (payload : List ℕ) → length payload < 2 ^ 32 → size_of (image_of payload) ≡ length payload
size_of-image_of payload fits = word_of-bytes (length payload) fits

-- a test that passes leaves the answer to the rest
passed : {A : Type 0} (test : Bool) (fault rest : A) → test ≡ false → (if test then fault else rest) ≡ rest
passed true fault rest is = let bad : ⊥ = cc in absurd bad
passed false fault rest is = refl

equal_numbers : (a b : ℕ) → a ≡ b → (a == b) ≡ true
equal_numbers a b same = (Decides-eqb a b).1 same

-- bytes that pass the six tests have no fault
pub image_fault_from_tests : (room : ℕ) (bytes : List ℕ) → signature_of bytes ≡ signature → is_allowed room (size_of bytes) ≡ true
    → length bytes ≡ 12 + size_of bytes → sum_of bytes ≡ 0 → image_fault room bytes ≡ None
image_fault_from_tests room bytes is_signature allowed is_length zero_sum =
    let long : nat_lt (length bytes) 12 ≡ false = grind (arith, nat_tests) in
    let whole : nat_lt (length bytes) (12 + size_of bytes) ≡ false = grind (arith, nat_tests) in
    let ends : nat_lt (12 + size_of bytes) (length bytes) ≡ false = grind (arith, nat_tests) in
    passed _ _ _ long ∙ (passed _ _ _ (ap not (equal_numbers (signature_of bytes) signature is_signature)) ∙ (passed _ _ _ (ap not allowed)
    ∙ (passed _ _ _ whole ∙ (passed _ _ _ (ap not (equal_numbers (sum_of bytes) 0 zero_sum)) ∙ passed _ _ _ ends))))

-- an image passes the six tests
pub image_fault-image_of : (room : ℕ) (payload : List ℕ) → room < 2 ^ 32 → is_allowed room (length payload) ≡ true → image_fault room (image_of payload) ≡ None
image_fault-image_of room payload fits allowed =
    let within : length payload ≤ room = grind (arith, nat_tests) in
    let is_size : size_of (image_of payload) ≡ length payload = word_of-bytes (length payload) (omega arith) in
    let is_check : check_of (image_of payload) ≡ checksum payload = word_of-bytes (checksum payload) (omega arith) in
    let zero_sum : sum_of (image_of payload) ≡ 0 =
    ap (λ c. wrapping_sum (c ∷ words (take (size_of (image_of payload)) payload))) is_check
    ∙ (ap (λ n. wrapping_sum (checksum payload ∷ words (take n payload))) is_size
    ∙ (ap (λ p. wrapping_sum (checksum payload ∷ words p)) (take_all (length payload) payload (omega arith)) ∙ sum_of_checksum payload)) in
    image_fault_from_tests room (image_of payload) refl (ap (is_allowed room) is_size ∙ allowed) (omega arith) zero_sum

-- a header and a payload sum to zero exactly where they are the payload's image
pub sums_to_zero-header : (header payload : List ℕ) → length header ≡ 12 → AreBytes header → signature_of header ≡ signature → size_of header ≡ length payload
    → sums_to_zero (header ++ payload) ≡ true ↔ (header ++ payload ≡ image_of payload)
sums_to_zero-header header payload is_long bytes is_signature is_size =
    let all : List ℕ = header ++ payload in
    let long : 12 ≤ length all = omega (arith, length-append header payload) in
    let rest : drop 12 all ≡ payload = drop_at header payload 12 is_long in
    let total : words (drop 8 all) ≡ check_of all ∷ words payload = words-drop all 8 long ∙ ap (λ p. check_of all ∷ words p) rest in
    let below : (i : ℕ) → i < 12 → get_or all i 0 < 256 =
    λ i within. rw (get_or_append_left header payload 0 i (omega arith)) (byte_below header i bytes) in
    let has_signature : signature_of all ≡ signature = word_at-append_left header payload 0 (omega arith) ∙ is_signature in
    let has_size : size_of all ≡ length payload = word_at-append_left header payload 4 (omega arith) ∙ is_size in (
      λ is_zero.
          let zero_sum : wrapping_sum (words (drop 8 all)) ≡ 0 = (Decides-eqb (wrapping_sum (words (drop 8 all))) 0).0 is_zero in
          image_from_header all long below has_signature (has_size ∙ ap length (sym rest))
          (ap (λ p. wrapping_sum (check_of all ∷ words p)) rest ∙ (ap wrapping_sum (sym total) ∙ zero_sum))
          ∙ ap image_of rest,
      λ same.
          let is_check : check_of all ≡ checksum payload = ap check_of same ∙ word_of-bytes (checksum payload) (omega arith) in
          equal_numbers (wrapping_sum (words (drop 8 all))) 0
          (ap wrapping_sum total ∙ (ap (λ c. wrapping_sum (c ∷ words payload)) is_check ∙ sum_of_checksum payload)),
    )
