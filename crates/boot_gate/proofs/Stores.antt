-- Memory after words of a payload were stored one after another.
use Rattle.std.proofs.Common.{◌≡◌, ◌^◌, ℕ, zero, suc, ◌+◌, ◌-◌, ◌/◌, ◌%◌, ◌<◌, ◌≤◌, Bool, true, false, List, [], ◌∷◌, ◌++◌, length, take, drop, get_or, nat_le, ◌==◌, if◌then◌else◌, Option, Some, None, Ok, refl, ap, ap₂, ◌∙◌, arith, append_assoc, append-nil, length-append, take-append-drop, take_all, subst}
use Rattle.std.proofs.lemmas.Bool.Decides.{nat_tests}
use Rattle.std.specs.Int.{from_le_bytes, w32}
use Rattle.std.specs.List.{slice_range}
use Rattle.std.proofs.lemmas.List.{drop-drop, take-append-le}
use Rattle.std.proofs.Math.Seq.{drop-append-add}
use Rattle.image_tool.specs.Image.{AreBytes, word_at, word_of}
use Rattle.image_tool.proofs.WordLemmas.{drop_word}
use Rattle.soc_bus.specs.Memory.{MemoryState, load_of, low_bytes, store_of, with_bytes}
use Rattle.soc_bus.specs.declared.access.Width.TheVariants.{Word}
use Rattle.soc_bus.proofs.Bytes.{length_with_bytes}
use Rattle.boot_monitor.specs.Actions.{last_word}
use Rattle.boot_monitor.specs.declared.exchange.MonitorOut.{MonitorOut}
use Rattle.boot_monitor.specs.declared.exchange.MonitorOut.TheVariants.{Bus, HandOver}
use Rattle.boot_gate.specs.Laws.{BeginsWith}
use Rattle.boot_gate.specs.Replies.{stored_by, word_stored}

-- the word of the last four bytes

get_past : (bs xs : List ℕ) (j : ℕ) → get_or (bs ++ xs) (length bs + j) 0 ≡ get_or xs j 0
get_past [] xs j = ap (λ n. get_or xs n 0) (omega arith)
get_past (b ∷ bs) xs j = let e : suc (length bs) + j ≡ suc (length bs + j) = omega arith in ap (λ n. get_or (b ∷ (bs ++ xs)) n 0) e ∙ get_past bs xs j

last_four : (bs : List ℕ) (a b c d : ℕ) → last_word (bs ++ a ∷ b ∷ c ∷ d ∷ []) ≡ word_of a b c d
last_four bs a b c d =
    let long : length (bs ++ a ∷ b ∷ c ∷ d ∷ []) ≡ length bs + 4 = length-append bs (a ∷ b ∷ c ∷ d ∷ []) in
    let at : (j : ℕ) → length (bs ++ a ∷ b ∷ c ∷ d ∷ []) - 4 + j ≡ length bs + j = λ j. omega (arith, long) in
    let e0 : get_or (bs ++ a ∷ b ∷ c ∷ d ∷ []) (length (bs ++ a ∷ b ∷ c ∷ d ∷ []) - 4) 0 ≡ a
    = ap (λ n. get_or (bs ++ a ∷ b ∷ c ∷ d ∷ []) n 0) (omega (arith, long)) ∙ get_past bs (a ∷ b ∷ c ∷ d ∷ []) 0 in
    let e1 : get_or (bs ++ a ∷ b ∷ c ∷ d ∷ []) (length (bs ++ a ∷ b ∷ c ∷ d ∷ []) - 4 + 1) 0 ≡ b
    = ap (λ n. get_or (bs ++ a ∷ b ∷ c ∷ d ∷ []) n 0) (at 1) ∙ get_past bs (a ∷ b ∷ c ∷ d ∷ []) 1 in
    let e2 : get_or (bs ++ a ∷ b ∷ c ∷ d ∷ []) (length (bs ++ a ∷ b ∷ c ∷ d ∷ []) - 4 + 2) 0 ≡ c
    = ap (λ n. get_or (bs ++ a ∷ b ∷ c ∷ d ∷ []) n 0) (at 2) ∙ get_past bs (a ∷ b ∷ c ∷ d ∷ []) 2 in
    let e3 : get_or (bs ++ a ∷ b ∷ c ∷ d ∷ []) (length (bs ++ a ∷ b ∷ c ∷ d ∷ []) - 4 + 3) 0 ≡ d
    = ap (λ n. get_or (bs ++ a ∷ b ∷ c ∷ d ∷ []) n 0) (at 3) ∙ get_past bs (a ∷ b ∷ c ∷ d ∷ []) 3 in
    omega (arith, e0, e1, e2, e3)

low_four : (a b c d word : ℕ) → a < 256 → b < 256 → c < 256 → d < 256 → word ≡ word_of a b c d → low_bytes Word word ≡ a ∷ b ∷ c ∷ d ∷ []
low_four a b c d word ha hb hc hd e =
    let e0 : word % 256 ≡ a = omega (arith, e, ha, hb, hc, hd) in
    let e1 : word / 256 % 256 ≡ b = omega (arith, e, ha, hb, hc, hd) in
    let e2 : word / 65536 % 256 ≡ c = omega (arith, e, ha, hb, hc, hd) in
    let e3 : word / 16777216 % 256 ≡ d = omega (arith, e, ha, hb, hc, hd) in
    rw (e0, e1, e2, e3) refl

-- the bytes that are stored are the last four that were taken
pub low_last : (bs four : List ℕ) → length four ≡ 4 → AreBytes four → low_bytes Word (last_word (bs ++ four)) ≡ four
low_last bs (a ∷ b ∷ c ∷ d ∷ []) e small = low_four a b c d (last_word (bs ++ a ∷ b ∷ c ∷ d ∷ [])) small.0 small.1.0 small.1.1.0 small.1.1.1.0 (last_four bs a b c d)
low_last bs four e small = absurd (omega (arith, e))

-- stores one behind another

-- no bytes leave memory as it was
pub with_none : (memory : List ℕ) (to : ℕ) → with_bytes memory to [] ≡ memory
with_none memory to =
    ap₂ (λ (a b : List ℕ). a ++ b) (append-nil (take to memory)) (ap (λ n. drop n memory) (omega arith)) ∙ take-append-drop to memory

take_length : (to : ℕ) (xs : List ℕ) → to ≤ length xs → length (take to xs) ≡ to
take_length zero xs h = refl
take_length (suc n) [] h = absurd (omega (arith, h))
take_length (suc n) (x ∷ xs) h = ap suc (take_length n xs (omega (arith, h)))

take_front : (xs ys : List ℕ) (n : ℕ) → length xs ≡ n → take n (xs ++ ys) ≡ xs
take_front xs ys n e = subst (λ n. take n (xs ++ ys) ≡ xs) e (take-append-le (length xs) xs ys (omega arith) ∙ take_all (length xs) xs (omega arith))

-- a word and then more are one store of both
pub with_more : (memory four payload : List ℕ) (to : ℕ) → length four ≡ 4 → to + 4 ≤ length memory
    → with_bytes (with_bytes memory to four) (to + 4) payload ≡ with_bytes memory to (four ++ payload)
with_more memory four payload to e h =
    let front : List ℕ = take to memory ++ four in
    let behind : List ℕ = drop (to + length four) memory in
    let long : length front ≡ to + 4 = omega (arith, length-append (take to memory) four, take_length to memory (omega (arith, h)), e) in
    let first : take (to + 4) (front ++ behind) ≡ front = take_front front behind (to + 4) long in
    let past : to + 4 + length payload ≡ length front + length payload = omega (arith, long) in
    let last : drop (to + 4 + length payload) (front ++ behind) ≡ drop (to + length four + length payload) memory =
    ap (λ n. drop n (front ++ behind)) past ∙ drop-append-add front behind (length payload) ∙ drop-drop (length payload) (to + length four) memory in
    let end : to + length four + length payload ≡ to + length (four ++ payload) = omega (arith, length-append four payload) in
    ap₂ (λ (a b : List ℕ). (a ++ payload) ++ b) first (last ∙ ap (λ n. drop n memory) end) ∙ ap (λ t. t ++ drop (to + length (four ++ payload)) memory) (append_assoc (take to memory) four payload)

-- what is stored from 0 on begins memory
pub begins_with : (memory payload : List ℕ) → BeginsWith (with_bytes memory 0 payload) payload
begins_with memory payload = take_front payload (drop (0 + length payload) memory) (length payload) refl

low_length : (value : ℕ) → length (low_bytes Word value) ≡ 4
low_length value = refl

-- a store below the end of memory, as IMEM's words are
pub stored_inside : (memory : List ℕ) (address value : ℕ) → address + 4 ≤ length memory → word_stored memory address (Some value) ≡ with_bytes memory address (low_bytes Word value)
stored_inside memory address value h = let t : nat_le (address + 4) (length memory) ≡ true = grind (arith, nat_tests) in rw t refl

-- a store above it, as to a register
pub stored_outside : (memory : List ℕ) (address value : ℕ) → length memory ≤ 2 ^ 20 → 2 ^ 20 < address → word_stored memory address (Some value) ≡ memory
stored_outside memory address value l h = let t : nat_le (address + 4) (length memory) ≡ false = grind (arith, nat_tests) in rw t refl

-- the bus stores a word of IMEM likewise
pub stored_by_bus : (m : MemoryState) (address value : ℕ) → address % 4 ≡ 0 → address + 4 ≤ length m.imem → length m.imem ≤ 2 ^ 20
    → store_of m address Word value ≡ Ok (record m { imem = word_stored m.imem address (Some value) })
stored_by_bus m address value four h l =
    let aligned : (address % 4 == 0) ≡ true = grind (arith, nat_tests) in
    let below : nat_le (2 ^ 31) address ≡ false = grind (arith, nat_tests) in
    let within : nat_le (address + 4) (length m.imem) ≡ true = grind (arith, nat_tests) in
    rw (aligned, below, within) refl

-- a word's four bytes, by the memory's map
load_bytes : (bytes : List ℕ) (at : ℕ) → at + 4 ≤ length bytes → from_le_bytes w32 (slice_range bytes at (at + 4)) ≡ word_at bytes at
load_bytes bytes at h =
    let four : at + 4 - at ≡ 4 = omega arith in
    let here : slice_range bytes at (at + 4) ≡ get_or bytes at 0 ∷ get_or bytes (at + 1) 0 ∷ get_or bytes (at + 2) 0 ∷ get_or bytes (at + 3) 0 ∷ [] =
    ap (λ n. take n (drop at bytes)) four ∙ ap (take 4) (drop_word bytes at h) in
    ap (from_le_bytes w32) here ∙ omega arith

-- and it loads the word that stands there
pub loaded_by_bus : (m : MemoryState) (address : ℕ) → address % 4 ≡ 0 → address + 4 ≤ length m.imem → length m.imem ≤ 2 ^ 20 → load_of m address Word ≡ Ok (word_at m.imem address)
loaded_by_bus m address four h l =
    let aligned : (address % 4 == 0) ≡ true = grind (arith, nat_tests) in
    let below : nat_le (2 ^ 31) address ≡ false = grind (arith, nat_tests) in
    let within : nat_le (address + 4) (length m.imem) ≡ true = grind (arith, nat_tests) in
    rw (aligned, below, within) (ap Ok (load_bytes m.imem address h))

-- a request leaves memory as long as it was

stored_length_by : (memory : List ℕ) (address value : ℕ) (t : Bool) → nat_le (address + 4) (length memory) ≡ t
    → length (if t then with_bytes memory address (low_bytes Word value) else memory) ≡ length memory
stored_length_by memory address value true e = length_with_bytes memory address (low_bytes Word value) (grind (arith, nat_tests))
stored_length_by memory address value false e = refl

stored_at_length : (memory : List ℕ) (address : ℕ) (value : Option ℕ) → length (word_stored memory address value) ≡ length memory
stored_at_length memory address None = refl
stored_at_length memory address (Some value) = stored_length_by memory address value (nat_le (address + 4) (length memory)) refl

-- for each of the monitor's requests
pub stored_length : (memory : List ℕ) (request : MonitorOut) → length (stored_by memory request) ≡ length memory
stored_length memory (Bus request) = stored_at_length memory request.addr request.store
stored_length memory HandOver = refl
