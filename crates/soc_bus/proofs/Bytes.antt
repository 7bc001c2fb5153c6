-- The bytes of a list of words.
use Rattle.std.proofs.Common.{◌≡◌, ℕ, zero, suc, ◌+◌, ◌-◌, ◌*◌, ◌%◌, ◌<◌, ◌≤◌, List, [], ◌∷◌, ◌++◌, length, take, drop, replicate, refl, ap, sym, ◌∙◌, arith, length-append, append_assoc, length-drop, length-take-le, get_or}
use Rattle.std.proofs.lemmas.List.{take-append-le, drop-append-le, drop-drop}
use Rattle.std.proofs.Math.Seq.{take-append-add, drop-append-add}
use Rattle.std.specs.List.{slice_range, slice_index, slice_set}
use Rattle.std.specs.Int.{w32, to_le_bytes, from_le_bytes}
use Rattle.std.proofs.lemmas.Nat.{le_bytes_4}
use Rattle.soc_bus.specs.Access.{width_bytes}
use Rattle.soc_bus.specs.declared.access.Width.{Width}
use Rattle.soc_bus.specs.declared.access.Width.TheVariants.{Byte, Half, Word}
use Rattle.soc_bus.specs.Memory.{with_bytes, low_bytes, zeros}
use Rattle.soc_bus.specs.Words.{bytes_of}

pub length_bytes_of : (ws : List ℕ) → length (bytes_of ws) ≡ 4 * length ws
unfolding bytes_of
length_bytes_of [] = refl
length_bytes_of (w ∷ ws) = let e = length_bytes_of ws in omega arith

slice_past : (b r : List ℕ) (i m n : ℕ) → length b ≡ 4 → i ≡ 4 + m → slice_range (b ++ r) i (i + n) ≡ slice_range r m (m + n)
slice_past b r i m n four e =
    let at : i ≡ length b + m = omega arith in
    let count : i + n - i ≡ m + n - m = omega arith in
    rw count (rw at (ap (take (m + n - m)) (drop-append-add b r m)))

slice_within : (b r : List ℕ) (j n : ℕ) → j + n ≤ length b → slice_range (b ++ r) j (j + n) ≡ slice_range b j (j + n)
slice_within b r j n h =
    let room : j + n - j ≤ length (drop j b) = omega (arith, length-drop j b) in
    rw (drop-append-le j b r (omega arith)) (take-append-le (j + n - j) (drop j b) r room)

pub slice_bytes_of : (ws : List ℕ) (k j at n : ℕ) → at ≡ 4 * k + j → k < length ws → j + n ≤ 4
    → slice_range (bytes_of ws) at (at + n) ≡ slice_range (to_le_bytes w32 (slice_index ws k)) j (j + n)
unfolding bytes_of
slice_bytes_of [] k j at n place within room = absurd (omega arith)
slice_bytes_of (w ∷ ws) zero j at n place within room =
    let e : at ≡ j = omega arith in
    rw e (slice_within (to_le_bytes w32 w) (bytes_of ws) j n room)
slice_bytes_of (w ∷ ws) (suc k) j at n place within room =
    slice_past (to_le_bytes w32 w) (bytes_of ws) at (4 * k + j) n refl (omega arith)
    ∙ slice_bytes_of ws k j (4 * k + j) n refl (omega arith) room

with_past : (b r new : List ℕ) (i m : ℕ) → length b ≡ 4 → i ≡ 4 + m → with_bytes (b ++ r) i new ≡ b ++ with_bytes r m new
with_past b r new i m four e =
    let at : i ≡ length b + m = omega arith in
    let end : i + length new ≡ length b + (m + length new) = omega arith in
    rw (end, at) (rw (take-append-add b r m, drop-append-add b r (m + length new)) (simp append_assoc))

with_within : (b r new : List ℕ) (j : ℕ) → j + length new ≤ length b → with_bytes (b ++ r) j new ≡ with_bytes b j new ++ r
with_within b r new j h =
    rw (take-append-le j b r (omega arith), drop-append-le (j + length new) b r h) (simp append_assoc)

pub set_bytes_of : (ws : List ℕ) (k j at w : ℕ) (new : List ℕ) → at ≡ 4 * k + j → k < length ws → j + length new ≤ 4
    → to_le_bytes w32 w ≡ with_bytes (to_le_bytes w32 (slice_index ws k)) j new
    → bytes_of (slice_set ws k w) ≡ with_bytes (bytes_of ws) at new
unfolding bytes_of
set_bytes_of [] k j at w new place within room h = absurd (omega arith)
set_bytes_of (x ∷ ws) zero j at w new place within room h =
    let e : at ≡ j = omega arith in
    rw e (ap (λ b. b ++ bytes_of ws) h ∙ sym (with_within (to_le_bytes w32 x) (bytes_of ws) new j room))
set_bytes_of (x ∷ ws) (suc k) j at w new place within room h =
    ap (λ r. to_le_bytes w32 x ++ r) (set_bytes_of ws k j (4 * k + j) w new refl (omega arith) room h)
    ∙ sym (with_past (to_le_bytes w32 x) (bytes_of ws) new at (4 * k + j) refl (omega arith))

pub zero_bytes_of : (n : ℕ) → bytes_of (replicate n 0) ≡ zeros (4 * n)
unfolding bytes_of zeros
zero_bytes_of zero = refl
zero_bytes_of (suc n) =
    let e : 4 * suc n ≡ suc (suc (suc (suc (4 * n)))) = omega arith in
    rw e (ap (λ r. 0 ∷ 0 ∷ 0 ∷ 0 ∷ r) (zero_bytes_of n))

pub length_zeros : (n : ℕ) → length (zeros n) ≡ n
unfolding zeros
length_zeros zero = refl
length_zeros (suc n) = ap suc (length_zeros n)

pub length_low_bytes : (width : Width) (word : ℕ) → length (low_bytes width word) ≡ width_bytes width
length_low_bytes Byte word = refl
length_low_bytes Half word = refl
length_low_bytes Word word = refl

below_append : (xs ys : List ℕ) → ((i : ℕ) → get_or xs i 0 < 256) → ((i : ℕ) → get_or ys i 0 < 256)
    → (i : ℕ) → get_or (xs ++ ys) i 0 < 256
below_append [] ys hx hy i = hy i
below_append (x ∷ xs) ys hx hy zero = hx 0
below_append (x ∷ xs) ys hx hy (suc i) = below_append xs ys (λ j. hx (suc j)) hy i

below_take : (n : ℕ) (xs : List ℕ) → ((i : ℕ) → get_or xs i 0 < 256) → (i : ℕ) → get_or (take n xs) i 0 < 256
below_take zero xs hx i = omega arith
below_take (suc n) [] hx i = omega arith
below_take (suc n) (x ∷ xs) hx zero = hx 0
below_take (suc n) (x ∷ xs) hx (suc i) = below_take n xs (λ j. hx (suc j)) i

below_drop : (n : ℕ) (xs : List ℕ) → ((i : ℕ) → get_or xs i 0 < 256) → (i : ℕ) → get_or (drop n xs) i 0 < 256
below_drop zero xs hx i = hx i
below_drop (suc n) [] hx i = omega arith
below_drop (suc n) (x ∷ xs) hx i = below_drop n xs (λ j. hx (suc j)) i

below_le_bytes : (w i : ℕ) → get_or (to_le_bytes w32 w) i 0 < 256
below_le_bytes w zero = omega arith
below_le_bytes w (suc zero) = omega arith
below_le_bytes w (suc (suc zero)) = omega arith
below_le_bytes w (suc (suc (suc zero))) = omega arith
below_le_bytes w (suc (suc (suc (suc i)))) = omega arith

pub length_with_bytes : (bytes : List ℕ) (at : ℕ) (new : List ℕ) → at + length new ≤ length bytes
    → length (with_bytes bytes at new) ≡ length bytes
length_with_bytes bytes at new room =
    simp (length-append, length-drop) (omega (arith, length-take-le at bytes (omega arith)))

-- a word whose bytes are another word's with some of them changed
pub changed_bytes : (word low w : ℕ) (new : List ℕ) → low + length new ≤ 4 → ((i : ℕ) → get_or new i 0 < 256)
    → w ≡ from_le_bytes w32 (take low (to_le_bytes w32 word) ++ (new ++ drop (length new) (drop low (to_le_bytes w32 word))))
    → to_le_bytes w32 w ≡ with_bytes (to_le_bytes w32 word) low new
changed_bytes word low w new room below is =
    let b : List ℕ = to_le_bytes w32 word in
    let all = below_le_bytes word in
    let same : take low b ++ (new ++ drop (length new) (drop low b)) ≡ with_bytes b low new =
    rw (drop-drop (length new) low b) (sym (append_assoc (take low b) new (drop (low + length new) b))) in
    le_bytes_4 (with_bytes b low new) w
    (length_with_bytes b low new room)
    (below_append _ _ (below_append _ _ (below_take low b all) below) (below_drop (low + length new) b all))
    (rw same at is)

-- an access lies in one word
pub in_word : (width : Width) (at : ℕ) → at % width_bytes width ≡ 0 → at % 4 + width_bytes width ≤ 4
in_word Byte at aligned = omega arith
in_word Half at aligned = omega arith
in_word Word at aligned = omega arith

pub has_bytes : (width : Width) → 0 < width_bytes width
has_bytes Byte = omega arith
has_bytes Half = omega arith
has_bytes Word = omega arith

-- one more of the bytes that a memory is filled with
pub fill_step : (bytes old : List ℕ) (i : ℕ) → i < length bytes → length bytes ≤ length old
    → with_bytes (take i bytes ++ drop i old) i (get_or bytes i 0 ∷ []) ≡ take (i + 1) bytes ++ drop (i + 1) old
fill_step [] old i within room = absurd (omega arith)
fill_step (b ∷ bs) [] i within room = absurd (omega arith)
fill_step (b ∷ bs) (o ∷ os) zero within room = refl
fill_step (b ∷ bs) (o ∷ os) (suc i) within room =
    let e : suc i + 1 ≡ suc (i + 1) = omega arith in
    rw e (ap (λ r. b ∷ r) (fill_step bs os i (omega arith) (omega arith)))
