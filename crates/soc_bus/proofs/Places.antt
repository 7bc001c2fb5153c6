-- Which bytes a store changes and a load reads.
use Rattle.std.proofs.Common.{◌≡◌, ℕ, zero, suc, ◌+◌, ◌-◌, ◌<◌, ◌≤◌, ◌⊎◌, inl, inr, List, [], ◌∷◌, ◌++◌, length, take, drop, refl, sym, arith, ◌^◌, ◌%◌}
use Rattle.std.specs.List.{slice_get, slice_range}
use Rattle.soc_bus.proofs.Bytes.{length_low_bytes}
use Rattle.soc_bus.specs.Access.{width_bytes}
use Rattle.soc_bus.specs.declared.access.Width.{Width}
use Rattle.soc_bus.specs.declared.access.Width.TheVariants.{Byte, Half, Word}
use Rattle.soc_bus.specs.Memory.{with_bytes, low_bytes}

get_before : (bytes new : List ℕ) (at i : ℕ) → at + length new ≤ length bytes → i < at
    → slice_get (with_bytes bytes at new) i ≡ slice_get bytes i
get_before [] new at i room h = absurd (omega arith)
get_before (b ∷ bs) new zero i room h = absurd (omega arith)
get_before (b ∷ bs) new (suc at) zero room h = refl
get_before (b ∷ bs) new (suc at) (suc i) room h =
    let e : suc at + length new ≡ suc (at + length new) = omega arith in
    rw e (get_before bs new at i (omega arith) (omega arith))

get_over : (bytes new : List ℕ) (i : ℕ) → length new ≤ length bytes → length new ≤ i
    → slice_get (new ++ drop (length new) bytes) i ≡ slice_get bytes i
get_over bytes [] i room h = refl
get_over [] (x ∷ new) i room h = absurd (omega arith)
get_over (b ∷ bs) (x ∷ new) zero room h = absurd (omega arith)
get_over (b ∷ bs) (x ∷ new) (suc i) room h = get_over bs new i (omega arith) (omega arith)

get_after : (bytes new : List ℕ) (at i : ℕ) → at + length new ≤ length bytes → at + length new ≤ i
    → slice_get (with_bytes bytes at new) i ≡ slice_get bytes i
get_after bytes new zero i room h =
    let e : 0 + length new ≡ length new = omega arith in
    rw e (get_over bytes new i (omega arith) (omega arith))
get_after [] new (suc at) i room h = absurd (omega arith)
get_after (b ∷ bs) new (suc at) zero room h = absurd (omega arith)
get_after (b ∷ bs) new (suc at) (suc i) room h =
    let e : suc at + length new ≡ suc (at + length new) = omega arith in
    rw e (get_after bs new at i (omega arith) (omega arith))

get_front : (new rest : List ℕ) (i : ℕ) → i < length new → slice_get (new ++ rest) i ≡ slice_get new i
get_front [] rest i h = absurd (omega arith)
get_front (x ∷ new) rest zero h = refl
get_front (x ∷ new) rest (suc i) h = get_front new rest i (omega arith)

get_new : (bytes new : List ℕ) (at i : ℕ) → at + length new ≤ length bytes → at ≤ i → i < at + length new
    → slice_get (with_bytes bytes at new) i ≡ slice_get new (i - at)
get_new bytes new zero i room from to =
    let e : i - 0 ≡ i = omega arith in
    rw e (get_front new (drop (0 + length new) bytes) i (omega arith))
get_new [] new (suc at) i room from to = absurd (omega arith)
get_new (b ∷ bs) new (suc at) zero room from to = absurd (omega arith)
get_new (b ∷ bs) new (suc at) (suc i) room from to =
    let e : suc at + length new ≡ suc (at + length new) = omega arith in
    let d : suc i - suc at ≡ i - at = omega arith in
    rw (e, d) (get_new bs new at i (omega arith) (omega arith) (omega arith))

-- a byte outside a store is as before
pub get_kept : (bytes : List ℕ) (at value i : ℕ) (width : Width) → at + width_bytes width ≤ length bytes
    → (i < at) ⊎ (at + width_bytes width ≤ i) → slice_get (with_bytes bytes at (low_bytes width value)) i ≡ slice_get bytes i
get_kept bytes at value i width room (inl h) =
    let n = length_low_bytes width value in
    get_before bytes (low_bytes width value) at i (omega arith) h
get_kept bytes at value i width room (inr h) =
    let n = length_low_bytes width value in
    get_after bytes (low_bytes width value) at i (omega arith) (omega arith)

-- a byte of a store is the value's
pub get_written : (bytes : List ℕ) (at value i : ℕ) (width : Width) → at + width_bytes width ≤ length bytes
    → at ≤ i → i < at + width_bytes width
    → slice_get (with_bytes bytes at (low_bytes width value)) i ≡ slice_get (low_bytes width value) (i - at)
get_written bytes at value i width room from to =
    let n = length_low_bytes width value in
    get_new bytes (low_bytes width value) at i (omega arith) from (omega arith)

get_take : (xs : List ℕ) (n i : ℕ) → i < n → slice_get (take n xs) i ≡ slice_get xs i
get_take xs zero i h = absurd (omega arith)
get_take [] (suc n) i h = refl
get_take (x ∷ xs) (suc n) zero h = refl
get_take (x ∷ xs) (suc n) (suc i) h = get_take xs n i (omega arith)

get_drop : (xs : List ℕ) (at i : ℕ) → slice_get (drop at xs) i ≡ slice_get xs (at + i)
get_drop xs zero i =
    let e : 0 + i ≡ i = omega arith in
    rw e refl
get_drop [] (suc at) i = refl
get_drop (x ∷ xs) (suc at) i =
    let e : suc at + i ≡ suc (at + i) = omega arith in
    rw e (get_drop xs at i)

-- a byte of a part is the byte at its place
pub get_read : (xs bytes : List ℕ) (at n i : ℕ) → bytes ≡ slice_range xs at (at + n) → i < n
    → slice_get xs (at + i) ≡ slice_get bytes i
get_read xs bytes at n i part h =
    let count : at + n - at ≡ n = omega arith in
    let whole : bytes ≡ take n (drop at xs) = rw count at part in
    rw (whole, get_take (drop at xs) n i h) (sym (get_drop xs at i))

-- an aligned access below DMEM ends below it
pub ends_below : (width : Width) (address : ℕ) → address % width_bytes width ≡ 0 → address < 2 ^ 31
    → address + width_bytes width ≤ 2 ^ 31
ends_below Byte address aligned below = omega arith
ends_below Half address aligned below = omega arith
ends_below Word address aligned below = omega arith
