-- The bytes of a flash as a list.
use Rattle.std.proofs.Common.{◌≡◌, ◌<◌, ◌≤◌, ◌+◌, ◌⊎◌, inl, inr, ℕ, zero, suc, List, [], ◌∷◌, ◌++◌, map, length, refl, ap, sym, ◌∙◌, arith}
use Rattle.std.specs.List.{range_with_len}
use Rattle.std.proofs.lemmas.List.FromFn.{get_or-map-range_with_len, length-map-range_with_len, map-range_with_len_more}
use Rattle.std.proofs.lemmas.Bool.{cases_lt}
use Rattle.std.proofs.lemmas.List.{get_or_past}
use Rattle.spi_flash.specs.Flash.{byte_of, cells_of, flash_size}

-- what stands below the end is what the bytes are made by
pub cells_at : (f : ℕ → ℕ) (i : ℕ) → i < flash_size → byte_of (cells_of f) i ≡ f i
unfolding cells_of
cells_at f i l = get_or-map-range_with_len f 0 flash_size i i 255 l (omega arith)

-- below some number of places, what is made by two functions that agree there is the same
same_below : (f g : ℕ → ℕ) (n : ℕ) → ((i : ℕ) → i < n → f i ≡ g i) → map f (range_with_len 0 n) ≡ map g (range_with_len 0 n)
same_below f g zero e = refl
same_below f g (suc n) e =
    let one : suc n ≡ n + 1 = omega arith in
    let before : map f (range_with_len 0 n) ≡ map g (range_with_len 0 n) = same_below f g n (λ i l. e i (omega (arith, l))) in
    let last : f n ≡ g n = e n (omega arith) in
    let both : map f (range_with_len 0 n) ++ f n ∷ [] ≡ map g (range_with_len 0 n) ++ g n ∷ [] = rw (before, last) refl in
    ap (λ k. map f (range_with_len 0 k)) one ∙ map-range_with_len_more f 0 n n (omega arith) ∙ both ∙ sym (map-range_with_len_more g 0 n n (omega arith)) ∙ ap (λ k. map g (range_with_len 0 k)) (sym one)

-- bytes that agree at each address are the same
pub cells_same : (f g : ℕ → ℕ) → ((i : ℕ) → i < flash_size → f i ≡ g i) → cells_of f ≡ cells_of g
unfolding cells_of
cells_same f g e = same_below f g flash_size e

-- what is kept below some number of places is all that isn't ff
kept_by : (n : ℕ) (kept : List ℕ) → length kept ≤ n → (i : ℕ) → (i < n) ⊎ (n ≤ i) → byte_of (map (byte_of kept) (range_with_len 0 n)) i ≡ byte_of kept i
kept_by n kept l i (inl below) = get_or-map-range_with_len (byte_of kept) 0 n i i 255 below (omega arith)
kept_by n kept l i (inr past) =
    let here : length (map (byte_of kept) (range_with_len 0 n)) ≤ i = rw (length-map-range_with_len (byte_of kept) 0 n) past in
    get_or_past (map (byte_of kept) (range_with_len 0 n)) i 255 here ∙ sym (get_or_past kept i 255 (omega (arith, l, past)))

-- what is kept is all that isn't ff
pub kept_at : (kept : List ℕ) → length kept ≤ flash_size → (i : ℕ) → byte_of (cells_of (byte_of kept)) i ≡ byte_of kept i
unfolding cells_of
kept_at kept l i = kept_by flash_size kept l i (cases_lt i flash_size)

-- each byte of a flash that was never programmed
pub unused_at : (i : ℕ) → byte_of (cells_of (λ j. 255)) i ≡ 255
unused_at i = kept_at [] (omega arith) i
