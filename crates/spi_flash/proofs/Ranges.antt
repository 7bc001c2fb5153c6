-- Bytes that change one after another from a place on, and pages and blocks.
use Rattle.std.proofs.Common.{◌≡◌, ◌<◌, ◌≤◌, ◌+◌, ◌-◌, ◌*◌, ◌/◌, ◌%◌, ◌==◌, ◌⊎◌, inl, inr, ℕ, min, Bool, true, false, List, length, bit_and, refl, ap, sym, ◌∙◌, arith, if◌then◌else◌}
use Rattle.std.proofs.lemmas.Bool.{cases_lt}
use Rattle.std.proofs.lemmas.List.{get_or_past}
use Rattle.std.proofs.lemmas.Bool.Decides.{nat_tests}
use Rattle.spi_flash.specs.Flash.{byte_of, cells_of, erased, flash_size, programmed}
use Rattle.spi_flash.specs.Ranges.{cleared_in, filled_in, is_in}
use Rattle.spi_flash.proofs.Cells.{cells_same, kept_at}

-- a page's addresses are 256 from its beginning on
in_page : (address i : ℕ) → is_in (address / 256 * 256) 256 i ≡ (i / 256 == address / 256)
in_page address i = grind (arith, nat_tests)

place_in_page : (address i : ℕ) → (i / 256 == address / 256) ≡ true → i - address / 256 * 256 ≡ i % 256
place_in_page address i e = grind (arith, nat_tests)

in_small_block : (address i : ℕ) → is_in (address / 4096 * 4096) 4096 i ≡ (i / 4096 == address / 4096)
in_small_block address i = grind (arith, nat_tests)

in_large_block : (address i : ℕ) → is_in (address / 65536 * 65536) 65536 i ≡ (i / 65536 == address / 65536)
in_large_block address i = grind (arith, nat_tests)

-- the bytes of a page, one after another
cleared_page : (address : ℕ) (page old : ℕ → ℕ) (i : ℕ) (b : Bool) → (i / 256 == address / 256) ≡ b
    → (if b then bit_and (old i) (page (i - address / 256 * 256)) else old i) ≡ (if b then bit_and (old i) (page (i % 256)) else old i)
cleared_page address page old i true e = ap (λ place. bit_and (old i) (page place)) (place_in_page address i e)
cleared_page address page old i false e = refl

-- what programming leaves is what the operation does
pub programs : (address : ℕ) (page first more last : List ℕ) → length first ≤ flash_size
    → ((i : ℕ) → byte_of more i ≡ byte_of first i)
    → ((i : ℕ) → byte_of last i ≡ cleared_in (address / 256 * 256) 256 (byte_of page) (byte_of more) i)
    → cells_of (byte_of last) ≡ cells_of (programmed address page (byte_of (cells_of (byte_of first))))
programs address page first more last l kept cleared =
    cells_same (byte_of last) (programmed address page (byte_of (cells_of (byte_of first)))) each
  where
    each : (i : ℕ) → i < flash_size → byte_of last i ≡ programmed address page (byte_of (cells_of (byte_of first))) i
    each i b =
        let same : byte_of more i ≡ byte_of (cells_of (byte_of first)) i = kept i ∙ sym (kept_at first l i) in
        let test : is_in (address / 256 * 256) 256 i ≡ (i / 256 == address / 256) = in_page address i in
        let here : cleared_in (address / 256 * 256) 256 (byte_of page) (byte_of more) i
        ≡ (if i / 256 == address / 256 then bit_and (byte_of more i) (byte_of page (i - address / 256 * 256)) else byte_of more i)
        = ap (λ t. if t then bit_and (byte_of more i) (byte_of page (i - address / 256 * 256)) else byte_of more i) test in
        let there : (if i / 256 == address / 256 then bit_and (byte_of more i) (byte_of page (i % 256)) else byte_of more i)
        ≡ (if i / 256 == address / 256 then bit_and (byte_of (cells_of (byte_of first)) i) (byte_of page (i % 256)) else byte_of (cells_of (byte_of first)) i)
        = ap (λ x. if i / 256 == address / 256 then bit_and x (byte_of page (i % 256)) else x) same in
        cleared i ∙ here ∙ cleared_page address (byte_of page) (byte_of more) i (i / 256 == address / 256) refl ∙ there

either_way : (b : Bool) (x y : ℕ) → x ≡ y → (if b then x else y) ≡ y
either_way true x y e = e
either_way false x y e = refl

-- where a byte that isn't kept is ff anyway, it doesn't matter whether it is filled
filled_by : (kept : List ℕ) (start count i : ℕ) (inside : Bool) → (i < length kept → is_in start count i ≡ inside) → (i < length kept) ⊎ (length kept ≤ i)
    → filled_in start count (byte_of kept) i ≡ (if inside then 255 else byte_of kept i)
filled_by kept start count i inside test (inl below) = ap (λ t. if t then 255 else byte_of kept i) (test below)
filled_by kept start count i inside test (inr past) =
    let old : byte_of kept i ≡ 255 = get_or_past kept i 255 past in
    either_way (is_in start count i) 255 (byte_of kept i) (sym old) ∙ sym (either_way inside 255 (byte_of kept i) (sym old))

-- the block's addresses among those that are kept
block_in : (size address len start end i : ℕ) → (size ≡ 4096) ⊎ (size ≡ 65536) → start ≡ min len (address / size * size) → end ≡ min len (start + size) → i < len
    → is_in start (end - start) i ≡ (i / size == address / size)
block_in size address len start end i (inl e) s t l = grind (arith, nat_tests, e, s, t)
block_in size address len start end i (inr e) s t l = grind (arith, nat_tests, e, s, t)

-- what filling leaves is what the operation does
pub erases : (size address : ℕ) (first last : List ℕ) (start end : ℕ) → length first ≤ flash_size → (size ≡ 4096) ⊎ (size ≡ 65536)
    → start ≡ min (length first) (address / size * size) → end ≡ min (length first) (start + size)
    → ((i : ℕ) → byte_of last i ≡ filled_in start (end - start) (byte_of first) i)
    → cells_of (byte_of last) ≡ cells_of (erased size address (byte_of (cells_of (byte_of first))))
erases size address first last start end l z s t filled =
    cells_same (byte_of last) (erased size address (byte_of (cells_of (byte_of first)))) each
  where
    each : (i : ℕ) → i < flash_size → byte_of last i ≡ erased size address (byte_of (cells_of (byte_of first))) i
    each i b =
        filled i ∙ filled_by first start (end - start) i (i / size == address / size) (λ below. block_in size address (length first) start end i z s t below) (cases_lt i (length first))
        ∙ ap (λ x. if i / size == address / size then 255 else x) (sym (kept_at first l i))
