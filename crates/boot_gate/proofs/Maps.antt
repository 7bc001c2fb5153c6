-- The flash's bytes after blocks were erased, and a payload and its header were programmed.
use Rattle.std.proofs.Common.{◌≡◌, ◌≢◌, ◌⊎◌, inl, inr, ℕ, zero, suc, ◌+◌, ◌-◌, ◌*◌, ◌/◌, ◌%◌, ◌^◌, ◌<◌, ◌≤◌, ◌==◌, Bool, true, false, ◌&&◌, not, List, [], ◌∷◌, ◌++◌, length, get_or, set, nat_lt, if◌then◌else◌, bit_and, refl, sym, ap, ap₂, ◌∙◌, arith, subst}
use Rattle.std.proofs.lemmas.Bool.{cases_lt}
use Rattle.std.proofs.lemmas.Bool.Decides.{nat_tests}
use Rattle.std.proofs.lemmas.List.{get_or-replicate, get_or-set_other, get_or-set_same, length-replicate, length-set}
use Rattle.std.proofs.lemmas.Nat.{and_comm, and_mask}
use Rattle.image_tool.specs.Image.{AreBytes, bytes_of, checksum, word_at, word_of}
use Rattle.image_tool.proofs.WordLemmas.{byte_below}
use Rattle.spi_flash.specs.Flash.{blank, byte_of, cells_of, erased, flash_size, programmed}
use Rattle.spi_flash.proofs.Cells.{cells_at, cells_same}
use Rattle.boot_monitor.specs.Actions.{blocks, header_address, header_by, payload_address}
use Rattle.boot_gate.specs.Gate.{is_within, with_image}

test_is : (a b : ℕ) → a ≡ b → (a == b) ≡ true
test_is a b e = grind (arith, nat_tests)

test_not : (a b : ℕ) → a ≢ b → (a == b) ≡ false
test_not a b e = grind (arith, nat_tests)

less : (a b : ℕ) → a < b → nat_lt a b ≡ true
less a b e = grind (arith, nat_tests)

not_less : (a b : ℕ) → b ≤ a → nat_lt a b ≡ false
not_less a b e = grind (arith, nat_tests)

abbrev Outside : ℕ → ℕ → ℕ → Type 0
Outside a size i = (i < a) ⊎ (a + size ≤ i)

-- erased blocks

-- the bytes once the block of 4 KiB at an address was erased, and once so many were from there on
abbrev pub erased_at : List ℕ → ℕ → List ℕ
erased_at cells a = cells_of (erased 4096 a (byte_of cells))

abbrev pub erased_from : List ℕ → ℕ → ℕ → List ℕ
erased_from cells a zero = cells
erased_from cells a (suc n) = erased_from (erased_at cells a) (a + 4096) n

erase_in : (cells : List ℕ) (a i : ℕ) → i < flash_size → a % 4096 ≡ 0 → a ≤ i → i < a + 4096 → byte_of (erased_at cells a) i ≡ 255
erase_in cells a i u z l h = cells_at (erased 4096 a (byte_of cells)) i u ∙ (rw (test_is (i / 4096) (a / 4096) (omega (arith, z, l, h))) refl)

erase_out : (cells : List ℕ) (a i : ℕ) → i < flash_size → a % 4096 ≡ 0 → Outside a 4096 i → byte_of (erased_at cells a) i ≡ byte_of cells i
erase_out cells a i u z (inl l) = let n : i / 4096 ≢ a / 4096 = λ e. omega (arith, z, l, e) in cells_at (erased 4096 a (byte_of cells)) i u ∙ (rw (test_not (i / 4096) (a / 4096) n) refl)
erase_out cells a i u z (inr l) = let n : i / 4096 ≢ a / 4096 = λ e. omega (arith, z, l, e) in cells_at (erased 4096 a (byte_of cells)) i u ∙ (rw (test_not (i / 4096) (a / 4096) n) refl)

erased_out : (cells : List ℕ) (a n i : ℕ) → i < flash_size → a % 4096 ≡ 0 → Outside a (4096 * n) i → byte_of (erased_from cells a n) i ≡ byte_of cells i
erased_out cells a zero i u z o = refl
erased_out cells a (suc n) i u z (inl l) =
    erased_out (erased_at cells a) (a + 4096) n i u (omega (arith, z)) (inl (omega (arith, l))) ∙ erase_out cells a i u z (inl l)
erased_out cells a (suc n) i u z (inr l) =
    erased_out (erased_at cells a) (a + 4096) n i u (omega (arith, z)) (inr (omega (arith, l))) ∙ erase_out cells a i u z (inr (omega (arith, l)))

erased_in : (cells : List ℕ) (a n i : ℕ) → i < flash_size → a % 4096 ≡ 0 → a ≤ i → i < a + 4096 * n → byte_of (erased_from cells a n) i ≡ 255
erased_in cells a zero i u z l h = absurd (omega (arith, l, h))
erased_in cells a (suc n) i u z l h = elim (cases_lt i (a + 4096)) as (λ _. byte_of (erased_from (erased_at cells a) (a + 4096) n) i ≡ 255) [
  | inl b ↦ erased_out (erased_at cells a) (a + 4096) n i u (omega (arith, z)) (inl b) ∙ erase_in cells a i u z l b
  | inr b ↦ erased_in (erased_at cells a) (a + 4096) n i u (omega (arith, z)) b (omega (arith, h))
]

-- a page

-- a page with these bytes in it from a place on, going on at its beginning
abbrev pub kept : List ℕ → ℕ → List ℕ → List ℕ
kept page at [] = page
kept page at (b ∷ bs) = kept (set page at b) ((at + 1) % 256) bs

-- the bytes once these were programmed at an address
abbrev pub burn : ℕ → List ℕ → List ℕ → List ℕ
burn a bs cells = cells_of (programmed a (kept blank (a % 256) bs) (byte_of cells))

kept_out : (page : List ℕ) (at : ℕ) (bs : List ℕ) (p : ℕ) → at + length bs ≤ 256 → Outside at (length bs) p → get_or (kept page at bs) p 255 ≡ get_or page p 255
kept_out page at [] p l o = refl
kept_out page at (b ∷ []) p l o =
    let n : p ≢ at = λ e. elim o as (λ _. ⊥) [ inl x ↦ omega (arith, x, e) | inr x ↦ omega (arith, x, e) ] in get_or-set_other page at p b 255 n
kept_out page at (b ∷ c ∷ bs) p l o =
    let n : p ≢ at = λ e. elim o as (λ _. ⊥) [ inl x ↦ omega (arith, x, e) | inr x ↦ omega (arith, x, e) ] in
    let next : (at + 1) % 256 ≡ at + 1 = omega (arith, l) in
    kept_out (set page at b) ((at + 1) % 256) (c ∷ bs) p (omega (arith, l, next))
    (elim o as (λ _. Outside ((at + 1) % 256) (length (c ∷ bs)) p) [ inl x ↦ inl (omega (arith, x, next)) | inr x ↦ inr (omega (arith, x, next)) ])
    ∙ get_or-set_other page at p b 255 n

set_here : (page : List ℕ) (at b p : ℕ) → length page ≡ 256 → at < 256 → p ≡ at → get_or (set page at b) p 255 ≡ b
set_here page at b p long l e = subst (λ p. get_or (set page at b) p 255 ≡ b) (sym e) (get_or-set_same page at b 255 (omega (arith, long, l)))

kept_in : (page : List ℕ) (at : ℕ) (bs : List ℕ) (j p : ℕ) → length page ≡ 256 → at + length bs ≤ 256 → j < length bs → p ≡ at + j
    → get_or (kept page at bs) p 255 ≡ get_or bs j 0
kept_in page at [] j p long l h e = absurd (omega (arith, h))
kept_in page at (b ∷ []) zero p long l h e = set_here page at b p long (omega (arith, l)) (omega (arith, e))
kept_in page at (b ∷ []) (suc j) p long l h e = absurd (omega (arith, h))
kept_in page at (b ∷ c ∷ bs) zero p long l h e =
    let next : (at + 1) % 256 ≡ at + 1 = omega (arith, l) in
    kept_out (set page at b) ((at + 1) % 256) (c ∷ bs) p (omega (arith, l, next)) (inl (omega (arith, e, next))) ∙ set_here page at b p long (omega (arith, l)) (omega (arith, e))
kept_in page at (b ∷ c ∷ bs) (suc j) p long l h e =
    let next : (at + 1) % 256 ≡ at + 1 = omega (arith, l) in
    kept_in (set page at b) ((at + 1) % 256) (c ∷ bs) j p (length-set page at b ∙ long) (omega (arith, l, next)) (omega (arith, h)) (omega (arith, e, next))

blank_length : length blank ≡ 256
unfolding blank
blank_length = length-replicate {A = ℕ} 256 255

blank_at : (place : ℕ) → place < 256 → get_or blank place 255 ≡ 255
unfolding blank
blank_at place l = get_or-replicate {A = ℕ} 256 place 255 255 l

and_full : (b : ℕ) → b < 256 → bit_and 255 b ≡ b
and_full b l = and_comm 255 b ∙ and_mask b 8 ∙ omega (arith, l)

below_page : (n : ℕ) → n % 256 < 256
below_page n = omega arith

program_in : (cells : List ℕ) (a : ℕ) (bs : List ℕ) (i : ℕ) → i < flash_size → a % 256 ≡ 0 → length bs ≤ 256 → AreBytes bs → a ≤ i → i < a + length bs → byte_of cells i ≡ 255
    → byte_of (burn a bs cells) i ≡ get_or bs (i - a) 0
program_in cells a bs i u z l all low high is =
    let here : get_or (kept blank (a % 256) bs) (i % 256) 255 ≡ get_or bs (i - a) 0
    = kept_in blank (a % 256) bs (i - a) (i % 256) blank_length (omega (arith, z, l)) (omega (arith, low, high)) (omega (arith, z, l, low, high)) in
    cells_at (programmed a (kept blank (a % 256) bs) (byte_of cells)) i u
    ∙ (rw (test_is (i / 256) (a / 256) (omega (arith, z, l, low, high))) refl)
    ∙ ap₂ bit_and is here ∙ and_full (get_or bs (i - a) 0) (byte_below bs (i - a) all)

program_out : (cells : List ℕ) (a : ℕ) (bs : List ℕ) (i : ℕ) → i < flash_size → a % 256 ≡ 0 → length bs ≤ 256 → Outside a (length bs) i → (Outside a 256 i) ⊎ (byte_of cells i ≡ 255)
    → byte_of (burn a bs cells) i ≡ byte_of cells i
program_out cells a bs i u z l o (inl (inl far)) =
    let n : i / 256 ≢ a / 256 = λ e. omega (arith, z, far, e) in cells_at (programmed a (kept blank (a % 256) bs) (byte_of cells)) i u ∙ (rw (test_not (i / 256) (a / 256) n) refl)
program_out cells a bs i u z l o (inl (inr far)) =
    let n : i / 256 ≢ a / 256 = λ e. omega (arith, z, far, e) in cells_at (programmed a (kept blank (a % 256) bs) (byte_of cells)) i u ∙ (rw (test_not (i / 256) (a / 256) n) refl)
program_out cells a bs i u z l o (inr is) = cells_at (programmed a (kept blank (a % 256) bs) (byte_of cells)) i u ∙ by (i / 256 == a / 256) refl
  where
    by : (t : Bool) → (i / 256 == a / 256) ≡ t → (if t then bit_and (byte_of cells i) (get_or (kept blank (a % 256) bs) (i % 256) 255) else byte_of cells i) ≡ byte_of cells i
    by false e = refl
    by true e =
        let same : i / 256 ≡ a / 256 = grind (arith, nat_tests) in
        let out : Outside (a % 256) (length bs) (i % 256) = elim o as (λ _. Outside (a % 256) (length bs) (i % 256)) [
          | inl x ↦ absurd (omega (arith, x, same, z))
          | inr x ↦ inr (omega (arith, x, same, z))
        ] in
        ap₂ bit_and is (kept_out blank (a % 256) bs (i % 256) (omega (arith, z, l)) out ∙ blank_at (i % 256) (below_page i)) ∙ and_full 255 (omega arith) ∙ sym is

-- words of memory, as they are sent

abbrev pub low : List ℕ → List ℕ
low [] = []
low (b ∷ bs) = b % 256 ∷ low bs

abbrev pub words_in : List ℕ → ℕ → ℕ → List ℕ
words_in m from zero = []
words_in m from (suc n) = low (bytes_of (word_at m from)) ++ words_in m (from + 4) n

-- four bytes a word
pub words_length : (m : List ℕ) (from n : ℕ) → length (words_in m from n) ≡ 4 * n
words_length m from zero = refl
words_length m from (suc n) = let more : length (words_in m (from + 4) n) ≡ 4 * n = words_length m (from + 4) n in omega (arith, more)

-- so many bytes at the beginning of memory are below 256
abbrev pub AreLow : List ℕ → ℕ → Type 0
AreLow m long = (i : ℕ) → i < long → get_or m i 0 < 256

first_byte : (a b c d : ℕ) → a < 256 → b < 256 → c < 256 → d < 256 → word_of a b c d % 2 ^ 8 % 256 ≡ a
first_byte a b c d ha hb hc hd = omega arith

second_byte : (a b c d : ℕ) → a < 256 → b < 256 → c < 256 → d < 256 → word_of a b c d / 2 ^ 8 % 2 ^ 8 % 256 ≡ b
second_byte a b c d ha hb hc hd = omega arith

third_byte : (a b c d : ℕ) → a < 256 → b < 256 → c < 256 → d < 256 → word_of a b c d / 2 ^ 16 % 2 ^ 8 % 256 ≡ c
third_byte a b c d ha hb hc hd = omega arith

fourth_byte : (a b c d : ℕ) → a < 256 → b < 256 → c < 256 → d < 256 → word_of a b c d / 2 ^ 24 % 2 ^ 8 % 256 ≡ d
fourth_byte a b c d ha hb hc hd = omega arith

words_at : (m : List ℕ) (long from n j : ℕ) → AreLow m long → from + 4 * n ≤ long → j < 4 * n → get_or (words_in m from n) j 0 ≡ get_or m (from + j) 0
words_at m long from zero j all f l = absurd (omega (arith, l))
words_at m long from (suc n) zero all f l =
    first_byte (get_or m from 0) (get_or m (from + 1) 0) (get_or m (from + 2) 0) (get_or m (from + 3) 0)
    (all from (omega (arith, f))) (all (from + 1) (omega (arith, f))) (all (from + 2) (omega (arith, f))) (all (from + 3) (omega (arith, f))) ∙ ap (λ k. get_or m k 0) (omega arith)
words_at m long from (suc n) (suc zero) all f l =
    second_byte (get_or m from 0) (get_or m (from + 1) 0) (get_or m (from + 2) 0) (get_or m (from + 3) 0)
    (all from (omega (arith, f))) (all (from + 1) (omega (arith, f))) (all (from + 2) (omega (arith, f))) (all (from + 3) (omega (arith, f)))
words_at m long from (suc n) (suc (suc zero)) all f l =
    third_byte (get_or m from 0) (get_or m (from + 1) 0) (get_or m (from + 2) 0) (get_or m (from + 3) 0)
    (all from (omega (arith, f))) (all (from + 1) (omega (arith, f))) (all (from + 2) (omega (arith, f))) (all (from + 3) (omega (arith, f)))
words_at m long from (suc n) (suc (suc (suc zero))) all f l =
    fourth_byte (get_or m from 0) (get_or m (from + 1) 0) (get_or m (from + 2) 0) (get_or m (from + 3) 0)
    (all from (omega (arith, f))) (all (from + 1) (omega (arith, f))) (all (from + 2) (omega (arith, f))) (all (from + 3) (omega (arith, f)))
words_at m long from (suc n) (suc (suc (suc (suc j)))) all f l = words_at m long (from + 4) n j all (omega (arith, f)) (omega (arith, l)) ∙ ap (λ k. get_or m k 0) (omega arith)

words_bytes : (m : List ℕ) (from n : ℕ) → AreBytes (words_in m from n)
words_bytes m from zero = tt
words_bytes m from (suc n) = (omega arith, (omega arith, (omega arith, (omega arith, words_bytes m (from + 4) n))))

-- pages of so many words, and a last one with the words that are left

abbrev pub paged : List ℕ → ℕ → List ℕ → ℕ → ℕ → ℕ → ℕ → List ℕ
paged m per cells a from zero zero = cells
paged m per cells a from zero (suc left) = burn a (words_in m from (suc left)) cells
paged m per cells a from (suc n) left = paged m per (burn a (words_in m from per) cells) (a + 256) (from + 256) n left

-- outside the pages, or where a byte of the last page is erased
abbrev Beyond : ℕ → ℕ → ℕ → ℕ → ℕ → Type 0
Beyond a full left c i = (i < a) ⊎ (a + 256 * full + 4 * left ≤ i) × ((c ≡ 255) ⊎ (left ≡ 0) ⊎ (a + 256 * full + 256 ≤ i))

paged_out : (m : List ℕ) (per : ℕ) (cells : List ℕ) (a from full left i : ℕ) → i < flash_size → per ≡ 64 → a % 256 ≡ 0 → left < 64 → Beyond a full left (byte_of cells i) i
    → byte_of (paged m per cells a from full left) i ≡ byte_of cells i
paged_out m per cells a from zero zero i u p z l b = refl
paged_out m per cells a from zero (suc left) i u p z l b =
    let size : length (words_in m from (suc left)) ≡ 4 * suc left = words_length m from (suc left) in
    program_out cells a (words_in m from (suc left)) i u z (omega (arith, size, l))
    (elim b as (λ _. Outside a (length (words_in m from (suc left))) i) [ inl x ↦ inl x | inr x ↦ inr (omega (arith, x.0, size)) ])
    (elim b as (λ _. (Outside a 256 i) ⊎ (byte_of cells i ≡ 255)) [
      | inl x ↦ inl (inl x)
      | inr x ↦ elim (x.1) as (λ _. (Outside a 256 i) ⊎ (byte_of cells i ≡ 255)) [
        | inl is ↦ inr is
        | inr y ↦ elim y as (λ _. (Outside a 256 i) ⊎ (byte_of cells i ≡ 255)) [ inl zero_left ↦ absurd (omega (arith, zero_left)) | inr far ↦ inl (inr (omega (arith, far))) ]
      ]
    ])
paged_out m per cells a from (suc full) left i u p z l b =
    let size : length (words_in m from per) ≡ 4 * per = words_length m from per in
    let here : byte_of (burn a (words_in m from per) cells) i ≡ byte_of cells i
    = program_out cells a (words_in m from per) i u z (omega (arith, size, p))
    (elim b as (λ _. Outside a (length (words_in m from per)) i) [ inl x ↦ inl x | inr x ↦ inr (omega (arith, x.0, size, p)) ])
    (inl (elim b as (λ _. Outside a 256 i) [ inl x ↦ inl x | inr x ↦ inr (omega (arith, x.0)) ])) in
    paged_out m per (burn a (words_in m from per) cells) (a + 256) (from + 256) full left i u p (omega (arith, z)) l
    (elim b as (λ _. Beyond (a + 256) full left (byte_of (burn a (words_in m from per) cells) i) i) [
      | inl x ↦ inl (omega (arith, x))
      | inr x ↦ inr (
        omega (arith, x.0),
        elim (x.1) as (λ _. (byte_of (burn a (words_in m from per) cells) i ≡ 255) ⊎ (left ≡ 0) ⊎ (a + 256 + 256 * full + 256 ≤ i)) [
          | inl is ↦ inl (here ∙ is)
          | inr y ↦ elim y as (λ _. (byte_of (burn a (words_in m from per) cells) i ≡ 255) ⊎ (left ≡ 0) ⊎ (a + 256 + 256 * full + 256 ≤ i)) [
            | inl zero_left ↦ inr (inl zero_left)
            | inr far ↦ inr (inr (omega (arith, far)))
          ]
        ],
      )
    ])
    ∙ here

paged_in : (m : List ℕ) (long per : ℕ) (cells : List ℕ) (a from full left i : ℕ) → i < flash_size → per ≡ 64 → a % 256 ≡ 0 → left < 64 → AreLow m long
    → from + 256 * full + 4 * left ≤ long → a ≤ i → i < a + 256 * full + 4 * left → byte_of cells i ≡ 255 → byte_of (paged m per cells a from full left) i ≡ get_or m (from + (i - a)) 0
paged_in m long per cells a from zero zero i u p z l all f low high is = absurd (omega (arith, low, high))
paged_in m long per cells a from zero (suc left) i u p z l all f low high is =
    let size : length (words_in m from (suc left)) ≡ 4 * suc left = words_length m from (suc left) in
    program_in cells a (words_in m from (suc left)) i u z (omega (arith, size, l)) (words_bytes m from (suc left)) low (omega (arith, high, size)) is
    ∙ words_at m long from (suc left) (i - a) all (omega (arith, f)) (omega (arith, low, high))
paged_in m long per cells a from (suc full) left i u p z l all f low high is =
    let size : length (words_in m from per) ≡ 4 * per = words_length m from per in
    elim (cases_lt i (a + 256)) as (λ _. byte_of (paged m per (burn a (words_in m from per) cells) (a + 256) (from + 256) full left) i ≡ get_or m (from + (i - a)) 0) [
      | inl b ↦
          paged_out m per (burn a (words_in m from per) cells) (a + 256) (from + 256) full left i u p (omega (arith, z)) l (inl b)
          ∙ program_in cells a (words_in m from per) i u z (omega (arith, size, p)) (words_bytes m from per) low (omega (arith, b, size, p)) is
          ∙ words_at m long from per (i - a) all (omega (arith, f, p)) (omega (arith, low, b, p))
      | inr b ↦
          let here : byte_of (burn a (words_in m from per) cells) i ≡ byte_of cells i
          = program_out cells a (words_in m from per) i u z (omega (arith, size, p)) (inr (omega (arith, b, size, p))) (inl (inr b)) in
          paged_in m long per (burn a (words_in m from per) cells) (a + 256) (from + 256) full left i u p (omega (arith, z)) l all (omega (arith, f)) b (omega (arith, high)) (here ∙ is)
          ∙ ap (λ k. get_or m k 0) (omega (arith, b))
    ]

-- a stored image

low_same : (bs : List ℕ) → AreBytes bs → low bs ≡ bs
low_same [] a = refl
low_same (b ∷ bs) a = ap₂ (λ (x : ℕ) (xs : List ℕ). x ∷ xs) (omega (arith, a.0)) (low_same bs a.1)

-- a header is bytes
pub header_bytes : (size check : ℕ) → AreBytes (header_by size check)
header_bytes size check =
    (omega arith, (omega arith, (omega arith, (omega arith, (omega arith, (omega arith, (omega arith, (omega arith, (omega arith, (omega arith, (omega arith, (omega arith, tt))))))))))))

-- memory begins with these bytes
abbrev pub IsThere : List ℕ → List ℕ → Type 0
IsThere m payload = (j : ℕ) → j < length payload → get_or m j 0 ≡ get_or payload j 0

-- the bytes once the blocks were erased, and payload and header programmed
abbrev pub all_programmed : List ℕ → ℕ → List ℕ → ℕ → ℕ → List ℕ
all_programmed m per cells size check =
    burn header_address (low (header_by size check)) (paged m per (erased_from cells header_address (blocks size)) payload_address 0 (size / 256) (size % 256 / 4))

-- the tests on an address
pub within_true : (a size i : ℕ) → a ≤ i → i < a + size → is_within a size i ≡ true
within_true a size i l h = rw (less i (a + size) h, not_less i a l) refl

within_low : (a size i : ℕ) → i < a → is_within a size i ≡ false
within_low a size i l = by (nat_lt i (a + size))
  where
    by : (b : Bool) → b && not (nat_lt i a) ≡ false
    by true = rw (less i a l) refl
    by false = refl

pub within_high : (a size i : ℕ) → a + size ≤ i → is_within a size i ≡ false
within_high a size i l = rw (not_less i (a + size) l) refl

module _ (m : List ℕ) (per : ℕ) (cells payload : List ℕ) (p : per ≡ 64) (four : length payload % 4 ≡ 0) (small : AreBytes payload) (there : IsThere m payload) where
  abbrev size : ℕ
  size = length payload

  abbrev check : ℕ
  check = checksum payload

  abbrev block : ℕ
  block = blocks size

  abbrev first : List ℕ
  first = erased_from cells header_address block

  abbrev second : List ℕ
  second = paged m per first payload_address 0 (size / 256) (size % 256 / 4)

  all_low : AreLow m size
  all_low i l = subst (λ b. b < 256) (sym (there i l)) (byte_below payload i small)

  header_low : AreBytes (low (header_by size check))
  header_low = subst AreBytes (sym (low_same (header_by size check) (header_bytes size check))) (header_bytes size check)

  abbrev Same : ℕ → Type 0
  Same i = byte_of (all_programmed m per cells size check) i ≡ with_image payload (byte_of cells) i

  -- header
  at_header : (i : ℕ) → i < flash_size → header_address ≤ i → i < header_address + 12 → Same i
  at_header i u l h =
      let ff : byte_of first i ≡ 255 = erased_in cells header_address block i u refl l (omega (arith, h)) in
      let still : byte_of second i ≡ byte_of first i = paged_out m per first payload_address 0 (size / 256) (size % 256 / 4) i u p refl (omega arith) (inl (omega (arith, h))) in
      program_in second header_address (low (header_by size check)) i u refl (omega arith) header_low l h (still ∙ ff)
      ∙ ap (λ bs. get_or bs (i - header_address) 0) (low_same (header_by size check) (header_bytes size check))
      ∙ sym (rw (within_true header_address 12 i l h) refl)

  -- between header and payload
  at_gap : (i : ℕ) → i < flash_size → header_address + 12 ≤ i → i < payload_address → Same i
  at_gap i u l h =
      let ff : byte_of first i ≡ 255 = erased_in cells header_address block i u refl (omega (arith, l)) (omega (arith, h)) in
      let still : byte_of second i ≡ byte_of first i = paged_out m per first payload_address 0 (size / 256) (size % 256 / 4) i u p refl (omega arith) (inl h) in
      program_out second header_address (low (header_by size check)) i u refl (omega arith) (inr l) (inr (still ∙ ff)) ∙ still ∙ ff
      ∙ sym (rw (within_high header_address 12 i l, within_low payload_address size i h, within_true header_address (4096 * block) i (omega (arith, l)) (omega (arith, h))) refl)

  -- payload
  at_payload : (i : ℕ) → i < flash_size → payload_address ≤ i → i < payload_address + size → Same i
  at_payload i u l h =
      let ff : byte_of first i ≡ 255 = erased_in cells header_address block i u refl (omega (arith, l)) (omega (arith, h)) in
      let here : byte_of second i ≡ get_or m (0 + (i - payload_address)) 0
      = paged_in m size per first payload_address 0 (size / 256) (size % 256 / 4) i u p refl (omega arith) all_low (omega (arith, four)) l (omega (arith, h, four)) ff in
      program_out second header_address (low (header_by size check)) i u refl (omega arith) (inr (omega (arith, l))) (inl (inr (omega (arith, l)))) ∙ here
      ∙ ap (λ k. get_or m k 0) (omega arith) ∙ there (i - payload_address) (omega (arith, l, h))
      ∙ sym (rw (within_high header_address 12 i (omega (arith, l)), within_true payload_address size i l h) refl)

  -- behind the payload
  at_rest : (i : ℕ) → i < flash_size → payload_address + size ≤ i → i < header_address + 4096 * block → Same i
  at_rest i u l h =
      let ff : byte_of first i ≡ 255 = erased_in cells header_address block i u refl (omega (arith, l)) h in
      let still : byte_of second i ≡ byte_of first i = paged_out m per first payload_address 0 (size / 256) (size % 256 / 4) i u p refl (omega arith) (inr (omega (arith, l, four), inl ff)) in
      program_out second header_address (low (header_by size check)) i u refl (omega arith) (inr (omega (arith, l))) (inl (inr (omega (arith, l)))) ∙ still ∙ ff
      ∙ sym (rw (within_high header_address 12 i (omega (arith, l)), within_high payload_address size i l, within_true header_address (4096 * block) i (omega (arith, l)) h) refl)

  -- below the header
  at_low : (i : ℕ) → i < flash_size → i < header_address → Same i
  at_low i u l =
      let same : byte_of first i ≡ byte_of cells i = erased_out cells header_address block i u refl (inl l) in
      let still : byte_of second i ≡ byte_of first i = paged_out m per first payload_address 0 (size / 256) (size % 256 / 4) i u p refl (omega arith) (inl (omega (arith, l))) in
      program_out second header_address (low (header_by size check)) i u refl (omega arith) (inl l) (inl (inl l)) ∙ still ∙ same
      ∙ sym (rw (within_low header_address 12 i l, within_low payload_address size i (omega (arith, l)), within_low header_address (4096 * block) i l) refl)

  -- above the blocks
  at_high : (i : ℕ) → i < flash_size → header_address + 4096 * block ≤ i → Same i
  at_high i u l =
      let same : byte_of first i ≡ byte_of cells i = erased_out cells header_address block i u refl (inr l) in
      let far : payload_address + size ≤ i = omega (arith, l) in
      let past : (size % 256 / 4 ≡ 0) ⊎ (payload_address + 256 * (size / 256) + 256 ≤ i) = elim (cases_lt 0 (size % 256 / 4)) as (λ _. (size % 256 / 4 ≡ 0) ⊎ (payload_address + 256 * (size / 256) + 256 ≤ i)) [
        | inl some ↦ inr (omega (arith, l, some, four))
        | inr none ↦ inl (omega (arith, none))
      ] in
      let still : byte_of second i ≡ byte_of first i = paged_out m per first payload_address 0 (size / 256) (size % 256 / 4) i u p refl (omega arith) (inr (omega (arith, far, four), inr past)) in
      program_out second header_address (low (header_by size check)) i u refl (omega arith) (inr (omega (arith, far))) (inl (inr (omega (arith, far)))) ∙ still ∙ same
      ∙ sym (rw (within_high header_address 12 i (omega (arith, far)), within_high payload_address size i far, within_high header_address (4096 * block) i l) refl)

  at_place : (i : ℕ) → i < flash_size → Same i
  at_place i u = elim (cases_lt i header_address) as (λ _. Same i) [
    | inl a ↦ at_low i u a
    | inr a ↦ elim (cases_lt i (header_address + 12)) as (λ _. Same i) [
      | inl b ↦ at_header i u a b
      | inr b ↦ elim (cases_lt i payload_address) as (λ _. Same i) [
        | inl c ↦ at_gap i u b c
        | inr c ↦ elim (cases_lt i (payload_address + size)) as (λ _. Same i) [
          | inl d ↦ at_payload i u c d
          | inr d ↦ elim (cases_lt i (header_address + 4096 * block)) as (λ _. Same i) [
            | inl e ↦ at_rest i u d e
            | inr e ↦ at_high i u e
          ]
        ]
      ]
    ]
  ]

  abbrev last : ℕ → ℕ
  last = programmed header_address (kept blank (header_address % 256) (low (header_by size check))) (byte_of second)

  -- where memory begins with a payload, the erased blocks, the pages and the header make the flash hold its image
  pub all_programmed-image : all_programmed m per cells size check ≡ cells_of (with_image payload (byte_of cells))
  all_programmed-image = cells_same last (with_image payload (byte_of cells)) (λ i u. sym (cells_at last i u) ∙ at_place i u)
