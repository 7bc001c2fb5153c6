-- An image is stored block by block, page by page and word by word.
use Rattle.std.proofs.Common.{◌≡◌, ℕ, suc, ◌+◌, ◌-◌, ◌*◌, ◌<◌, ◌≤◌, Bool, true, false, List, ◌∷◌, refl, sym, ap, ap₂, ◌∙◌, arith}
use Rattle.std.proofs.lemmas.Bool.Decides.{nat_tests}
use Rattle.std.specs.Prelude.{◌≢◌, ◌%◌, ◌/◌, nat_lt}
use Rattle.boot_monitor.specs.Actions.{Action, Fetch, address_sent, blocks, burning, deselect, erases, fetches, page_words, program_words, programs, wait, write_enable}
use Rattle.boot_monitor.specs.Errands.{after_act, block_address, blocks_left, errand_of, following, header_left, page_address, pages_left, word_address, words_in, words_left}
use Rattle.boot_monitor.specs.declared.phases.Errand.TheVariants.{Program}
use Rattle.boot_monitor.specs.declared.phases.Held.{Held}
use Rattle.boot_monitor.specs.declared.phases.Page.{Page}
use Rattle.boot_monitor.proofs.Rest.{if-true, if-false}

is-below : (a b : ℕ) → nat_lt a b ≡ true → a < b
is-below a b h = grind (arith, nat_tests)

isn't-below : (a b : ℕ) → nat_lt a b ≡ false → b ≤ a
isn't-below a b h = grind (arith, nat_tests)

pub sixty-four : page_words ≡ 64
unfolding page_words
sixty-four = refl

module _ (page : Page) where
  -- a page is programmed, and then the rest
  page-is : (size : ℕ) → errand_of (Program page) size ≡ program_words (page_address page.number) (256 * page.number) (words_in page) (following (Program page))
  page-is size =
      let from : word_address page 0 ≡ 256 * page.number = omega arith in
      let all : words_in page - 0 ≡ words_in page = omega arith in
      ap₂ (λ (a k : ℕ). write_enable (address_sent 0x02 (page_address page.number) (fetches a k (deselect ∷ wait (following (Program page)))))) from all

  whole : page.number < page.image.length / 256
      → program_words (page_address page.number) (256 * page.number) page_words (pages_left page.image (page.number + 1)) ≡ pages_left page.image page.number
  whole h =
      let m : ℕ = page.image.length / 256 - (page.number + 1) in
      let left : ℕ = page.image.length % 256 / 4 in
      let more : suc m ≡ page.image.length / 256 - page.number = omega (arith, h) in
      let to : page_address (page.number + 1) ≡ page_address page.number + 256 = omega arith in
      let from : 256 * (page.number + 1) ≡ 256 * page.number + 256 = omega arith in
      ap₂ (λ (a f : ℕ). program_words (page_address page.number) (256 * page.number) page_words (programs a f m left (header_left page.image))) to from
      ∙ ap (λ k. programs (page_address page.number) (256 * page.number) k left (header_left page.image)) more

  part : page.image.length / 256 ≤ page.number → page.image.length % 256 / 4 ≢ 0
      → program_words (page_address page.number) (256 * page.number) (page.image.length % 256 / 4) (header_left page.image) ≡ pages_left page.image page.number
  part h some =
      let left : ℕ = page.image.length % 256 / 4 in
      let none : 0 ≡ page.image.length / 256 - page.number = omega (arith, h) in
      let is : left ≡ suc (left - 1) = omega (arith, some) in
      ap (λ k. program_words (page_address page.number) (256 * page.number) k (header_left page.image)) is
      ∙ ap (λ k. programs (page_address page.number) (256 * page.number) 0 k (header_left page.image)) (sym is)
      ∙ ap (λ k. programs (page_address page.number) (256 * page.number) k left (header_left page.image)) none

  pub pages-go : (size : ℕ) → words_in page ≢ 0 → errand_of (Program page) size ≡ pages_left page.image page.number
  pages-go size some = page-is size ∙ go (nat_lt page.number (page.image.length / 256)) refl
    where
      go : (b : Bool) → nat_lt page.number (page.image.length / 256) ≡ b
          → program_words (page_address page.number) (256 * page.number) (words_in page) (following (Program page)) ≡ pages_left page.image page.number
      go true e =
          ap₂ (λ (k : ℕ) (rest : List Action). program_words (page_address page.number) (256 * page.number) k rest) (if-true _ _ _ e) (if-true _ _ _ e)
          ∙ whole (is-below page.number (page.image.length / 256) e)
      go false e =
          ap₂ (λ (k : ℕ) (rest : List Action). program_words (page_address page.number) (256 * page.number) k rest) (if-false _ _ _ e) (if-false _ _ _ e)
          ∙ part (isn't-below page.number (page.image.length / 256) e) (λ none. some (if-false _ _ _ e ∙ none))

  -- no page is left
  pub pages-end : page.number ≤ page.image.length / 256 → words_in page ≡ 0 → header_left page.image ≡ pages_left page.image page.number
  pages-end h none = go (nat_lt page.number (page.image.length / 256)) refl
    where
      go : (b : Bool) → nat_lt page.number (page.image.length / 256) ≡ b → header_left page.image ≡ pages_left page.image page.number
      go true e =
          let is : words_in page ≡ page_words = if-true _ _ _ e in
          let bad : ⊥ = omega (arith, sixty-four, is, none) in elim bad [ ]
      go false e =
          let is : words_in page ≡ page.image.length % 256 / 4 = if-false _ _ _ e in
          let no_page : 0 ≡ page.image.length / 256 - page.number = omega (arith, isn't-below page.number (page.image.length / 256) e) in
          let no_word : 0 ≡ page.image.length % 256 / 4 = sym none ∙ is in
          ap₂ (λ (k l : ℕ). programs (page_address page.number) (256 * page.number) k l (header_left page.image)) no_page no_word

-- a word of a page is sent, and then the rest
pub words-go-on : (page : Page) (index : ℕ) → index < words_in page → Fetch (word_address page index) ∷ words_left page (index + 1) ≡ words_left page index
words-go-on page index h =
    let m : ℕ = words_in page - (index + 1) in
    let more : suc m ≡ words_in page - index = omega (arith, h) in
    let next : word_address page (index + 1) ≡ word_address page index + 4 = omega arith in
    ap (λ a. Fetch (word_address page index) ∷ fetches a m (deselect ∷ after_act (Program page))) next
    ∙ ap (λ k. fetches (word_address page index) k (deselect ∷ after_act (Program page))) more

-- how many words a page has
pub words-whole : (page : Page) → nat_lt page.number (page.image.length / 256) ≡ true → words_in page ≡ 64
words-whole page e = if-true (nat_lt page.number (page.image.length / 256)) page_words (page.image.length % 256 / 4) e ∙ sixty-four

words-part : (page : Page) → nat_lt page.number (page.image.length / 256) ≡ false → words_in page ≡ page.image.length % 256 / 4
words-part page e = if-false (nat_lt page.number (page.image.length / 256)) page_words (page.image.length % 256 / 4) e

pub words-few : (page : Page) → words_in page ≤ 64
words-few page = go (nat_lt page.number (page.image.length / 256)) refl
  where
    go : (b : Bool) → nat_lt page.number (page.image.length / 256) ≡ b → words_in page ≤ 64
    go true e = omega (arith, words-whole page e)
    go false e = omega (arith, words-part page e)

-- a word of a page stands in its payload
pub word-within : (page : Page) (index : ℕ) → page.number ≤ page.image.length / 256 → index < words_in page → word_address page index < page.image.length
word-within page index hn hi = go (nat_lt page.number (page.image.length / 256)) refl
  where
    go : (b : Bool) → nat_lt page.number (page.image.length / 256) ≡ b → word_address page index < page.image.length
    go true e = omega (arith, hi, words-whole page e, is-below page.number (page.image.length / 256) e)
    go false e = omega (arith, hi, hn, words-part page e, isn't-below page.number (page.image.length / 256) e)

-- an image is stored from its first block on
pub burning-is : (image : Held) → blocks_left image 0 ≡ burning image.length image.check
burning-is image =
    let all : blocks image.length - 0 ≡ blocks image.length = omega arith in
    let pages : image.length / 256 - 0 ≡ image.length / 256 = omega arith in
    ap₂ (λ (k n : ℕ). erases (block_address 0) k (programs (page_address 0) (256 * 0) n (image.length % 256 / 4) (header_left image))) all pages
