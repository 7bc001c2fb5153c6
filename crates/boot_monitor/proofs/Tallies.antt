-- Words of a list that gets one byte more.
use Rattle.std.proofs.Common.{◌≡◌, ℕ, zero, suc, ◌+◌, ◌-◌, ◌*◌, ◌<◌, ◌≤◌, List, [], ◌∷◌, ◌++◌, length, drop, get_or, refl, sym, ap, ap₂, ◌∙◌, arith}
use Rattle.std.specs.Prelude.{◌%◌, ◌/◌, ◌^◌, ◌≢◌}
use Rattle.image_tool.specs.Image.{check_of, signature_of, size_of, word_at, word_of, words, wrapping_sum}
use Rattle.boot_monitor.specs.Actions.{last_word}
use Rattle.boot_monitor.specs.declared.tally.Tally.{Tally}
use Rattle.boot_monitor.specs.Tallies.{Counts, left_of, number_of, spread_of}

length-more : (xs : List ℕ) (x : ℕ) → length (xs ++ x ∷ []) ≡ suc (length xs)
length-more [] x = refl
length-more (y ∷ xs) x = ap suc (length-more xs x)

-- a list's words are those of its tail, one place on
byte-cons : (x : ℕ) (xs : List ℕ) (n k : ℕ) → get_or (x ∷ xs) (suc n + k) 0 ≡ get_or xs (n + k) 0
byte-cons x xs n k = let e : suc n + k ≡ suc (n + k) = omega arith in ap (λ p. get_or (x ∷ xs) p 0) e

word-cons : (x : ℕ) (xs : List ℕ) (n : ℕ) → word_at (x ∷ xs) (suc n) ≡ word_at xs n
word-cons x xs n =
    ap₂ (λ b c. word_of (get_or xs n 0) b c (get_or (x ∷ xs) (suc n + 3) 0)) (byte-cons x xs n 1) (byte-cons x xs n 2)
    ∙ ap (word_of (get_or xs n 0) (get_or xs (n + 1) 0) (get_or xs (n + 2) 0)) (byte-cons x xs n 3)

last_word-cons : (x : ℕ) (xs : List ℕ) → 4 ≤ length xs → last_word (x ∷ xs) ≡ last_word xs
last_word-cons x xs h =
    let e : suc (length xs) - 4 ≡ suc (length xs - 4) = omega (arith, h) in ap (word_at (x ∷ xs)) e ∙ word-cons x xs (length xs - 4)

-- bytes before the last four don't count
last_word-append : (ys xs : List ℕ) → 4 ≤ length xs → last_word (ys ++ xs) ≡ last_word xs
last_word-append [] xs h = refl
last_word-append (y ∷ ys) xs h = last_word-cons y (ys ++ xs) (longer ys xs h) ∙ last_word-append ys xs h
  where
    longer : (ys xs : List ℕ) → 4 ≤ length xs → 4 ≤ length (ys ++ xs)
    longer [] xs h = h
    longer (y ∷ ys) xs h = let e : 4 ≤ length (ys ++ xs) = longer ys xs h in omega (arith, e)

number-word : (a b c d : ℕ) → number_of (a ∷ b ∷ c ∷ d ∷ []) ≡ word_of a b c d
number-word a b c d = omega arith

-- a byte that ends a word
words-whole : (bytes : List ℕ) (x : ℕ) → length bytes % 4 ≡ 3 → words (bytes ++ x ∷ []) ≡ words bytes ++ number_of (left_of bytes ++ x ∷ []) ∷ []
words-whole [] x h = let bad : ⊥ = omega arith in elim bad [ ]
words-whole (a ∷ []) x h = let bad : ⊥ = omega arith in elim bad [ ]
words-whole (a ∷ b ∷ []) x h = let bad : ⊥ = omega arith in elim bad [ ]
words-whole (a ∷ b ∷ c ∷ []) x h = ap (λ w. w ∷ []) (sym (number-word a b c x))
words-whole (a ∷ b ∷ c ∷ d ∷ rest) x h = ap (λ ws. word_of a b c d ∷ ws) (words-whole rest x (omega arith))

left-whole : (bytes : List ℕ) (x : ℕ) → length bytes % 4 ≡ 3 → left_of (bytes ++ x ∷ []) ≡ []
left-whole [] x h = let bad : ⊥ = omega arith in elim bad [ ]
left-whole (a ∷ []) x h = let bad : ⊥ = omega arith in elim bad [ ]
left-whole (a ∷ b ∷ []) x h = let bad : ⊥ = omega arith in elim bad [ ]
left-whole (a ∷ b ∷ c ∷ []) x h = refl
left-whole (a ∷ b ∷ c ∷ d ∷ rest) x h = left-whole rest x (omega arith)

-- a byte that ends none
words-part : (bytes : List ℕ) (x : ℕ) → length bytes % 4 ≢ 3 → words (bytes ++ x ∷ []) ≡ words bytes
words-part [] x h = refl
words-part (a ∷ []) x h = refl
words-part (a ∷ b ∷ []) x h = refl
words-part (a ∷ b ∷ c ∷ []) x h = let bad : ⊥ = h (omega arith) in elim bad [ ]
words-part (a ∷ b ∷ c ∷ d ∷ rest) x h = ap (λ ws. word_of a b c d ∷ ws) (words-part rest x (λ e. h (omega (arith, e))))

left-part : (bytes : List ℕ) (x : ℕ) → length bytes % 4 ≢ 3 → left_of (bytes ++ x ∷ []) ≡ left_of bytes ++ x ∷ []
left-part [] x h = refl
left-part (a ∷ []) x h = refl
left-part (a ∷ b ∷ []) x h = refl
left-part (a ∷ b ∷ c ∷ []) x h = let bad : ⊥ = h (omega arith) in elim bad [ ]
left-part (a ∷ b ∷ c ∷ d ∷ rest) x h = left-part rest x (λ e. h (omega (arith, e)))

-- the bytes after the last whole word, with one more
pub number-more : (bytes : List ℕ) (x : ℕ) → number_of (left_of bytes ++ x ∷ []) ≡ number_of (left_of bytes) + spread_of x (length bytes)
number-more [] x = omega arith
number-more (a ∷ []) x = omega arith
number-more (a ∷ b ∷ []) x = omega arith
number-more (a ∷ b ∷ c ∷ []) x = omega arith
number-more (a ∷ b ∷ c ∷ d ∷ rest) x =
    number-more rest x ∙ ap (λ k. number_of (left_of rest) + x * 2 ^ (8 * k)) (same (length rest))
  where
    same : (n : ℕ) → n % 4 ≡ suc (suc (suc (suc n))) % 4
    same n = omega arith

-- they are the last word once it is whole
last-whole : (bytes : List ℕ) (x : ℕ) → length bytes % 4 ≡ 3 → number_of (left_of bytes ++ x ∷ []) ≡ last_word (bytes ++ x ∷ [])
last-whole [] x h = let bad : ⊥ = omega arith in elim bad [ ]
last-whole (a ∷ []) x h = let bad : ⊥ = omega arith in elim bad [ ]
last-whole (a ∷ b ∷ []) x h = let bad : ⊥ = omega arith in elim bad [ ]
last-whole (a ∷ b ∷ c ∷ []) x h = number-word a b c x
last-whole (a ∷ b ∷ c ∷ d ∷ rest) x h =
    last-whole rest x (omega arith) ∙ sym (last_word-append (a ∷ b ∷ c ∷ d ∷ []) (rest ++ x ∷ []) (longer rest (omega arith)))
  where
    longer : (rest : List ℕ) → length rest % 4 ≡ 3 → 4 ≤ length (rest ++ x ∷ [])
    longer rest h = omega (arith, h, length-more rest x)

sum-more : (ws : List ℕ) (w : ℕ) → wrapping_sum (ws ++ w ∷ []) ≡ (wrapping_sum ws + w) % 2 ^ 32
sum-more [] w = omega arith
sum-more (x ∷ ws) w = let e : wrapping_sum (ws ++ w ∷ []) ≡ (wrapping_sum ws + w) % 2 ^ 32 = sum-more ws w in omega (arith, e)

length-words : (bytes : List ℕ) → length (words bytes) ≡ length bytes / 4
length-words [] = refl
length-words (a ∷ []) = omega arith
length-words (a ∷ b ∷ []) = omega arith
length-words (a ∷ b ∷ c ∷ []) = omega arith
length-words (a ∷ b ∷ c ∷ d ∷ rest) = let e : length (words rest) ≡ length rest / 4 = length-words rest in omega (arith, e)

-- the word that was added, and those before it
pub get_or-new : (ws : List ℕ) (w k : ℕ) → k ≡ length ws → get_or (ws ++ w ∷ []) k 0 ≡ w
get_or-new [] w k h = rw h refl
get_or-new (x ∷ ws) w zero h = let bad : ⊥ = omega arith in elim bad [ ]
get_or-new (x ∷ ws) w (suc k) h = get_or-new ws w k (omega arith)

pub get_or-old : (ws : List ℕ) (w k : ℕ) → k ≢ length ws → get_or (ws ++ w ∷ []) k 0 ≡ get_or ws k 0
get_or-old [] w zero h = let bad : ⊥ = h refl in elim bad [ ]
get_or-old [] w (suc k) h = refl
get_or-old (x ∷ ws) w zero h = refl
get_or-old (x ∷ ws) w (suc k) h = get_or-old ws w k (λ e. h (ap suc e))

drop-new : (ws : List ℕ) (w : ℕ) → 2 ≤ length ws → drop 2 (ws ++ w ∷ []) ≡ drop 2 ws ++ w ∷ []
drop-new [] w h = let bad : ⊥ = omega arith in elim bad [ ]
drop-new (x ∷ []) w h = let bad : ⊥ = omega arith in elim bad [ ]
drop-new (x ∷ y ∷ ws) w h = refl

-- a byte that ends a word, but for the words that are read out
pub counts-word : (t u : Tally) (bytes : List ℕ) (x w : ℕ) → Counts t bytes → t.count % 4 ≡ 3 → w ≡ number_of (left_of bytes ++ x ∷ [])
    → u.count ≡ t.count + 1 → u.part ≡ 0 → u.last ≡ w
    → u.signature ≡ get_or (words bytes ++ w ∷ []) 0 0 → u.size ≡ get_or (words bytes ++ w ∷ []) 1 0 → u.check ≡ get_or (words bytes ++ w ∷ []) 2 0
    → u.sum ≡ wrapping_sum (drop 2 (words bytes ++ w ∷ [])) → Counts u (bytes ++ x ∷ [])
counts-word t u bytes x w c h hw hc hword hl h0 h1 h2 hs =
    let three : length bytes % 4 ≡ 3 = omega (arith, c.count, h) in
    let ws : words (bytes ++ x ∷ []) ≡ words bytes ++ w ∷ [] = words-whole bytes x three ∙ ap (λ w. words bytes ++ w ∷ []) (sym hw) in
    record {
      count = omega (arith, c.count, hc, length-more bytes x);
      part = hword ∙ sym (ap number_of (left-whole bytes x three));
      last = λ e. hl ∙ hw ∙ last-whole bytes x three;
      signature = h0 ∙ ap (λ ws. get_or ws 0 0) (sym ws);
      size = h1 ∙ ap (λ ws. get_or ws 1 0) (sym ws);
      check = h2 ∙ ap (λ ws. get_or ws 2 0) (sym ws);
      sum = hs ∙ ap (λ ws. wrapping_sum (drop 2 ws)) (sym ws);
    }

-- how many words there are when a byte ends one
pub place-of : (t : Tally) (bytes : List ℕ) (n : ℕ) → Counts t bytes → t.count % 4 ≡ 3 → t.count + 1 ≡ 4 * n → length (words bytes) + 1 ≡ n
place-of t bytes n c h e = omega (arith, length-words bytes, c.count, h, e)

-- a byte that ends no word
pub counts-part : (t u : Tally) (bytes : List ℕ) (x : ℕ) → Counts t bytes → t.count % 4 ≢ 3
    → u.count ≡ t.count + 1 → u.part ≡ t.part + spread_of x t.count
    → u.signature ≡ t.signature → u.size ≡ t.size → u.check ≡ t.check → u.sum ≡ t.sum → Counts u (bytes ++ x ∷ [])
counts-part t u bytes x c h hc hword h0 h1 h2 hs =
    let three : length bytes % 4 ≢ 3 = λ e. h (ap (λ n. n % 4) c.count ∙ e) in
    let ws : words (bytes ++ x ∷ []) ≡ words bytes = words-part bytes x three in
    record {
      count = omega (arith, c.count, hc, length-more bytes x);
      part = hword ∙ ap₂ (λ a n. a + x * 2 ^ (8 * (n % 4))) c.part c.count ∙ sym (number-more bytes x) ∙ sym (ap number_of (left-part bytes x three));
      last = λ e. no_word e three;
      signature = h0 ∙ c.signature ∙ ap (λ ws. get_or ws 0 0) (sym ws);
      size = h1 ∙ c.size ∙ ap (λ ws. get_or ws 1 0) (sym ws);
      check = h2 ∙ c.check ∙ ap (λ ws. get_or ws 2 0) (sym ws);
      sum = hs ∙ c.sum ∙ ap (λ ws. wrapping_sum (drop 2 ws)) (sym ws);
    }
  where
    no_word : length (bytes ++ x ∷ []) % 4 ≡ 0 → length bytes % 4 ≢ 3 → u.last ≡ last_word (bytes ++ x ∷ [])
    no_word e n = let bad : ⊥ = omega (arith, e, n, length-more bytes x) in elim bad [ ]

-- a byte more fits a word
pub fits-more : (w b n s : ℕ) → w < 2 ^ (8 * (n % 4)) → b < 256 → s ≡ spread_of b n → w + s < 2 ^ 32
fits-more w b n s hw hb hs = go (n % 4) (omega arith) hw hs
  where
    go : (k : ℕ) → k < 4 → w < 2 ^ (8 * k) → s ≡ b * 2 ^ (8 * k) → w + s < 2 ^ 32
    go zero h hw hs = omega arith
    go (suc zero) h hw hs = omega arith
    go (suc (suc zero)) h hw hs = omega arith
    go (suc (suc (suc zero))) h hw hs = omega arith
    go (suc (suc (suc (suc k)))) h hw hs = let bad : ⊥ = omega arith in elim bad [ ]

-- a word that isn't whole yet fits
pub fits-part : (w b n s : ℕ) → w < 2 ^ (8 * (n % 4)) → b < 256 → s ≡ spread_of b n → n % 4 ≢ 3 → w + s < 2 ^ (8 * ((n + 1) % 4))
fits-part w b n s hw hb hs h3 = go (n % 4) ((n + 1) % 4) (omega arith) (omega (arith, h3)) hw hs
  where
    go : (k l : ℕ) → k < 3 → l ≡ k + 1 → w < 2 ^ (8 * k) → s ≡ b * 2 ^ (8 * k) → w + s < 2 ^ (8 * l)
    go zero l h hl hw hs = rw hl (omega arith)
    go (suc zero) l h hl hw hs = rw hl (omega arith)
    go (suc (suc zero)) l h hl hw hs = rw hl (omega arith)
    go (suc (suc (suc k))) l h hl hw hs = let bad : ⊥ = omega arith in elim bad [ ]

-- the sum at the first two words, and at the third
pub sum-none : (ws : List ℕ) (w s : ℕ) → length ws + 1 ≤ 2 → s ≡ wrapping_sum (drop 2 ws) → s ≡ wrapping_sum (drop 2 (ws ++ w ∷ []))
sum-none [] w s h e = e
sum-none (x ∷ []) w s h e = e
sum-none (x ∷ y ∷ ws) w s h e = let bad : ⊥ = omega arith in elim bad [ ]

pub sum-first : (ws : List ℕ) (w : ℕ) → length ws + 1 ≡ 3 → w < 2 ^ 32 → w ≡ wrapping_sum (drop 2 (ws ++ w ∷ []))
sum-first [] w h hw = let bad : ⊥ = omega arith in elim bad [ ]
sum-first (x ∷ []) w h hw = let bad : ⊥ = omega arith in elim bad [ ]
sum-first (x ∷ y ∷ []) w h hw = omega arith
sum-first (x ∷ y ∷ z ∷ ws) w h hw = let bad : ⊥ = omega arith in elim bad [ ]

-- from the fourth word on
pub counts-further : (t u : Tally) (bytes : List ℕ) (x w : ℕ) → Counts t bytes → t.count % 4 ≡ 3 → w ≡ number_of (left_of bytes ++ x ∷ [])
    → t.count + 1 ≢ 4 → t.count + 1 ≢ 8 → t.count + 1 ≢ 12
    → u.count ≡ t.count + 1 → u.part ≡ 0 → u.last ≡ w
    → u.signature ≡ t.signature → u.size ≡ t.size → u.check ≡ t.check → u.sum ≡ (t.sum + w) % 2 ^ 32 → Counts u (bytes ++ x ∷ [])
counts-further t u bytes x w c h hw n4 n8 n12 hc hword hl h0 h1 h2 hs =
    let n : 3 ≤ length (words bytes) = omega (arith, length-words bytes, c.count, h, n4, n8, n12) in
    counts-word t u bytes x w c h hw hc hword hl
    (h0 ∙ c.signature ∙ sym (get_or-old (words bytes) w 0 (λ e. omega (arith, e, n))))
    (h1 ∙ c.size ∙ sym (get_or-old (words bytes) w 1 (λ e. omega (arith, e, n))))
    (h2 ∙ c.check ∙ sym (get_or-old (words bytes) w 2 (λ e. omega (arith, e, n))))
    (hs ∙ ap (λ s. (s + w) % 2 ^ 32) c.sum ∙ sym (sum-more (drop 2 (words bytes)) w) ∙ ap wrapping_sum (sym (drop-new (words bytes) w (omega (arith, n)))))

-- a word among bytes
word-there : (k : ℕ) (bytes : List ℕ) → 4 * k + 4 ≤ length bytes → get_or (words bytes) k 0 ≡ word_at bytes (4 * k)
word-there k [] h = let bad : ⊥ = omega arith in elim bad [ ]
word-there k (a ∷ []) h = let bad : ⊥ = omega arith in elim bad [ ]
word-there k (a ∷ b ∷ []) h = let bad : ⊥ = omega arith in elim bad [ ]
word-there k (a ∷ b ∷ c ∷ []) h = let bad : ⊥ = omega arith in elim bad [ ]
word-there zero (a ∷ b ∷ c ∷ d ∷ rest) h = refl
word-there (suc k) (a ∷ b ∷ c ∷ d ∷ rest) h =
    let e : suc (suc (suc (suc (4 * k)))) ≡ 4 * suc k = omega arith in
    word-there k rest (omega arith)
    ∙ sym (word-cons a (b ∷ c ∷ d ∷ rest) (suc (suc (suc (4 * k)))) ∙ word-cons b (c ∷ d ∷ rest) (suc (suc (4 * k)))
    ∙ word-cons c (d ∷ rest) (suc (4 * k)) ∙ word-cons d rest (4 * k))
    ∙ ap (word_at (a ∷ b ∷ c ∷ d ∷ rest)) e

-- the words from the third on
words-after : (bytes : List ℕ) → words (drop 8 bytes) ≡ drop 2 (words bytes)
words-after [] = refl
words-after (a ∷ []) = refl
words-after (a ∷ b ∷ []) = refl
words-after (a ∷ b ∷ c ∷ []) = refl
words-after (a ∷ b ∷ c ∷ d ∷ []) = refl
words-after (a ∷ b ∷ c ∷ d ∷ e ∷ []) = refl
words-after (a ∷ b ∷ c ∷ d ∷ e ∷ f ∷ []) = refl
words-after (a ∷ b ∷ c ∷ d ∷ e ∷ f ∷ g ∷ []) = refl
words-after (a ∷ b ∷ c ∷ d ∷ e ∷ f ∷ g ∷ h ∷ rest) = refl

-- what is read out of a tally
pub signature-is : (t : Tally) (bytes : List ℕ) → Counts t bytes → 4 ≤ t.count → t.signature ≡ signature_of bytes
signature-is t bytes c h = c.signature ∙ word-there 0 bytes (omega (arith, c.count, h))

pub size-is : (t : Tally) (bytes : List ℕ) → Counts t bytes → 12 ≤ t.count → t.size ≡ size_of bytes
size-is t bytes c h = c.size ∙ word-there 1 bytes (omega (arith, c.count, h))

pub check-is : (t : Tally) (bytes : List ℕ) → Counts t bytes → 12 ≤ t.count → t.check ≡ check_of bytes
check-is t bytes c h = c.check ∙ word-there 2 bytes (omega (arith, c.count, h))

pub sum-is : (t : Tally) (bytes : List ℕ) → Counts t bytes → t.sum ≡ wrapping_sum (words (drop 8 bytes))
sum-is t bytes c = c.sum ∙ ap wrapping_sum (sym (words-after bytes))
