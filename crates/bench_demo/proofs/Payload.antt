-- The payload, its words and its length.
use Rattle.std.proofs.Common.{◌≡◌, ℕ, zero, suc, ◌+◌, ◌-◌, ◌*◌, ◌%◌, List, [], ◌∷◌, ◌++◌, length, replicate, refl, ap, sym, ◌∙◌, arith, append-nil, add-one}
use Rattle.std.proofs.lemmas.Grind.{flat_map-append}
use Rattle.std.proofs.lemmas.List.{flat_map_more, length-append}
use Rattle.image_tool.specs.Image.{bytes_of, padded}
use Rattle.bench_demo.specs.Demo.{bytes_of_words, generated, generated_words, next_word, payload, program}

pub generated_zero : (seed : ℕ) → generated seed 0 ≡ seed
unfolding generated
generated_zero seed = refl

pub generated_more : (seed n : ℕ) → generated seed (n + 1) ≡ next_word (generated seed n)
unfolding generated
generated_more seed n = ap (generated seed) (add-one n)

words_more : (seed n : ℕ) → generated_words seed (n + 1) ≡ generated_words seed n ++ next_word (generated seed n) ∷ []
unfolding generated generated_words
words_more seed n = ap (generated_words seed) (add-one n)

-- no word was appended
pub bytes_begin : (bytes : List ℕ) (seed : ℕ) → bytes ≡ bytes ++ bytes_of_words (generated_words seed 0)
unfolding generated_words
bytes_begin bytes seed = sym (append-nil bytes)

-- one more word was appended
bytes_more : (bytes : List ℕ) (seed n : ℕ)
    → (bytes ++ bytes_of_words (generated_words seed n)) ++ bytes_of (next_word (generated seed n)) ≡ bytes ++ bytes_of_words (generated_words seed (n + 1))
bytes_more bytes seed n =
    flat_map_more bytes_of bytes (generated_words seed n) (next_word (generated seed n)) ∙ ap (λ w. bytes ++ bytes_of_words w) (sym (words_more seed n))

-- the bytes of one more word, by what was appended
pub bytes_step : (before so_far later : List ℕ) (seed n word : ℕ) → so_far ≡ before ++ bytes_of_words (generated_words seed n)
    → word ≡ next_word (generated seed n) → later ≡ so_far ++ bytes_of word → later ≡ before ++ bytes_of_words (generated_words seed (n + 1))
bytes_step before so_far later seed n word has is_word appended =
    appended
    ∙ (ap (λ b. b ++ bytes_of word) has ∙ (ap (λ w. (before ++ bytes_of_words (generated_words seed n)) ++ bytes_of w) is_word ∙ bytes_more before seed n))

-- the program's bytes, and behind them the generated words'
pub payload_whole : (seed : ℕ) → bytes_of_words program ++ bytes_of_words (generated_words seed 2032) ≡ payload seed
unfolding payload
payload_whole seed = sym (flat_map-append bytes_of program (generated_words seed 2032))

bytes_size : (words : List ℕ) → length (bytes_of_words words) ≡ 4 * length words
bytes_size [] = refl
bytes_size (w ∷ ws) = omega (arith, bytes_size ws)

words_size : (seed n : ℕ) → length (generated_words seed n) ≡ n
unfolding generated_words
words_size seed zero = refl
words_size seed (suc n) = length-append (generated_words seed n) (generated seed (suc n) ∷ []) ∙ omega (arith, words_size seed n)

pub payload_size : (seed : ℕ) → length (payload seed) ≡ 8192
unfolding payload
payload_size seed = bytes_size (program ++ generated_words seed 2032) ∙ omega (arith, words_size seed 2032)

-- the payload is a whole number of words
pub payload_padded : (seed : ℕ) → padded (payload seed) ≡ payload seed
payload_padded seed = ap (λ n. payload seed ++ replicate ((4 - n % 4) % 4) 0) (payload_size seed) ∙ append-nil (payload seed)
