-- Links and lists of entries with one more at their end.
use Rattle.std.proofs.Common.{◌≡◌, ℕ, zero, suc, ◌+◌, Bool, true, false, List, [], ◌∷◌, ◌++◌, length, replicate, Option, None, Some, refl, ◌∙◌, arith, append-nil, length-append}
use Rattle.std.specs.Prelude.{◌==◌, ◌||◌, ◌%◌, if◌then◌else◌}
use Rattle.chip_base.specs.Messages.{at_either_data, entry_in}
use Rattle.chip_base.specs.declared.message.Down.{Down}
use Rattle.chip_base.specs.declared.message.Down.TheVariants.{Reset, Set}
use Rattle.chip_base.specs.declared.message.Up.{Up}
use Rattle.flash_seen.specs.Seen.{NoStarts, Seen, drain, starts, step}
use Rattle.spi_flash.specs.SpiCounts.{entries_in}
use Rattle.spi_flash.specs.declared.transfer.Entry.{Entry}
use Rattle.spi_flash.specs.declared.transfer.Entry.TheVariants.{Byte, Select}
use Rattle.soc_words.specs.Link.{NoneBehind, all_on, count_on}
use Rattle.soc_words.proofs.Links.{all_more}
use Rattle.monitor_paths.specs.OnLinks.{word_in, words_in}
use Rattle.monitor_paths.specs.Opened.{AreSelections}

-- a message that carries nothing
pub nothing_more : {M A : Type 0} (carried : Option M → List A) (line : List (Option M)) (m : Option M) → carried m ≡ [] → all_on carried (line ++ m ∷ []) ≡ all_on carried line
nothing_more carried line m e = all_more carried line m ∙ (rw e (append-nil (all_on carried line)))

-- where none of the first kind is on the link, nothing stands behind one
pub behind_none : {M : Type 0} (first second : Option M → ℕ) (line : List (Option M)) → count_on first line ≡ 0 → NoneBehind first second line
behind_none first second [] e = tt
behind_none first second (x ∷ rest) e = (λ h. absurd (omega (arith, e, h)), behind_none first second rest (omega (arith, e)))

-- what is carried, counted

counted : {M A : Type 0} (count : Option M → ℕ) (carried : Option M → List A) → ((m : Option M) → length (carried m) ≡ count m) → (line : List (Option M))
    → length (all_on carried line) ≡ count_on count line
counted count carried h [] = refl
counted count carried h (x ∷ rest) =
    let both : length (carried x ++ all_on carried rest) ≡ length (carried x) + length (all_on carried rest) = length-append (carried x) (all_on carried rest) in
    let l : length (carried x) ≡ count x = h x in
    let m : length (all_on carried rest) ≡ count_on count rest = counted count carried h rest in
    omega (arith, both, l, m)

one_word : (has : Bool) (word : ℕ) → length (if has then word ∷ [] else []) ≡ (if has then 1 else 0)
one_word true word = refl
one_word false word = refl

word_counted : (m : Option Up) → length (words_in m) ≡ word_in m
word_counted None = refl
word_counted (Some up) = one_word up.has up.word

pub words_counted : (line : List (Option Up)) → length (all_on words_in line) ≡ count_on word_in line
words_counted line = counted word_in words_in word_counted line

one_entry : (datum selection : Bool) (a b : Entry) → length (if datum then a ∷ [] else if selection then b ∷ [] else []) ≡ (if datum || selection then 1 else 0)
one_entry true selection a b = refl
one_entry false true a b = refl
one_entry false false a b = refl

pub entry_counted : (m : Option Down) → length (entries_in m) ≡ entry_in at_either_data m
entry_counted None = refl
entry_counted (Some Reset) = refl
entry_counted (Some (Set reg word)) = one_entry (reg == 4) (reg == 8) (Byte (word % 256)) (Select (word % 2 == 1))

pub entries_counted : (line : List (Option Down)) → length (all_on entries_in line) ≡ count_on (entry_in at_either_data) line
entries_counted line = counted (entry_in at_either_data) entries_in entry_counted line

-- a link with nothing on it

pub none_counted : {M : Type 0} (count : Option M → ℕ) → count None ≡ 0 → (n : ℕ) → count_on count (replicate n None) ≡ 0
none_counted count e zero = refl
none_counted count e (suc n) = let rest : count_on count (replicate n None) ≡ 0 = none_counted count e n in omega (arith, rest, e)

pub none_carried : {M A : Type 0} (carried : Option M → List A) → carried None ≡ [] → (n : ℕ) → all_on carried (replicate n None) ≡ []
none_carried carried e zero = refl
none_carried carried e (suc n) = rw e (none_carried carried e n)

pub none_of : {A : Type 0} (xs : List A) → length xs ≡ 0 → xs ≡ []
none_of [] e = refl
none_of (x ∷ xs) e = absurd (omega (arith, e))

pub left_nil : {A : Type 0} (xs ys : List A) → xs ++ ys ≡ [] → xs ≡ []
left_nil [] ys e = refl
left_nil (x ∷ xs) ys e = let bad : ⊥ = cc in elim bad [ ]

pub right_nil : {A : Type 0} (xs ys : List A) → xs ++ ys ≡ [] → ys ≡ []
right_nil [] ys e = e
right_nil (x ∷ xs) ys e = let bad : ⊥ = cc in elim bad [ ]

pub both_nil : {A : Type 0} (xs ys : List A) → xs ≡ [] → ys ≡ [] → xs ++ ys ≡ []
both_nil xs ys e f = rw (e, f) refl

-- one entry more

pub drain_more : (s : Seen) (entries : List Entry) (last : Entry) → drain s (entries ++ last ∷ []) ≡ step (drain s entries) last
drain_more s [] last = refl
drain_more s (x ∷ rest) last = drain_more (step s x) rest last

pub starts_more : (s : Seen) (entries : List Entry) (last : Entry) → NoStarts s entries → starts (drain s entries) last ≡ false → NoStarts s (entries ++ last ∷ [])
starts_more s [] last n h = (h, tt)
starts_more s (x ∷ rest) last n h = (n.0, starts_more (step s x) rest last n.1 h)

pub selections_more : (entries : List Entry) (on : Bool) → AreSelections entries → AreSelections (entries ++ Select on ∷ [])
selections_more [] on a = tt
selections_more (Byte byte ∷ rest) on a = a
selections_more (Select by ∷ rest) on a = selections_more rest on a
