-- What clap finds in words, and folds, one item further.
use Rattle.std.proofs.Common.{◌≡◌, ◌<◌, ◌+◌, ℕ, List, ◌∙◌, ap, sym, take, length, get_or, fold, refl, Bool, true, false, ◌&&◌}
use Rattle.std.specs.Prelude.{[], ◌∷◌, Some, None}
use Rattle.clap.specs.Words.{App, IsAmong, Kinds, Row, Text, fault_of, matches_of}
use Rattle.clap.specs.declared.error.kind.ErrorKind.{ErrorKind}
use Rattle.bench_words.specs.Apps.{rows_taken, rows_without}
use Rattle.std.proofs.lemmas.List.Sums.{fold_more}

-- a fold over one item more
pub added : {X Y : Type 0} (f : Y → X → Y) (a b next : Y) (xs : List X) (i : ℕ) (d : X) → i < length xs
    → b ≡ fold f a (take i xs) → next ≡ f b (get_or xs i d) → next ≡ fold f a (take (i + 1) xs)
added f a b next xs i d within so_far step = step ∙ ap (λ y. f y (get_or xs i d)) so_far ∙ sym (fold_more f a xs i d within)

-- the first of two tests
pub left_of : (a b : Bool) → (a && b) ≡ true → a ≡ true
left_of true b h = refl
left_of false b h = h

-- words without a fault
pub rows_taken-some : (app : App) (words : List Text) → fault_of app words ≡ [] → rows_taken app words ≡ Some (matches_of app words)
unfolding rows_taken
rows_taken-some app words none = rw none refl

-- a fault takes what was found
none_of_kinds : (k : ErrorKind) (kinds : Kinds) → IsAmong k kinds → (r : List Row) → rows_without kinds r ≡ None
none_of_kinds k [] h r = elim h [ ]
none_of_kinds k (x ∷ xs) h r = refl

-- words with a fault
pub rows_taken-none : (app : App) (words : List Text) (k : ErrorKind) → IsAmong k (fault_of app words) → rows_taken app words ≡ None
unfolding rows_taken
rows_taken-none app words k h = none_of_kinds k (fault_of app words) h _
