-- The bytes that are kept tell as well as all bytes whether a text was sent.
use Rattle.std.proofs.Common.{◌≡◌, ◌≤◌, ℕ, ◌+◌, ◌-◌, eqb, List, [], ◌∷◌, ◌++◌, length, drop, sym, ap, ◌∙◌, arith, drop-drop, length-drop, length-append}
use Rattle.std.proofs.lemmas.List.{drop-append-le}
use Rattle.std.specs.Cmp.Lexicographic.{pointwise}
use Rattle.std.specs.List.{ends_with}
use Rattle.uart_lane.specs.Receiving.{last_64}
use Rattle.uart_lane.specs.Script.{HearsEnough}

-- a part from the end, of a part from the end
pub twice : {X : Type 0} (a b c : ℕ) (xs : List X) → a + b ≡ c → drop b (drop a xs) ≡ drop c xs
twice a b c xs e = drop-drop b a xs ∙ ap (λ n. drop n xs) e

length_kept : (all : List ℕ) → length (last_64 all) ≡ length all - (length all - 64)
length_kept all = length-drop (length all - 64) all

kept_text : (all text : List ℕ) → length text ≤ 64 → ends_with eqb (last_64 all) text ≡ ends_with eqb all text
kept_text all text h =
    ap (pointwise eqb text) (twice (length all - 64) (length (last_64 all) - length text) (length all - length text) all
    (let l : length (last_64 all) ≡ length all - (length all - 64) = length_kept all in omega (arith, l, h)))

length_with : (all : List ℕ) (byte : ℕ) → length (last_64 all ++ byte ∷ []) ≡ length all - (length all - 64) + 1
length_with all byte = length-append (last_64 all) (byte ∷ []) ∙ ap (λ n. n + 1) (length_kept all)

kept_byte : (all : List ℕ) (byte : ℕ) → last_64 (last_64 all ++ byte ∷ []) ≡ last_64 (all ++ byte ∷ [])
kept_byte all byte =
    ap (λ bytes. drop (length (last_64 all ++ byte ∷ []) - 64) bytes) (sym (drop-append-le (length all - 64) all (byte ∷ []) (omega arith)))
    ∙ twice (length all - 64) (length (last_64 all ++ byte ∷ []) - 64) (length (all ++ byte ∷ []) - 64) (all ++ byte ∷ [])
    (let l : length (last_64 all ++ byte ∷ []) ≡ length all - (length all - 64) + 1 = length_with all byte in
    let m : length (all ++ byte ∷ []) ≡ length all + 1 = length-append all (byte ∷ []) in omega (arith, l, m))

pub hears_enough : HearsEnough
hears_enough = record { byte = kept_byte; text = kept_text }
