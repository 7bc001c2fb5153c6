-- A definition: a link is the list of its places, each empty or with one message. The first place arrives next.
use Rattle.std.specs.Prelude.{◌≡◌, ℕ, ◌+◌, List, [], ◌∷◌, ◌++◌, Option, None}

-- what arrives in this cycle
abbrev pub link_first : {M : Type 0} → List (Option M) → Option M
link_first [] = None
link_first (m ∷ rest) = m

-- the link after a cycle in which `m` was sent: its first place is taken off and `m` is appended
abbrev pub link_moved : {M : Type 0} → List (Option M) → Option M → List (Option M)
link_moved [] m = []
link_moved (x ∷ rest) m = rest ++ m ∷ []

-- how often something stands on a link, all its places together
abbrev pub count_on : {M : Type 0} → (Option M → ℕ) → List (Option M) → ℕ
count_on count [] = 0
count_on count (m ∷ rest) = count m + count_on count rest

-- what the messages on a link carry, the one that arrives next first
abbrev pub all_on : {M A : Type 0} → (Option M → List A) → List (Option M) → List A
all_on carried [] = []
all_on carried (m ∷ rest) = carried m ++ all_on carried rest

-- no message of the second kind stands behind one of the first kind: none was sent after it
abbrev pub NoneBehind : {M : Type 0} → (Option M → ℕ) → (Option M → ℕ) → List (Option M) → Type 0
NoneBehind first second [] = Unit {0}
NoneBehind first second (m ∷ rest) = (first m ≡ 1 → count_on second rest ≡ 0) × NoneBehind first second rest
