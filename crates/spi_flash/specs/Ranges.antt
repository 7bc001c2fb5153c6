-- Serves the code: bytes that change one after another from a place on.
use Rattle.std.specs.Prelude.{ℕ, ◌+◌, ◌-◌, Bool, ◌&&◌, nat_le, nat_lt, bit_and, if◌then◌else◌}

-- an address is one of the first n from a place on
abbrev pub is_in : ℕ → ℕ → ℕ → Bool
is_in start n i = nat_le start i && nat_lt i (start + n)

-- the first n bytes from a place on lost the bits that are 0 in the bytes of a page
abbrev pub cleared_in : ℕ → ℕ → (ℕ → ℕ) → (ℕ → ℕ) → (ℕ → ℕ)
cleared_in start n page old = λ i. if is_in start n i then bit_and (old i) (page (i - start)) else old i

-- the first n bytes from a place on became ff
abbrev pub filled_in : ℕ → ℕ → (ℕ → ℕ) → (ℕ → ℕ)
filled_in start n old = λ i. if is_in start n i then 255 else old i
