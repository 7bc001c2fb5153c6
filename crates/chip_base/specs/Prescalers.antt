-- A definition: the eight prescalers that a unit's control word selects from.
use Rattle.std.specs.Prelude.{ℕ, [], ◌∷◌, get_or, ◌/◌, ◌%◌}

-- the prescaler of a control word, by its bits 3 to 5
abbrev pub prescaler_of : ℕ → ℕ
prescaler_of control = get_or (2 ∷ 4 ∷ 8 ∷ 64 ∷ 128 ∷ 1024 ∷ 2048 ∷ 4096 ∷ []) (control / 8 % 8) 0
