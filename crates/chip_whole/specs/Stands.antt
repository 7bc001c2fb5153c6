-- What holds of the chips of the definition that a chip in code stands for (definitions).
use Rattle.std.specs.Prelude.{ℕ}
use Rattle.chip_whole.specs.Chip.{Board, ChipState, after}

-- of each of them, and of the board that it stands over
abbrev pub ForEach : {C : Type 0} → (Board → C → ChipState → Type 0) → C → (Board → ChipState → Type 0) → Type 0
ForEach stands chip P = (board : Board) (s : ChipState) → stands board chip s → P board s

-- a chip in code that was stepped this many cycles
abbrev pub IsStepped : {C : Type 0} → (Board → C → ChipState → Type 0) → C → ℕ → C → Type 0
IsStepped stands first cycles next = ForEach stands first (λ board s. stands board next (after board s cycles))
