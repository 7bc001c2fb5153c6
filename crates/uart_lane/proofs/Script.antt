-- A step that passes.
use Rattle.std.proofs.Common.{◌≡◌, ℕ, ◌+◌, List, drop, sym, drop-drop}

-- the steps after the next one
pub after_next : {X : Type 0} (n : ℕ) (steps : List X) → drop (n + 1) steps ≡ drop 1 (drop n steps)
after_next n steps = sym (drop-drop 1 n steps)
