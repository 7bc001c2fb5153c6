-- The part that is attached to a chip, of those that are handed in: a definition.
use Rattle.std.specs.Prelude.{ℕ, List, [], ◌∷◌, Option, Some, None, if◌then◌else◌}
use Rattle.std.specs.Str.{bytes_eq}
use Rattle.bench_parts.specs.Behave.{Behaviour}

-- a part that is handed in: its name, and how it behaves
pub record HandedPart : Type 0 where
  pub name : List ℕ
  pub behave : Behaviour

-- the first one of this name
abbrev pub first_named : List ℕ → List HandedPart → Option Behaviour
first_named name [] = None
first_named name (p ∷ rest) = if bytes_eq p.name name then Some p.behave else first_named name rest

-- the one that is asked for, where one is
abbrev pub attached : List HandedPart → Option (List ℕ) → Option Behaviour
attached parts None = None
attached parts (Some name) = first_named name parts
