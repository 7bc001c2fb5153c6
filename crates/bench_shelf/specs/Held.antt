-- What a shelf holds, and what a call of a shelf leaves as it was (definitions).
use Rattle.std.specs.Prelude.{◌≡◌, ℕ, ◌≤◌, Bool, List, Option}

-- whether the shelf discloses its files; the bytes of the file of a name, where it does; how often reads and writes have failed
pub record Held : Type 0 where
  pub discloses : Bool
  pub file : List ℕ → Option (List ℕ)
  pub read_faults : ℕ
  pub write_faults : ℕ

-- a call that reads: no file is changed, no write fails, and the count of failed reads doesn't fall
pub record Stays (old new : Held) : Type 0 where
  pub disclosure : new.discloses ≡ old.discloses
  pub files : (q : List ℕ) → new.file q ≡ old.file q
  pub writes : new.write_faults ≡ old.write_faults
  pub later : old.read_faults ≤ new.read_faults

-- a call that writes the file of this name: no other file is changed, no read fails, and the count of failed writes doesn't fall
pub record StaysBut (name : List ℕ) (old new : Held) : Type 0 where
  pub disclosure : new.discloses ≡ old.discloses
  pub others : (q : List ℕ) → (q ≡ name → ⊥) → new.file q ≡ old.file q
  pub reads : new.read_faults ≡ old.read_faults
  pub later : old.write_faults ≤ new.write_faults
