-- What is read for a job, one file after another, and what comes of it (definitions).
use Rattle.std.specs.Prelude.{ℕ, List, Result, Ok, Err}

-- why a job isn't done: the status, and the line that is written first
pub record Refusal : Type 0 where
  pub status : ℕ
  pub text : List ℕ

-- files that are asked for by name, each with the most bytes that it may have; what its bytes are decides what follows. At the end
-- stands a value or a refusal
pub data Reading (A : Type 0) : Type 0 where
  gives : A → Reading A
  refuses : Refusal → Reading A
  asks : List ℕ → ℕ → (List ℕ → Reading A) → Reading A

-- one reading, and then the one for what it gave
abbrev pub followed : {A B : Type 0} → Reading A → (A → Reading B) → Reading B
followed (gives a) next = next a
followed (refuses refusal) next = refuses refusal
followed (asks name limit rest) next = asks name limit (λ bytes. followed (rest bytes) next)

-- the bytes of one file
abbrev pub asking : List ℕ → ℕ → Reading (List ℕ)
asking name limit = asks name limit gives

-- what was judged without a file
abbrev pub judged : {A : Type 0} → Result A Refusal → Reading A
judged (Ok a) = gives a
judged (Err refusal) = refuses refusal
