-- What a reading may come to, whatever the files are (definitions).
use Rattle.std.specs.Prelude.{ℕ, List, Result, Ok, Err}
use Rattle.bench_plan.specs.Readings.{Refusal, Reading, gives, refuses, asks}

abbrev pub EndsBoth : {A : Type 0} → (A → Type 0) → (Refusal → Type 0) → Result A Refusal → Type 0
EndsBoth P Q (Ok a) = P a
EndsBoth P Q (Err refusal) = Q refusal

-- each value that the reading may give is such a value, and each refusal such a refusal
abbrev pub Ends : {A : Type 0} → (A → Type 0) → (Refusal → Type 0) → Reading A → Type 0
Ends P Q (gives a) = P a
Ends P Q (refuses refusal) = Q refusal
Ends P Q (asks name limit next) = (bytes : List ℕ) → Ends P Q (next bytes)
