-- Files of a list, read one after another (definitions).
use Rattle.std.specs.Prelude.{ℕ, List, [], ◌∷◌, ◌++◌, Result, Vec, map}
use Rattle.std.specs.declared.alloc.Global.{Global}
use Rattle.bench_plan.specs.Readings.{Reading, asking, followed, gives}
use Rattle.bench_plan.specs.Steps.{ReadsBy}
use Rattle.bench_plan.specs.declared.stop.Stop.{Stop}
use Rattle.bench_shelf.specs.Held.{Held}

-- what is read for each of these, one after another, behind what was read before
abbrev pub each_from : {A B : Type 0} → (A → Reading B) → List A → List B → Reading (List B)
each_from f [] before = gives before
each_from f (x ∷ xs) before = followed (f x) (λ b. each_from f xs (before ++ b ∷ []))

-- files of these names, each of at most so many bytes
abbrev pub asking_each : ℕ → List (List ℕ) → Reading (List (List ℕ))
asking_each limit names = each_from (λ name. asking name limit) names []

-- the bytes of each
abbrev pub each_items : Vec (Vec ℕ Global) Global → List (List ℕ)
each_items vecs = map (λ v. v.items) vecs.items

-- what was read so far leads from the one reading to what is left of it
abbrev pub Leads : (A : Type 0) → Held → Held → Reading A → Reading A → Type 0
Leads A old mid whole left = (new : Held) (r : Result A Stop) → ReadsBy mid new left r → ReadsBy old new whole r
