-- A chip that goes on.
use Rattle.std.proofs.Common.{◌≡◌, ℕ, ◌+◌, Result, Ok, Err, ap, sym, ◌∙◌, subst}
use Rattle.std.specs.Result.{OnOk}
use Rattle.chip_whole.specs.Chip.{Board, ChipState, after}
use Rattle.chip_whole.proofs.Runs.{after_sum}

-- a chip after m cycles that goes on for n more, where the run isn't cut
pub stands_on : {C E : Type 0} (stands : Board → C → ChipState → Type 0) (first chip next : C) (m n total : ℕ) (r : Result (Unit {0}) E)
    → ((board : Board) (s : ChipState) → stands board first s → stands board chip (after board s m))
    → OnOk r ((board : Board) (s : ChipState) → stands board chip s → stands board next (after board s n)) → m + n ≡ total
    → OnOk r ((board : Board) (s : ChipState) → stands board first s → stands board next (after board s total))
stands_on stands first chip next m n total (Ok x) so_far step sum = λ board s h.
    subst (λ t. stands board next t) (sym (after_sum board s m n) ∙ ap (after board s) sum) (step board (after board s m) (so_far board s h))
stands_on stands first chip next m n total (Err e) so_far step sum = tt

-- what holds anyway holds after Ok
pub on_ok : {A E P : Type 0} (r : Result A E) → P → OnOk r P
on_ok (Ok x) p = p
on_ok (Err e) p = tt
