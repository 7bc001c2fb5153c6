-- The delays of the settings are within their range.
use Rattle.std.proofs.Common.{◌≡◌, ℕ, ◌<◌, ◌≤◌, List, true≢false, refl, sym, ◌∙◌, arith, length, slice_index_or}
use Rattle.std.specs.Prelude.{Bool, true, false}
use Rattle.std.specs.List.{list_all}
use Rattle.std.proofs.lemmas.Bool.Decides.{nat_tests}
use Rattle.std.proofs.lemmas.List.Folds.{list_all_at}
use Rattle.chip_base.specs.Ranges.{is_delay}

in_range : (d : ℕ) → is_delay d ≡ true → (1 ≤ d) × (d ≤ 4096)
in_range d e = (grind (arith, nat_tests), grind (arith, nat_tests))

pub delay_at : (delays : List ℕ) (place : ℕ) → list_all is_delay delays ≡ true → place < length delays
    → (1 ≤ slice_index_or delays place 0) × (slice_index_or delays place 0 ≤ 4096)
delay_at delays place a l =
    let here : (b : Bool) → is_delay (slice_index_or delays place 0) ≡ b → (1 ≤ slice_index_or delays place 0) × (slice_index_or delays place 0 ≤ 4096)
    = by_test delays place a l in
    here (is_delay (slice_index_or delays place 0)) refl
  where
    by_test : (delays : List ℕ) (place : ℕ) → list_all is_delay delays ≡ true → place < length delays → (b : Bool)
        → is_delay (slice_index_or delays place 0) ≡ b → (1 ≤ slice_index_or delays place 0) × (slice_index_or delays place 0 ≤ 4096)
    by_test delays place a l true e = in_range (slice_index_or delays place 0) e
    by_test delays place a l false e = absurd (true≢false (sym a ∙ list_all_at is_delay delays place 0 l e))
