-- A list of steps with one step more.
use Rattle.std.proofs.Common.{◌≡◌, ℕ, Bool, true, ◌&&◌, List, [], ◌∷◌, ◌++◌, fold, refl, ◌∙◌}
use Rattle.std.proofs.lemmas.Grind.{fold-append}
use Rattle.std.proofs.lemmas.List.Folds.{list_all-append}
use Rattle.std.specs.Prelude.{nat_le}
use Rattle.std.specs.List.{list_all}
use Rattle.chip_base.specs.Steps.{are_pins, are_pins_from, is_pin, is_step}
use Rattle.chip_base.specs.declared.script.PinStep.{PinStep}
use Rattle.chip_base.specs.declared.script.UartStep.{UartStep}
use Rattle.script_text.specs.ScriptFile.{last_cycle}
use Rattle.script_text.proofs.Lists.{left, right}

both : (a b : Bool) → a ≡ true → b ≡ true → (a && b) ≡ true
both a b p q = rw p q

pins_from : (from : ℕ) (ps : List PinStep) (p : PinStep) → are_pins_from from ps ≡ true → is_pin p ≡ true → nat_le (fold (λ last p. p.cycle) from ps) p.cycle ≡ true
    → are_pins_from from (ps ++ p ∷ []) ≡ true
pins_from from [] p h one order = both _ _ (both _ _ one order) refl
pins_from from (q ∷ qs) p h one order = both _ _ (left (is_pin q && nat_le from q.cycle) _ h) (pins_from q.cycle qs p (right (is_pin q && nat_le from q.cycle) _ h) one order)

pub pins_more : (ps : List PinStep) (p : PinStep) (last : ℕ) → are_pins ps ≡ true → last ≡ last_cycle ps → (is_pin p && nat_le last p.cycle) ≡ true → are_pins (ps ++ p ∷ []) ≡ true
pins_more ps p last h is may = pins_from 0 ps p h (left (is_pin p) _ may) (rw is at (right (is_pin p) _ may))

pub last_more : (ps : List PinStep) (p : PinStep) → last_cycle (ps ++ p ∷ []) ≡ p.cycle
last_more ps p = fold-append (λ last q. q.cycle) 0 ps (p ∷ [])

pub steps_more : (us : List UartStep) (u : UartStep) → list_all is_step us ≡ true → is_step u ≡ true → list_all is_step (us ++ u ∷ []) ≡ true
steps_more us u h one = list_all-append is_step us (u ∷ []) ∙ both _ _ h (both _ _ one refl)
