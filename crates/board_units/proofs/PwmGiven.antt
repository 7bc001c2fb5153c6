-- What the pulse-width modulation unit gives in a cycle.
use Rattle.std.proofs.Common.{◌≡◌, ◌==◌, ℕ, ◌+◌, Bool, true, false, Option, None, Some, refl, sym, ap, arith, subst, ◌∙◌}
use Rattle.std.specs.Prelude.{◌≢◌, nat_le, if◌then◌else◌}
use Rattle.std.proofs.lemmas.Bool.{true≢false}
use Rattle.std.proofs.lemmas.Bool.Decides.{nat_tests}
use Rattle.chip_base.specs.UnitTable.{unit_row}
use Rattle.chip_base.specs.declared.chip_unit.ChipUnit.TheVariants.{Pwm}
use Rattle.chip_base.specs.declared.event.Event.{Event}
use Rattle.chip_base.specs.declared.event.EventKind.TheVariants.{Out}
use Rattle.chip_base.specs.declared.message.Down.{Down}
use Rattle.chip_base.specs.declared.message.Down.TheVariants.{Reset, Set}
use Rattle.chip_base.specs.declared.message.Up.{Up}
use Rattle.board_units.specs.Laws.{AnswersResets, TellsChange}
use Rattle.board_units.specs.Messages.{change_event}
use Rattle.board_units.specs.PwmCycle.{counted, outputs_of, pwm_cycle, reset, set_in, shown}
use Rattle.board_units.specs.PwmState.{PwmState}
use Rattle.board_units.specs.PwmWave.{RestsDisabled}

module _ (s : PwmState) (now : ℕ) (down : Option Down) where
  pub given_none : down ≡ None → shown s now ≡ pwm_cycle s now down
  unfolding pwm_cycle
  given_none e = ap (pwm_cycle s now) (sym e)

  pub given_reset : down ≡ Some Reset → reset s now ≡ pwm_cycle s now down
  unfolding pwm_cycle
  given_reset e = ap (pwm_cycle s now) (sym e)

  pub given_set : (set : PwmState) (reg word : ℕ) → down ≡ Some (Set reg word) → set ≡ set_in s reg word → shown set now ≡ pwm_cycle s now down
  unfolding pwm_cycle
  given_set set reg word e h = ap (λ x. shown x now) h ∙ ap (pwm_cycle s now) (sym e)

apart : (a b : ℕ) → a ≢ b → (a == b) ≡ false
apart a b h = grind (arith, nat_tests)

same : (a b : ℕ) → a ≡ b → (a == b) ≡ true
same a b h = grind (arith, nat_tests)

-- an event of a change tells it
tells_change : (now unit before after : ℕ) → TellsChange now unit before after (change_event now unit before after)
tells_change now unit before after =
    let told : Option Event = Some (record { cycle = now; unit = unit; kind = Out; value = after }) in
    record {
      changed = λ h. ap (λ b. if b then None else told) (apart before after h);
      same = λ h. ap (λ b. if b then None else told) (same before after h);
    }

keeps_if : (b : Bool) (x y : PwmState) (mask : ℕ) → x.mask ≡ mask → y.mask ≡ mask → (if b then x else y).mask ≡ mask
keeps_if true x y mask p q = p
keeps_if false x y mask p q = q

counted_mask : (s : PwmState) → (counted s).mask ≡ s.mask
counted_mask s = keeps_if s.enabled _ _ s.mask (keeps_if (nat_le s.prescaler (s.count + 1)) _ _ s.mask refl refl) refl

set_mask : (s : PwmState) (reg word : ℕ) → (set_in s reg word).mask ≡ s.mask
set_mask s reg word =
    keeps_if (reg == 0) _ _ s.mask refl (keeps_if (reg == 4) _ _ s.mask refl (keeps_if (reg == 8) _ _ s.mask refl
    (keeps_if (reg == 12) _ _ s.mask refl (keeps_if (reg == 16) _ _ s.mask refl refl))))

shown_tells : (s : PwmState) (now : ℕ) → TellsChange now (unit_row Pwm).number s.mask (shown s now).unit.mask (shown s now).event
shown_tells s now =
    subst (λ after. TellsChange now (unit_row Pwm).number s.mask after (shown s now).event) (sym (counted_mask (record s { mask = outputs_of s })))
    (tells_change now (unit_row Pwm).number s.mask (outputs_of s))

tells : (s : PwmState) (now : ℕ) (down : Option Down) → TellsChange now (unit_row Pwm).number s.mask (pwm_cycle s now down).unit.mask (pwm_cycle s now down).event
unfolding pwm_cycle
tells s now None = shown_tells s now
tells s now (Some Reset) = tells_change now (unit_row Pwm).number s.mask 0
tells s now (Some (Set reg word)) =
    let set : PwmState = set_in s reg word in
    subst (λ before. TellsChange now (unit_row Pwm).number before (shown set now).unit.mask (shown set now).event) (set_mask s reg word) (shown_tells set now)

-- a change is told, by what a cycle gives
pub tells_as : (s : PwmState) (now : ℕ) (down : Option Down) (new : PwmState) (event : Option Event) → new ≡ (pwm_cycle s now down).unit
    → event ≡ (pwm_cycle s now down).event → TellsChange now (unit_row Pwm).number s.mask new.mask event
tells_as s now down new event e f =
    subst (λ x. TellsChange now (unit_row Pwm).number s.mask x.mask event) (sym e)
    (subst (TellsChange now (unit_row Pwm).number s.mask (pwm_cycle s now down).unit.mask) (sym f) (tells s now down))

answers : (s : PwmState) (now : ℕ) (down : Option Down) → AnswersResets down (pwm_cycle s now down).up
unfolding pwm_cycle
answers s now None = record { credits = refl; answers = refl }
answers s now (Some Reset) = record { credits = refl; answers = refl }
answers s now (Some (Set reg word)) = record { credits = refl; answers = refl }

-- a Reset is answered
pub answers_as : (s : PwmState) (now : ℕ) (down : Option Down) (up : Option Up) → up ≡ (pwm_cycle s now down).up → AnswersResets down up
answers_as s now down up e = subst (AnswersResets down) (sym e) (answers s now down)

rests_by : (s : PwmState) (on last : Bool) → s.enabled ≡ on → nat_le s.prescaler (s.count + 1) ≡ last → RestsDisabled (counted s)
rests_by s false last e l off = rw e (refl, refl)
rests_by s true true e l off = let on : (counted s).enabled ≡ true = rw (e, l) refl in absurd (true≢false (sym on ∙ off))
rests_by s true false e l off = let on : (counted s).enabled ≡ true = rw (e, l) refl in absurd (true≢false (sym on ∙ off))

rests : (s : PwmState) (now : ℕ) (down : Option Down) → RestsDisabled (pwm_cycle s now down).unit
unfolding pwm_cycle
rests s now None = rests_by (record s { mask = outputs_of s }) _ _ refl refl
rests s now (Some Reset) = λ off. (refl, refl)
rests s now (Some (Set reg word)) = rests_by (record (set_in s reg word) { mask = outputs_of (set_in s reg word) }) _ _ refl refl

-- a disabled unit stands at the beginning of its first step
pub rests_as : (s : PwmState) (now : ℕ) (down : Option Down) (new : PwmState) → new ≡ (pwm_cycle s now down).unit → RestsDisabled new
rests_as s now down new e = subst RestsDisabled (sym e) (rests s now down)
