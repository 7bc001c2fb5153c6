-- A watchdog fires once until a Reset, and rests while it is disabled.
use Rattle.std.proofs.Common.{◌≡◌, ℕ, zero, suc, ◌+◌, ◌-◌, eqb, Bool, true, false, Option, None, Some, ◌++◌, length, refl, sym, ap, ◌∙◌, arith, subst}
use Rattle.std.specs.Prelude.{option_to_list}
use Rattle.std.proofs.lemmas.Bool.{true≢false}
use Rattle.std.proofs.lemmas.List.{length-append}
use Rattle.chip_base.specs.Given.{Given}
use Rattle.chip_base.specs.Messages.{fire_in, reset_in}
use Rattle.chip_base.specs.Runs.{ran, unit_after, unit_step}
use Rattle.chip_base.specs.declared.event.Event.{Event}
use Rattle.chip_base.specs.declared.message.Down.{Down}
use Rattle.chip_base.specs.declared.message.Down.TheVariants.{Reset, Set}
use Rattle.chip_base.specs.declared.message.Up.{Up}
use Rattle.board_units.specs.WatchdogState.{WatchdogState}
use Rattle.board_units.specs.WatchdogCycle.{counted, fire_event, watchdog_cycle}
use Rattle.board_units.specs.WatchdogTime.{FiresOnce, FiresOnceUntilReset, RestsDisabled, fires_since_reset}
use Rattle.board_units.proofs.Count.{after_message, counted_less, counted_off, counted_out, cycle_counts, cycle_resets, cycle_rests, message_keeps}

-- what a count says of a Fire
record Counts (now : ℕ) (g : Given WatchdogState) : Type 0 where
  counts : fire_in g.up ≡ fires_since_reset g.unit
  told : fire_in g.up ≡ 1 → g.event ≡ Some (fire_event now)
  untold : fire_in g.up ≡ 0 → g.event ≡ None

counts_by : (s : WatchdogState) (now : ℕ) (on last : Bool) → s.enabled ≡ on → eqb (s.left - 1) 0 ≡ last → s.fired ≡ false → Counts now (counted s now)
counts_by s now false last e l f = subst (Counts now) (sym (counted_off s now e))
    record { counts = rw f refl; told = λ x. absurd (omega (arith, x)); untold = λ x. refl }
counts_by s now true false e l f = subst (Counts now) (sym (counted_less s now e l))
    record { counts = rw f refl; told = λ x. absurd (omega (arith, x)); untold = λ x. refl }
counts_by s now true true e l f = subst (Counts now) (sym (counted_out s now e l))
    record { counts = refl; told = λ x. refl; untold = λ x. absurd (omega (arith, x)) }

abbrev Once : WatchdogState → ℕ → Option Down → Given WatchdogState → Type 0
Once s now down g = FiresOnce now s down g.unit g.up g.event

-- a unit that hasn't fired and is given no Reset counts
count_once : (s set : WatchdogState) (now : ℕ) (down : Option Down) → s.fired ≡ false → set.fired ≡ false → reset_in down ≡ 0
    → Once s now down (counted set now)
count_once s set now down f e r =
    let c : Counts now (counted set now) = counts_by set now _ _ refl refl e in
    let none : fires_since_reset s ≡ 0 = rw f refl in
    let same : fire_in (counted set now).up ≡ fires_since_reset (counted set now).unit = c.counts in
    record {
      counts = λ x. omega (arith, none, same);
      waits = λ x. absurd (true≢false (sym x ∙ f));
      resets = λ x. absurd (omega (arith, x, r));
      told = c.told;
      untold = c.untold;
    }

-- a unit that has fired does nothing
rest_once : (s : WatchdogState) (now : ℕ) (down : Option Down) → s.fired ≡ true → reset_in down ≡ 0
    → Once s now down (record { unit = s; up = None; event = None })
rest_once s now down f r = record {
  counts = λ x. omega arith;
  waits = λ x y. (refl, refl);
  resets = λ x. absurd (omega (arith, x, r));
  told = λ x. absurd (omega (arith, x));
  untold = λ x. refl;
}

without_reset : (s : WatchdogState) (now : ℕ) (down : Option Down) (fired : Bool) → s.fired ≡ fired → reset_in down ≡ 0 → Once s now down (watchdog_cycle s now down)
without_reset s now down true f r = subst (Once s now down) (sym (cycle_rests s now down f r)) (rest_once s now down f r)
without_reset s now down false f r = subst (Once s now down) (sym (cycle_counts s now down f r))
    (count_once s (after_message s down) now down f (message_keeps s down ∙ f) r)

cycle_once : (s : WatchdogState) (now : ℕ) (down : Option Down) → Once s now down (watchdog_cycle s now down)
cycle_once s now None = without_reset s now None _ refl refl
cycle_once s now (Some (Set reg word)) = without_reset s now (Some (Set reg word)) _ refl refl
cycle_once s now (Some Reset) = subst (Once s now (Some Reset)) (sym (cycle_resets s now)) record {
  counts = λ x. absurd (omega (arith, x));
  waits = λ x y. absurd (omega (arith, y));
  resets = λ x. (refl, refl);
  told = λ x. absurd (omega (arith, x));
  untold = λ x. refl;
}

-- what a cycle tells of a Fire
pub fires_once : (now : ℕ) (old : WatchdogState) (down : Option Down) (new : WatchdogState) (up : Option Up) (event : Option Event)
    → new ≡ (watchdog_cycle old now down).unit → up ≡ (watchdog_cycle old now down).up → event ≡ (watchdog_cycle old now down).event
    → FiresOnce now old down new up event
fires_once now old down new up event n u e =
    subst (λ x. FiresOnce now old down x up event) (sym n) (subst (λ x. FiresOnce now old down (watchdog_cycle old now down).unit x event) (sym u)
    (subst (FiresOnce now old down (watchdog_cycle old now down).unit (watchdog_cycle old now down).up) (sym e) (cycle_once old now down)))

rests_by : (s : WatchdogState) (now : ℕ) (fired : Bool) → s.enabled ≡ false → s.fired ≡ fired
    → watchdog_cycle s now None ≡ record { unit = s; up = None; event = None }
rests_by s now true off f = cycle_rests s now None f refl
rests_by s now false off f = cycle_counts s now None f refl ∙ counted_off s now off

-- a disabled unit rests
pub rests_disabled : (s : WatchdogState) → RestsDisabled s
rests_disabled s off now = rests_by s now _ off refl

-- an event comes with each Fire
events_told : (now : ℕ) (up : Option Up) (event : Option Event) → (fire_in up ≡ 1 → event ≡ Some (fire_event now)) → (fire_in up ≡ 0 → event ≡ None)
    → length (option_to_list event) ≡ fire_in up
events_told now None event told untold = ap (λ e. length (option_to_list e)) (untold refl)
events_told now (Some up) event told untold = by_fire up.fire refl
  where
    by_fire : (fire : Bool) → up.fire ≡ fire → length (option_to_list event) ≡ fire_in (Some up)
    by_fire true f =
        let one : fire_in (Some up) ≡ 1 = rw f refl in
        ap (λ e. length (option_to_list e)) (told one) ∙ sym one
    by_fire false f =
        let none : fire_in (Some up) ≡ 0 = rw f refl in
        ap (λ e. length (option_to_list e)) (untold none) ∙ sym none

-- one event until a Reset
pub fires_once_until_reset : FiresOnceUntilReset
unfolding ran unit_after FiresOnceUntilReset
fires_once_until_reset s start downs zero h = omega arith
fires_once_until_reset s start downs (suc n) h =
    let before : WatchdogState = (ran (unit_step watchdog_cycle) s start downs n).state in
    let told : ℕ = length (ran (unit_step watchdog_cycle) s start downs n).told in
    let g : Given WatchdogState = watchdog_cycle before (start + n) (downs (start + n)) in
    let once = cycle_once before (start + n) (downs (start + n)) in
    let earlier : told + fires_since_reset s ≡ fires_since_reset before
    = fires_once_until_reset s start downs n (λ t p q. h t p (omega (arith, q))) in
    let fire : fire_in g.up + fires_since_reset before ≡ fires_since_reset g.unit = once.counts (h (start + n) (omega arith) (omega arith)) in
    let events : length (option_to_list g.event) ≡ fire_in g.up = events_told (start + n) g.up g.event once.told once.untold in
    let longer : length ((ran (unit_step watchdog_cycle) s start downs n).told ++ option_to_list g.event) ≡ told + length (option_to_list g.event)
    = length-append (ran (unit_step watchdog_cycle) s start downs n).told (option_to_list g.event) in
    omega (arith, earlier, fire, events, longer)
