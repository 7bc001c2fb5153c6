-- What a watchdog's unit does in a cycle, case by case.
use Rattle.std.proofs.Common.{◌≡◌, ℕ, ◌-◌, eqb, Bool, true, false, Option, None, Some, refl, arith}
use Rattle.chip_base.specs.Messages.{done_up, reset_in}
use Rattle.chip_base.specs.declared.message.Down.{Down}
use Rattle.chip_base.specs.declared.message.Down.TheVariants.{Reset, Set}
use Rattle.board_units.specs.WatchdogState.{WatchdogState, watchdog_reset}
use Rattle.board_units.specs.WatchdogCycle.{counted, fires, set_in, watchdog_cycle}

pub counted_off : (s : WatchdogState) (now : ℕ) → s.enabled ≡ false → counted s now ≡ record { unit = s; up = None; event = None }
counted_off s now e = rw e refl

pub counted_less : (s : WatchdogState) (now : ℕ) → s.enabled ≡ true → eqb (s.left - 1) 0 ≡ false
    → counted s now ≡ record { unit = record s { left = s.left - 1 }; up = None; event = None }
counted_less s now e l = rw (e, l) refl

pub counted_out : (s : WatchdogState) (now : ℕ) → s.enabled ≡ true → eqb (s.left - 1) 0 ≡ true → counted s now ≡ fires now
counted_out s now e l = rw (e, l) refl

-- the unit after a message that is no Reset
abbrev pub after_message : WatchdogState → Option Down → WatchdogState
after_message s None = s
after_message s (Some Reset) = s
after_message s (Some (Set reg word)) = set_in s reg word

-- a unit that hasn't fired takes the message and counts
pub cycle_counts : (s : WatchdogState) (now : ℕ) (down : Option Down) → s.fired ≡ false → reset_in down ≡ 0
    → watchdog_cycle s now down ≡ counted (after_message s down) now
unfolding watchdog_cycle
cycle_counts s now None f r = rw f refl
cycle_counts s now (Some Reset) f r = absurd (omega (arith, r))
cycle_counts s now (Some (Set reg word)) f r = rw f refl

-- a unit that has fired does nothing
pub cycle_rests : (s : WatchdogState) (now : ℕ) (down : Option Down) → s.fired ≡ true → reset_in down ≡ 0
    → watchdog_cycle s now down ≡ record { unit = s; up = None; event = None }
unfolding watchdog_cycle
cycle_rests s now None f r = rw f refl
cycle_rests s now (Some Reset) f r = absurd (omega (arith, r))
cycle_rests s now (Some (Set reg word)) f r = rw f refl

-- a Reset is done
pub cycle_resets : (s : WatchdogState) (now : ℕ) → watchdog_cycle s now (Some Reset) ≡ record { unit = watchdog_reset; up = Some done_up; event = None }
unfolding watchdog_cycle
cycle_resets s now = refl

set_keeps : (s : WatchdogState) (reg word : ℕ) (control feed on : Bool) → eqb reg 0 ≡ control → eqb reg 4 ≡ feed → s.enabled ≡ on
    → (set_in s reg word).fired ≡ s.fired
set_keeps s reg word true feed on c f e = rw c refl
set_keeps s reg word false true true c f e = rw (c, f, e) refl
set_keeps s reg word false true false c f e = rw (c, f, e) refl
set_keeps s reg word false false on c f e = rw (c, f) refl

-- no message but a Reset changes whether the unit has fired
pub message_keeps : (s : WatchdogState) (down : Option Down) → (after_message s down).fired ≡ s.fired
message_keeps s None = refl
message_keeps s (Some Reset) = refl
message_keeps s (Some (Set reg word)) = set_keeps s reg word _ _ _ refl refl refl
