-- CAUSE of the watchdog's front changes by closing it alone.
use Rattle.std.proofs.Common.{◌≡◌, ℕ, Bool, true, false, [], ◌∷◌, refl, ◌∙◌, ap}
use Rattle.std.specs.Prelude.{◌==◌}
use Rattle.chip_base.specs.Bits.{bit_if}
use Rattle.chip_base.specs.declared.message.Up.{Up}
use Rattle.unit_fronts.specs.Cause.{KeepsCause}
use Rattle.unit_fronts.specs.FrontCalls.{FrontCall, LoadFrom, StoreTo, UnitSays, after_calls}
use Rattle.unit_fronts.specs.Owed.{is_open_at}
use Rattle.unit_fronts.specs.WdtFront.{WatchdogRegisters, watchdog_after, watchdog_arrived, watchdog_stored}

store_keeps : (s : WatchdogRegisters) (reg word : ℕ) (open_now control : Bool) → is_open_at s.owed ≡ open_now → (reg == 0) ≡ control
    → (watchdog_stored s reg word).was_closed ≡ s.was_closed
store_keeps s reg word true true o c = rw (o, c) refl
store_keeps s reg word true false o c = rw (o, c) refl
store_keeps s reg word false control o c = rw o refl

says_keeps : (s : WatchdogRegisters) (up : Up) (done open_now : Bool) → up.done ≡ done → is_open_at s.owed ≡ open_now
    → (watchdog_arrived s up).was_closed ≡ s.was_closed
says_keeps s up true true d o = rw (d, o) refl
says_keeps s up true false d o = rw (d, o) refl
says_keeps s up false open_now d o = rw d refl

call_keeps : (s : WatchdogRegisters) (call : FrontCall) → (watchdog_after s call).was_closed ≡ s.was_closed
call_keeps s (LoadFrom reg) = refl
call_keeps s (StoreTo reg word) = store_keeps s reg word _ _ refl refl
call_keeps s (UnitSays up) = says_keeps s up _ _ refl refl

-- no call changes CAUSE
pub keeps_cause : (s : WatchdogRegisters) → KeepsCause s
unfolding after_calls
keeps_cause s [] = refl
keeps_cause s (c ∷ cs) = keeps_cause (watchdog_after s c) cs ∙ ap (bit_if 0) (call_keeps s c)
