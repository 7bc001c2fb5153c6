-- A control word that enables a unit starts a wave at once.
use Rattle.std.proofs.Common.{◌≡◌, ◌<◌, ℕ, zero, suc, ◌*◌, ◌/◌, ◌%◌, eqb, true, [], ◌∷◌, get_or, refl, arith}
use Rattle.std.proofs.lemmas.Bool.Decides.{nat_tests}
use Rattle.chip_base.specs.Prescalers.{prescaler_of}
use Rattle.board_units.specs.PwmState.{PwmState}
use Rattle.board_units.specs.PwmCycle.{configured, pwm_cycle}
use Rattle.board_units.specs.PwmWave.{StartsAtOnce}
use Rattle.board_units.proofs.Wave.{makes_wave}

is_odd : (control : ℕ) → control % 2 ≡ 1 → eqb (control % 2) 1 ≡ true
is_odd control h = grind (arith, nat_tests)

one_of : (i : ℕ) → i < 8 → 0 < get_or (2 ∷ 4 ∷ 8 ∷ 64 ∷ 128 ∷ 1024 ∷ 2048 ∷ 4096 ∷ []) i 0
one_of zero h = omega arith
one_of (suc zero) h = omega arith
one_of (suc (suc zero)) h = omega arith
one_of (suc (suc (suc zero))) h = omega arith
one_of (suc (suc (suc (suc zero)))) h = omega arith
one_of (suc (suc (suc (suc (suc zero))))) h = omega arith
one_of (suc (suc (suc (suc (suc (suc zero)))))) h = omega arith
one_of (suc (suc (suc (suc (suc (suc (suc zero))))))) h = omega arith
one_of (suc (suc (suc (suc (suc (suc (suc (suc n)))))))) h = absurd (omega (arith, h))

pub starts_at_once : (s : PwmState) → StartsAtOnce s
unfolding pwm_cycle
starts_at_once s no_count no_step control h = record {
  at_once = λ t. refl;
  begins = record { enabled = is_odd control h; no_count = no_count; no_step = no_step };
  wave = makes_wave (configured s control) (256 * prescaler_of control) refl (one_of (control / 8 % 8) (omega arith));
}
