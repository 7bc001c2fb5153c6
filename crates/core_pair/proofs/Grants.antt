-- What a grant leaves of the core that waited for it.
use Rattle.std.proofs.Common.{◌≡◌, ◌==◌, ℕ, ◌<◌, None, Result, Ok, Err, IfSome, IfOk, IfErr, refl, arith, List, slice_index, length}
use Rattle.std.proofs.lemmas.List.{get_or-set_same, get_or-set_other}
use Rattle.csr_file.specs.Traps.{trapped}
use Rattle.soc_bus.specs.declared.access.BusFault.{BusFault}
use Rattle.core_pair.specs.declared.phase.Phase.{Phase}
use Rattle.core_pair.specs.declared.phase.Phase.TheVariants.{Run, Want, Sleep, Parked, Monitor}
use Rattle.core_pair.specs.Access.{extended, granted_in, core_granted}
use Rattle.core_pair.specs.Core.{CoreState, wanted_in}
use Rattle.core_pair.specs.GrantLaws.{AccessRetires, AccessTraps}
use Rattle.core_pair.specs.Hart.{completed, entered, retired, with_register}
use Rattle.std.specs.Prelude.{◌&&◌, if◌then◌else◌}
use mathlib.Core.Bool.{not}

-- each register after a write of one
register_after : (regs : List ℕ) (rd value n : ℕ) → length regs ≡ 32 → n < 32 → slice_index (with_register regs rd value) n ≡ (if (n == rd) && not (n == 0) then value else slice_index regs n)
register_after regs rd value n size bound = grind (arith, get_or-set_same, get_or-set_other)

retires_by : (c : CoreState) (answer : Result ℕ BusFault) (p : Phase) → length c.regs ≡ 32 → IfSome (wanted_in p) (λ r. IfOk answer (λ value. AccessRetires c (granted_in c answer p) r value))
unfolding retired completed
retires_by c (Ok value) (Want r) size = (λ n bound. register_after c.regs c.awaited.rd (extended r.width c.awaited.signed value) n size bound, refl, refl, refl)
retires_by c (Err fault) (Want r) size = tt
retires_by c answer (Run left) size = tt
retires_by c answer (Sleep left) size = tt
retires_by c answer Parked size = tt
retires_by c answer Monitor size = tt

-- serves the clause `retires` of a grant
pub granted_retires : (c : CoreState) (answer : Result ℕ BusFault) → length c.regs ≡ 32 → IfSome (wanted_in c.phase) (λ r. IfOk answer (λ value. AccessRetires c (core_granted c answer) r value))
unfolding core_granted
granted_retires c answer size = retires_by c answer c.phase size

traps_by : (c : CoreState) (answer : Result ℕ BusFault) (p : Phase) → IfSome (wanted_in p) (λ r. IfErr answer (λ fault. AccessTraps c (granted_in c answer p) r fault))
unfolding entered trapped
traps_by c (Ok value) (Want r) = tt
traps_by c (Err fault) (Want r) = (refl, refl, refl, refl, refl, refl)
traps_by c answer (Run left) = tt
traps_by c answer (Sleep left) = tt
traps_by c answer Parked = tt
traps_by c answer Monitor = tt

-- serves the clause `traps` of a grant
pub granted_traps : (c : CoreState) (answer : Result ℕ BusFault) → IfSome (wanted_in c.phase) (λ r. IfErr answer (λ fault. AccessTraps c (core_granted c answer) r fault))
unfolding core_granted
granted_traps c answer = traps_by c answer c.phase

unasked_by : (c : CoreState) (answer : Result ℕ BusFault) (p : Phase) → wanted_in p ≡ None → granted_in c answer p ≡ c
unasked_by c answer (Want r) h = grind arith
unasked_by c answer (Run left) h = refl
unasked_by c answer (Sleep left) h = refl
unasked_by c answer Parked h = refl
unasked_by c answer Monitor h = refl

-- serves the clause `unasked` of a grant
pub granted_unasked : (c : CoreState) (answer : Result ℕ BusFault) → wanted_in c.phase ≡ None → core_granted c answer ≡ c
unfolding core_granted
granted_unasked c answer h = unasked_by c answer c.phase h
