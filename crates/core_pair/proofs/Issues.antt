-- What a turn leaves alone, and what the record of an issued instruction holds.
use Rattle.std.proofs.Common.{◌≡◌, ◌==◌, ℕ, ◌-◌, Bool, true, false, Option, Some, None, IfSome, refl, if◌then◌else◌}
use Rattle.csr_file.specs.Traps.{pending_in, wakes_in}
use Rattle.soc_bus.specs.Memory.{MemoryState}
use Rattle.core_pair.specs.declared.fetch.Fetched.{Fetched}
use Rattle.core_pair.specs.declared.fetch.Fetched.TheVariants.{Absent, Parcel, Word}
use Rattle.core_pair.specs.declared.phase.Phase.{Phase}
use Rattle.core_pair.specs.declared.phase.Phase.TheVariants.{Run, Want, Sleep, Parked, Monitor}
use Rattle.core_pair.specs.Core.{CoreState}
use Rattle.core_pair.specs.Fetch.{fetched_at}
use Rattle.core_pair.specs.Turn.{Turned, acted, acted_by, idle, issued_by, ticked, turned, turned_in}

-- a record, if there is one, is of this cycle and of the core as it was
Fits : CoreState → ℕ → Turned → Type 0
Fits c now t = IfSome t.issued (λ r. (r.cycle ≡ now) × (r.hart ≡ c.csrs.hart) × (r.pc ≡ c.pc))

by_fetch : (c : CoreState) (now mip : ℕ) (f : Fetched) → Fits c now (issued_by c now mip f)
unfolding Fits
by_fetch c now mip (Absent address) = tt
by_fetch c now mip (Parcel parcel) = (refl, refl, refl)
by_fetch c now mip (Word word) = (refl, refl, refl)

by_cause : (c : CoreState) (now mip : ℕ) (m : MemoryState) (o : Option ℕ) → Fits c now (acted_by c now mip m o)
unfolding Fits
by_cause c now mip m (Some cause) = tt
by_cause c now mip m None = unfold Fits in by_fetch c now mip (fetched_at m c.pc)

by_acting : (c : CoreState) (now mip : ℕ) (m : MemoryState) → Fits c now (acted c now mip m)
unfolding acted
by_acting c now mip m = by_cause c now mip m (pending_in c.csrs mip)

if_fits : (c : CoreState) (now : ℕ) (b : Bool) (t u : Turned) → Fits c now t → Fits c now u → Fits c now (if b then t else u)
if_fits c now true t u h k = h
if_fits c now false t u h k = k

idle_fits : (c : CoreState) (now : ℕ) (d : CoreState) → Fits c now (idle d)
unfolding Fits
idle_fits c now d = tt

by_phase : (c : CoreState) (now mip : ℕ) (m : MemoryState) (p : Phase) → Fits (ticked c) now (turned_in c now mip m p)
by_phase c now mip m (Run left) =
    if_fits (ticked c) now (left == 0) (acted (ticked c) now mip m) (idle (record (ticked c) { phase = Run (left - 1) }))
    (by_acting (ticked c) now mip m)
    (idle_fits (ticked c) now (record (ticked c) { phase = Run (left - 1) }))
by_phase c now mip m (Want request) = idle_fits (ticked c) now (ticked c)
by_phase c now mip m (Sleep left) =
    if_fits (ticked c) now (left == 0) (if wakes_in (ticked c).csrs mip then acted (ticked c) now mip m else idle (ticked c)) (idle (record (ticked c) { phase = Sleep (left - 1) }))
    (if_fits (ticked c) now (wakes_in (ticked c).csrs mip) (acted (ticked c) now mip m) (idle (ticked c)) (by_acting (ticked c) now mip m) (idle_fits (ticked c) now (ticked c)))
    (idle_fits (ticked c) now (record (ticked c) { phase = Sleep (left - 1) }))
by_phase c now mip m Parked = idle_fits (ticked c) now c
by_phase c now mip m Monitor = idle_fits (ticked c) now c

pub recorded : (c : CoreState) (now mip : ℕ) (m : MemoryState) → IfSome (turned c now mip m).issued (λ r. (r.cycle ≡ now) × (r.hart ≡ c.csrs.hart) × (r.pc ≡ c.pc))
unfolding turned Fits
recorded c now mip m = by_phase c now mip m c.phase
