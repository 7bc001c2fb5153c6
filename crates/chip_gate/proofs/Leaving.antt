-- Once core 0 has left the monitor, no turn and no grant of its own brings it back.
use Rattle.std.proofs.Common.{◌≡◌, ℕ, ◌==◌, Bool, true, false, Option, None, Some, Result, Ok, Err, if◌then◌else◌, refl}
use Rattle.core_pair.specs.Access.{core_granted, granted_in}
use Rattle.core_pair.specs.Core.{CoreState, hart_of}
use Rattle.core_pair.specs.Execute.{executed, phase_after}
use Rattle.core_pair.specs.Hart.{HartState}
use Rattle.core_pair.specs.Turn.{Turned, acted, acted_by, idle, issued_by, ticked, turned, turned_in}
use Rattle.core_pair.specs.declared.fetch.Fetched.{Fetched}
use Rattle.core_pair.specs.declared.fetch.Fetched.TheVariants.{Absent, Parcel, Word}
use Rattle.core_pair.specs.declared.phase.Phase.{Phase}
use Rattle.core_pair.specs.declared.phase.Phase.TheVariants.{Run, Want, Sleep, Parked, Monitor}
use Rattle.csr_file.specs.Traps.{pending_in, wakes_in}
use Rattle.rv_decode.specs.declared.instr.Instr.{Instr}
use Rattle.rv_decode.specs.declared.instr.Op.{Op}
use Rattle.rv_decode.specs.declared.instr.Op.TheVariants.{Lb, Lh, Lw, Lbu, Lhu, Sb, Sh, Sw, Wfi}
use Rattle.core_pair.specs.Fetch.{fetched_at}
use Rattle.soc_bus.specs.Memory.{MemoryState}
use Rattle.soc_bus.specs.declared.access.BusFault.{BusFault}
use Rattle.chip_gate.specs.Seated.{is_monitor}

abbrev Outside : CoreState → Type 0
Outside c = is_monitor c.phase ≡ false

by_op : (h : HartState) (i : Instr) (cycles : ℕ) (op : Op) → is_monitor (phase_after h i cycles op) ≡ false
by_op h i cycles Lb = refl
by_op h i cycles Lh = refl
by_op h i cycles Lw = refl
by_op h i cycles Lbu = refl
by_op h i cycles Lhu = refl
by_op h i cycles Sb = refl
by_op h i cycles Sh = refl
by_op h i cycles Sw = refl
by_op h i cycles Wfi = refl
by_op h i cycles _ = refl

by_instr : (c : CoreState) (o : Option Instr) (word length mip : ℕ) → Outside (executed c o word length mip)
unfolding executed
by_instr c None word length mip = refl
by_instr c (Some i) word length mip = by_op (hart_of c) i _ i.op

by_fetched : (c : CoreState) (now mip : ℕ) (f : Fetched) → Outside (issued_by c now mip f).after
by_fetched c now mip (Absent address) = refl
by_fetched c now mip (Parcel parcel) = by_instr c _ parcel 2 mip
by_fetched c now mip (Word word) = by_instr c _ word 4 mip

by_pending : (c : CoreState) (now mip : ℕ) (m : MemoryState) (cause : Option ℕ) → Outside (acted_by c now mip m cause).after
by_pending c now mip m (Some cause) = refl
by_pending c now mip m None = by_fetched c now mip (fetched_at m c.pc)

by_acting : (c : CoreState) (now mip : ℕ) (m : MemoryState) → Outside (acted c now mip m).after
unfolding acted
by_acting c now mip m = by_pending c now mip m (pending_in c.csrs mip)

either : (b : Bool) (x y : Turned) → Outside x.after → Outside y.after → Outside (if◌then◌else◌ {A = Turned} b x y).after
either true x y hx hy = hx
either false x y hx hy = hy

by_phase : (c : CoreState) (now mip : ℕ) (m : MemoryState) (p : Phase) → c.phase ≡ p → is_monitor p ≡ false → Outside (turned_in c now mip m p).after
by_phase c now mip m (Run left) e h = either (left == 0) _ _ (by_acting (ticked c) now mip m) refl
by_phase c now mip m (Want request) e h = rw e refl
by_phase c now mip m (Sleep left) e h =
    either (left == 0) (if wakes_in (ticked c).csrs mip then acted (ticked c) now mip m else idle (ticked c)) _
    (either (wakes_in (ticked c).csrs mip) _ (idle (ticked c)) (by_acting (ticked c) now mip m) (rw e refl)) refl
by_phase c now mip m Parked e h = rw e refl
by_phase c now mip m Monitor e h = let bad : ⊥ = cc in elim bad [ ]

-- by its turn
pub turned_outside : (c : CoreState) (now mip : ℕ) (m : MemoryState) → Outside c → Outside (turned c now mip m).after
unfolding turned
turned_outside c now mip m h = by_phase c now mip m c.phase refl h

by_grant : (c : CoreState) (answer : Result ℕ BusFault) (p : Phase) → c.phase ≡ p → is_monitor p ≡ false → Outside (granted_in c answer p)
by_grant c (Ok value) (Want request) e h = refl
by_grant c (Err fault) (Want request) e h = refl
by_grant c answer (Run left) e h = rw e refl
by_grant c answer (Sleep left) e h = rw e refl
by_grant c answer Parked e h = rw e refl
by_grant c answer Monitor e h = let bad : ⊥ = cc in elim bad [ ]

-- by a grant
pub granted_outside : (c : CoreState) (answer : Result ℕ BusFault) → Outside c → Outside (core_granted c answer)
unfolding core_granted
granted_outside c answer h = by_grant c answer c.phase refl h
