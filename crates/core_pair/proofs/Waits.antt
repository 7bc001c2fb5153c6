-- A turn after which the core wants an access leaves pc, the registers and minstret.
use Rattle.std.proofs.Common.{◌≡◌, ◌==◌, ℕ, ◌-◌, Bool, true, false, Option, Some, None, IfSome, refl, if◌then◌else◌}
use Rattle.std.specs.Option.{option_and_then}
use Rattle.csr_file.specs.Causes.{cause_of}
use Rattle.csr_file.specs.declared.causes.Exception.TheVariants.{InstructionAccessFault}
use Rattle.csr_file.specs.Traps.{pending_in, wakes_in}
use Rattle.soc_bus.specs.Memory.{MemoryState}
use Rattle.soc_bus.specs.declared.access.Request.{Request}
use Rattle.rv_decode.specs.Rows.{decoded}
use Rattle.rv_decode.specs.Parcels.{expanded}
use Rattle.rv_decode.specs.declared.instr.Instr.{Instr}
use Rattle.rv_decode.specs.declared.instr.Op.{Op}
use Rattle.rv_decode.specs.declared.instr.Op.TheVariants.{Lb, Lh, Lw, Lbu, Lhu, Sb, Sh, Sw}
use Rattle.core_pair.specs.declared.fetch.Fetched.{Fetched}
use Rattle.core_pair.specs.declared.fetch.Fetched.TheVariants.{Absent, Parcel, Word}
use Rattle.core_pair.specs.declared.phase.Phase.{Phase}
use Rattle.core_pair.specs.declared.phase.Phase.TheVariants.{Run, Want, Sleep, Parked, Monitor}
use Rattle.core_pair.specs.Core.{CoreState, busy_after, hart_of, wanted_in}
use Rattle.core_pair.specs.Execute.{by_row, executed, illegal}
use Rattle.core_pair.specs.Hart.{Outcome, traps}
use Rattle.core_pair.specs.Fetch.{fetched_at}
use Rattle.core_pair.specs.Turn.{acted, acted_by, idle, issued_by, ticked, turned, turned_in}

-- pc, the registers and minstret are the same
Same : CoreState → CoreState → Type 0
Same c d = (d.pc ≡ c.pc) × (d.regs ≡ c.regs) × (d.csrs.minstret ≡ c.csrs.minstret)

-- they are where the core wants an access
Waits : CoreState → CoreState → Type 0
Waits c d = IfSome (wanted_in d.phase) (λ request. (d.pc ≡ c.pc) × (d.regs ≡ c.regs) × (d.csrs.minstret ≡ c.csrs.minstret))

always : (c d : CoreState) (o : Option Request) → Same c d → IfSome o (λ request. Same c d)
always c d None h = tt
always c d (Some request) h = h

same_waits : (c d : CoreState) → Same c d → Waits c d
unfolding Waits Same
same_waits c d h = always c d (wanted_in d.phase) h

busy_waits : (c d : CoreState) (o : Outcome) → Waits c (busy_after d o)
unfolding Waits
busy_waits c d o = tt

-- the rows
by_op : (c : CoreState) (i : Instr) (word next mip : ℕ) (op : Op) → Waits c (by_row c i word next mip op)
unfolding Waits
by_op c i word next mip Lb = (refl, refl, refl)
by_op c i word next mip Lh = (refl, refl, refl)
by_op c i word next mip Lw = (refl, refl, refl)
by_op c i word next mip Lbu = (refl, refl, refl)
by_op c i word next mip Lhu = (refl, refl, refl)
by_op c i word next mip Sb = (refl, refl, refl)
by_op c i word next mip Sh = (refl, refl, refl)
by_op c i word next mip Sw = (refl, refl, refl)
by_op c i word next mip _ = tt

by_instr : (c : CoreState) (o : Option Instr) (word length mip : ℕ) → Waits c (executed c o word length mip)
unfolding executed
by_instr c None word length mip = busy_waits c c (illegal (hart_of c) word)
by_instr c (Some i) word length mip = by_op c i word _ mip i.op

-- the turn
by_fetch : (c : CoreState) (now mip : ℕ) (f : Fetched) → Waits c (issued_by c now mip f).after
by_fetch c now mip (Absent address) = busy_waits c c (traps (hart_of c) (cause_of InstructionAccessFault) address)
by_fetch c now mip (Parcel parcel) = by_instr c (option_and_then decoded (expanded parcel)) parcel 2 mip
by_fetch c now mip (Word word) = by_instr c (decoded word) word 4 mip

by_cause : (c : CoreState) (now mip : ℕ) (m : MemoryState) (o : Option ℕ) → Waits c (acted_by c now mip m o).after
by_cause c now mip m (Some cause) = busy_waits c c (traps (hart_of c) cause 0)
by_cause c now mip m None = by_fetch c now mip (fetched_at m c.pc)

by_acting : (c : CoreState) (now mip : ℕ) (m : MemoryState) → Waits c (acted c now mip m).after
unfolding acted
by_acting c now mip m = by_cause c now mip m (pending_in c.csrs mip)

by_run : (c : CoreState) (now mip : ℕ) (m : MemoryState) (b : Bool) (left : ℕ) → Waits c (if b then acted c now mip m else idle (record c { phase = Run (left - 1) })).after
by_run c now mip m true left = by_acting c now mip m
by_run c now mip m false left = unfold Waits in tt

by_wake : (c : CoreState) (now mip : ℕ) (m : MemoryState) (b : Bool) → Waits c (if b then acted c now mip m else idle c).after
by_wake c now mip m true = by_acting c now mip m
by_wake c now mip m false = same_waits c c (unfold Same in (refl, refl, refl))

by_sleep : (c : CoreState) (now mip : ℕ) (m : MemoryState) (b : Bool) (left : ℕ) → Waits c (if b then (if wakes_in c.csrs mip then acted c now mip m else idle c) else idle (record c { phase = Sleep (left - 1) })).after
by_sleep c now mip m true left = by_wake c now mip m (wakes_in c.csrs mip)
by_sleep c now mip m false left = unfold Waits in tt

by_phase : (c : CoreState) (now mip : ℕ) (m : MemoryState) (p : Phase) → Waits (ticked c) (turned_in c now mip m p).after
by_phase c now mip m (Run left) = by_run (ticked c) now mip m (left == 0) left
by_phase c now mip m (Want request) = same_waits (ticked c) (ticked c) (unfold Same in (refl, refl, refl))
by_phase c now mip m (Sleep left) = by_sleep (ticked c) now mip m (left == 0) left
by_phase c now mip m Parked = same_waits (ticked c) c (unfold Same in (refl, refl, refl))
by_phase c now mip m Monitor = same_waits (ticked c) c (unfold Same in (refl, refl, refl))

pub waiting : (c : CoreState) (now mip : ℕ) (m : MemoryState) → IfSome (wanted_in (turned c now mip m).after.phase) (λ request. ((turned c now mip m).after.pc ≡ c.pc) × ((turned c now mip m).after.regs ≡ c.regs) × ((turned c now mip m).after.csrs.minstret ≡ c.csrs.minstret))
unfolding turned Waits
waiting c now mip m = by_phase c now mip m c.phase
