-- What a turn that issues an instruction does to the hart.
use Rattle.std.proofs.Common.{◌≡◌, ◌==◌, ℕ, ◌-◌, Bool, true, false, Option, Some, None, IfSome, refl, if◌then◌else◌}
use Rattle.std.specs.Option.{option_and_then}
use Rattle.csr_file.specs.Traps.{pending_in, wakes_in}
use Rattle.soc_bus.specs.Memory.{MemoryState}
use Rattle.soc_words.specs.Word.{wrapped_sum}
use Rattle.rv_decode.specs.Parcels.{expanded}
use Rattle.rv_decode.specs.Rows.{decoded}
use Rattle.rv_decode.specs.declared.instr.Instr.{Instr}
use Rattle.rv_decode.specs.declared.instr.Op.{Op}
use Rattle.rv_decode.specs.declared.instr.Op.TheVariants.{Lb, Lh, Lw, Lbu, Lhu, Sb, Sh, Sw}
use Rattle.core_pair.specs.declared.fetch.Fetched.{Fetched}
use Rattle.core_pair.specs.declared.fetch.Fetched.TheVariants.{Absent, Parcel, Word}
use Rattle.core_pair.specs.declared.phase.Awaited.{Awaited}
use Rattle.core_pair.specs.declared.phase.Phase.{Phase}
use Rattle.core_pair.specs.declared.phase.Phase.TheVariants.{Run, Want, Sleep, Parked, Monitor}
use Rattle.core_pair.specs.Core.{CoreState, hart_of, wanted_in}
use Rattle.core_pair.specs.Execute.{awaited_after, executed, phase_after}
use Rattle.core_pair.specs.Fetch.{fetched_at}
use Rattle.core_pair.specs.Hart.{HartState}
use Rattle.core_pair.specs.Turn.{Turned, acted, acted_by, idle, issued_by, ticked, turned, turned_in}
use Rattle.core_pair.specs.TurnLaws.{hart_after, hart_after_by, length_in}

-- a turn that issued an instruction left this hart, and an access that is wanted then goes on at this address
Leaves : HartState → ℕ → Turned → Type 0
Leaves h next t = IfSome t.issued (λ r. (hart_of t.after ≡ h) × (IfSome (wanted_in t.after.phase) (λ request. t.after.awaited.next ≡ next)))

by_op : (h : HartState) (a : Awaited) (i : Instr) (next cycles : ℕ) (op : Op) → IfSome (wanted_in (phase_after h i cycles op)) (λ request. (awaited_after a i next op).next ≡ next)
by_op h a i next cycles Lb = refl
by_op h a i next cycles Lh = refl
by_op h a i next cycles Lw = refl
by_op h a i next cycles Lbu = refl
by_op h a i next cycles Lhu = refl
by_op h a i next cycles Sb = refl
by_op h a i next cycles Sh = refl
by_op h a i next cycles Sw = refl
by_op h a i next cycles _ = tt

by_instr : (c : CoreState) (o : Option Instr) (word length mip : ℕ) → (hart_of (executed c o word length mip) ≡ hart_after_by (hart_of c) word (wrapped_sum c.pc length) mip o) × (IfSome (wanted_in (executed c o word length mip).phase) (λ request. (executed c o word length mip).awaited.next ≡ wrapped_sum c.pc length))
unfolding executed
by_instr c None word length mip = (refl, tt)
by_instr c (Some i) word length mip = (refl, by_op (hart_of c) c.awaited i (wrapped_sum c.pc length) _ i.op)

by_fetch : (c : CoreState) (now mip : ℕ) (f : Fetched) → Leaves (hart_after (hart_of c) mip f) (wrapped_sum c.pc (length_in f)) (issued_by c now mip f)
unfolding Leaves
by_fetch c now mip (Absent address) = tt
by_fetch c now mip (Parcel parcel) = by_instr c (option_and_then decoded (expanded parcel)) parcel 2 mip
by_fetch c now mip (Word word) = by_instr c (decoded word) word 4 mip

by_cause : (c : CoreState) (now mip : ℕ) (m : MemoryState) (o : Option ℕ) → Leaves (hart_after (hart_of c) mip (fetched_at m c.pc)) (wrapped_sum c.pc (length_in (fetched_at m c.pc))) (acted_by c now mip m o)
unfolding Leaves
by_cause c now mip m (Some cause) = tt
by_cause c now mip m None = unfold Leaves in by_fetch c now mip (fetched_at m c.pc)

by_acting : (c : CoreState) (now mip : ℕ) (m : MemoryState) → Leaves (hart_after (hart_of c) mip (fetched_at m c.pc)) (wrapped_sum c.pc (length_in (fetched_at m c.pc))) (acted c now mip m)
unfolding acted
by_acting c now mip m = by_cause c now mip m (pending_in c.csrs mip)

-- the choice between two turns
by_choice : (h : HartState) (next : ℕ) (b : Bool) (t u : Turned) → Leaves h next t → Leaves h next u → Leaves h next (if b then t else u)
by_choice h next true t u left right = left
by_choice h next false t u left right = right

idle_leaves : (h : HartState) (next : ℕ) (c : CoreState) → Leaves h next (idle c)
unfolding Leaves
idle_leaves h next c = tt

by_phase : (c : CoreState) (now mip : ℕ) (m : MemoryState) (p : Phase) → Leaves (hart_after (hart_of (ticked c)) mip (fetched_at m c.pc)) (wrapped_sum c.pc (length_in (fetched_at m c.pc))) (turned_in c now mip m p)
by_phase c now mip m (Run left) =
    by_choice _ _ (left == 0) (acted (ticked c) now mip m) (idle (record (ticked c) { phase = Run (left - 1) })) (by_acting (ticked c) now mip m) (idle_leaves _ _ (record (ticked c) { phase = Run (left - 1) }))
by_phase c now mip m (Want request) = idle_leaves _ _ (ticked c)
by_phase c now mip m (Sleep left) =
    by_choice _ _ (left == 0) (if wakes_in (ticked c).csrs mip then acted (ticked c) now mip m else idle (ticked c)) (idle (record (ticked c) { phase = Sleep (left - 1) }))
    (by_choice _ _ (wakes_in (ticked c).csrs mip) (acted (ticked c) now mip m) (idle (ticked c)) (by_acting (ticked c) now mip m) (idle_leaves _ _ (ticked c)))
    (idle_leaves _ _ (record (ticked c) { phase = Sleep (left - 1) }))
by_phase c now mip m Parked = idle_leaves _ _ c
by_phase c now mip m Monitor = idle_leaves _ _ c

-- serves the clause `executes` of a turn
pub executions : (c : CoreState) (now mip : ℕ) (m : MemoryState) → IfSome (turned c now mip m).issued (λ r. (hart_of (turned c now mip m).after ≡ hart_after (hart_of (ticked c)) mip (fetched_at m c.pc)) × (IfSome (wanted_in (turned c now mip m).after.phase) (λ request. (turned c now mip m).after.awaited.next ≡ wrapped_sum c.pc (length_in (fetched_at m c.pc)))))
unfolding turned Leaves
executions c now mip m = by_phase c now mip m c.phase
