-- When a turn issues an instruction, when mcycle counts it, and what a turn without an act leaves.
use Rattle.std.proofs.Common.{◌≡◌, ◌==◌, ◌≢◌, ℕ, ◌+◌, ◌-◌, ◌%◌, ◌^◌, Bool, true, false, ◌&&◌, ◌||◌, Option, Some, None, IfSome, refl, ap, arith, sym, ◌∙◌, if◌then◌else◌}
use Rattle.std.specs.Prelude.{is_some}
use Rattle.std.specs.Option.{option_and_then}
use mathlib.Core.Bool.{not}
use Rattle.csr_file.proofs.Laws.{write_leaves_mcycle}
use Rattle.csr_file.specs.State.{CsrsState}
use Rattle.csr_file.specs.Table.{after_write, csr_at, csr_row, read_at, writable}
use Rattle.csr_file.specs.Traps.{after_tick, pending_in, returned, trapped, wakes_in}
use Rattle.csr_file.specs.declared.names.Csr.{Csr}
use Rattle.csr_file.specs.declared.names.Csr.TheVariants.{Mcycle, Mcycleh}
use Rattle.soc_bus.specs.Memory.{MemoryState}
use Rattle.soc_words.specs.Word.{wrapped_sum}
use Rattle.rv_decode.specs.Parcels.{expanded, length_of}
use Rattle.rv_decode.specs.Rows.{decoded}
use Rattle.rv_decode.specs.declared.instr.Instr.{Instr}
use Rattle.rv_decode.specs.declared.instr.Op.{Op}
use Rattle.rv_decode.specs.declared.instr.Op.TheVariants.{Csrrw, Csrrs, Csrrc, Csrrwi, Csrrsi, Csrrci}
use Rattle.core_pair.specs.declared.fetch.Fetched.{Fetched}
use Rattle.core_pair.specs.declared.fetch.Fetched.TheVariants.{Absent, Parcel, Word}
use Rattle.core_pair.specs.declared.phase.Phase.{Phase}
use Rattle.core_pair.specs.declared.phase.Phase.TheVariants.{Run, Want, Sleep, Parked, Monitor}
use Rattle.core_pair.specs.Core.{CoreState, hart_of}
use Rattle.core_pair.specs.CsrRows.{csr_operand, csr_word, csr_writes}
use Rattle.core_pair.specs.Execute.{counted, counted_by, csr_done, csr_written, cycles, exec, executed, illegal}
use Rattle.core_pair.specs.Fetch.{fetched_at, fetched_by, half_at, word_with}
use Rattle.core_pair.specs.Hart.{HartState, Outcome, completed, completes, entered, retired, retires}
use Rattle.core_pair.specs.Turn.{Turned, acted, acted_by, idle, issued_by, ticked, turned, turned_in}
use Rattle.core_pair.specs.TurnLaws.{NamesNoMcycle, acts, acts_in, counts_turns, is_whole, is_whole_by, waited}

-- an instruction is issued exactly where its halves are there
by_length : (c : CoreState) (now mip low address : ℕ) (b : Bool) (second : Option ℕ) → is_some (issued_by c now mip (if b then Parcel low else word_with low address second)).issued ≡ (b || is_some second)
by_length c now mip low address true second = refl
by_length c now mip low address false None = refl
by_length c now mip low address false (Some high) = refl

by_half : (c : CoreState) (now mip : ℕ) (m : MemoryState) (address : ℕ) (o : Option ℕ) → is_some (issued_by c now mip (fetched_by m address o)).issued ≡ is_whole_by m address o
by_half c now mip m address None = refl
by_half c now mip m address (Some low) = by_length c now mip low (wrapped_sum address 2) (length_of low == 2) (half_at m (wrapped_sum address 2))

by_whole : (c : CoreState) (now mip : ℕ) (m : MemoryState) (address : ℕ) → is_some (issued_by c now mip (fetched_at m address)).issued ≡ is_whole m address
unfolding fetched_at
by_whole c now mip m address = by_half c now mip m address (half_at m address)

by_cause : (c : CoreState) (now mip : ℕ) (m : MemoryState) (o : Option ℕ) → is_some (acted_by c now mip m o).issued ≡ (not (is_some o) && is_whole m c.pc)
by_cause c now mip m (Some cause) = refl
by_cause c now mip m None = by_whole c now mip m c.pc

by_acting : (c : CoreState) (now mip : ℕ) (m : MemoryState) → is_some (acted c now mip m).issued ≡ (not (is_some (pending_in c.csrs mip)) && is_whole m c.pc)
unfolding acted
by_acting c now mip m = by_cause c now mip m (pending_in c.csrs mip)

-- the choice between two turns, of which the second issues nothing
by_choice : (b rest : Bool) (t u : Turned) → is_some t.issued ≡ rest → is_some u.issued ≡ false → is_some (if b then t else u).issued ≡ (b && rest)
by_choice true rest t u h k = h
by_choice false rest t u h k = k

by_sleep : (b wakes rest : Bool) (t u v : Turned) → is_some t.issued ≡ rest → is_some u.issued ≡ false → is_some v.issued ≡ false → is_some (if b then (if wakes then t else u) else v).issued ≡ (b && wakes && rest)
by_sleep true wakes rest t u v h k l = by_choice wakes rest t u h k
by_sleep false wakes rest t u v h k l = l

by_phase : (c : CoreState) (now mip : ℕ) (m : MemoryState) (p : Phase) → is_some (turned_in c now mip m p).issued ≡ (acts_in (ticked c) mip p && (not (is_some (pending_in (ticked c).csrs mip)) && is_whole m c.pc))
by_phase c now mip m (Run left) = by_choice (left == 0) (not (is_some (pending_in (ticked c).csrs mip)) && is_whole m c.pc) (acted (ticked c) now mip m) _ (by_acting (ticked c) now mip m) refl
by_phase c now mip m (Want request) = refl
by_phase c now mip m (Sleep left) = by_sleep (left == 0) (wakes_in (ticked c).csrs mip) (not (is_some (pending_in (ticked c).csrs mip)) && is_whole m c.pc) (acted (ticked c) now mip m) (idle (ticked c)) _ (by_acting (ticked c) now mip m) refl refl
by_phase c now mip m Parked = refl
by_phase c now mip m Monitor = refl

wakes_ticked : (s : CsrsState) (mip : ℕ) → wakes_in (after_tick s) mip ≡ wakes_in s mip
unfolding wakes_in
wakes_ticked s mip = refl

pending_ticked : (s : CsrsState) (mip : ℕ) → pending_in (after_tick s) mip ≡ pending_in s mip
unfolding pending_in
pending_ticked s mip = refl

acts_ticked : (c : CoreState) (mip : ℕ) (p : Phase) → acts_in (ticked c) mip p ≡ acts_in c mip p
acts_ticked c mip (Run left) = refl
acts_ticked c mip (Want request) = refl
acts_ticked c mip (Sleep left) = ap (λ b. (left == 0) && b) (wakes_ticked c.csrs mip)
acts_ticked c mip Parked = refl
acts_ticked c mip Monitor = refl

-- serves the clause `issues` of a turn
pub issues : (c : CoreState) (now mip : ℕ) (m : MemoryState) → is_some (turned c now mip m).issued ≡ (acts c mip && (not (is_some (pending_in c.csrs mip)) && is_whole m c.pc))
unfolding turned
issues c now mip m =
    by_phase c now mip m c.phase
    ∙ ap (λ a. a && (not (is_some (pending_in (ticked c).csrs mip)) && is_whole m c.pc)) (acts_ticked c mip c.phase)
    ∙ ap (λ o. acts c mip && (not (is_some o) && is_whole m c.pc)) (pending_ticked c.csrs mip)

-- a turn without an act
waits_run : (c : CoreState) (now mip : ℕ) (m : MemoryState) (left : ℕ) (b : Bool) → b ≡ false → (if b then acted (ticked c) now mip m else idle (record (ticked c) { phase = Run (left - 1) })).after ≡ record c { csrs = after_tick c.csrs; phase = Run (left - 1) }
waits_run c now mip m left true h = grind arith
waits_run c now mip m left false h = refl

zero_left : (left : ℕ) → (left == 0) ≡ true → left - 1 ≡ left
zero_left left h = grind arith

waits_asleep : (c : CoreState) (now mip : ℕ) (m : MemoryState) (left : ℕ) (b wakes : Bool) → c.phase ≡ Sleep left → (b ≡ true → left - 1 ≡ left) → (b && wakes) ≡ false → (if b then (if wakes then acted (ticked c) now mip m else idle (ticked c)) else idle (record (ticked c) { phase = Sleep (left - 1) })).after ≡ record c { csrs = after_tick c.csrs; phase = Sleep (left - 1) }
waits_asleep c now mip m left true true at zero h = grind arith
waits_asleep c now mip m left true false at zero h = ap (λ p. record (ticked c) { phase = p }) (at ∙ ap Sleep (sym (zero refl)))
waits_asleep c now mip m left false wakes at zero h = refl

waits_by : (c : CoreState) (now mip : ℕ) (m : MemoryState) (p : Phase) → c.phase ≡ p → acts_in (ticked c) mip p ≡ false → counts_turns p ≡ true → (turned_in c now mip m p).after ≡ record c { csrs = after_tick c.csrs; phase = waited p }
waits_by c now mip m (Run left) at h counting = waits_run c now mip m left (left == 0) h
waits_by c now mip m (Want request) at h counting = ap (λ p. record (ticked c) { phase = p }) at
waits_by c now mip m (Sleep left) at h counting = waits_asleep c now mip m left (left == 0) (wakes_in (ticked c).csrs mip) at (zero_left left) h
waits_by c now mip m Parked at h counting = grind arith
waits_by c now mip m Monitor at h counting = grind arith

-- serves the clause `busy` of a turn
pub waits : (c : CoreState) (now mip : ℕ) (m : MemoryState) → acts c mip ≡ false → counts_turns c.phase ≡ true → (turned c now mip m).after ≡ record c { csrs = after_tick c.csrs; phase = waited c.phase }
unfolding turned
waits c now mip m h counting = waits_by c now mip m c.phase refl (acts_ticked c mip c.phase ∙ h) counting

-- an instruction that names no half of mcycle leaves it
choice_leaves : (n : ℕ) (b : Bool) (o p : Outcome) → o.hart.csrs.mcycle ≡ n → p.hart.csrs.mcycle ≡ n → (if b then o else p).hart.csrs.mcycle ≡ n
choice_leaves n true o p h k = h
choice_leaves n false o p h k = k

counted_leaves : (s : CsrsState) (o : Option Csr) → (counted_by s o).mcycle ≡ s.mcycle
counted_leaves s o = grind arith

trap_leaves : (h : HartState) (word : ℕ) → (illegal h word).hart.csrs.mcycle ≡ h.csrs.mcycle
unfolding entered trapped
trap_leaves h word = refl

retire_leaves : (h : HartState) (rd value next cycles : ℕ) → (retires h rd value next cycles).hart.csrs.mcycle ≡ h.csrs.mcycle
unfolding retired completed
retire_leaves h rd value next cycles = refl

complete_leaves : (h : HartState) (rd value next cycles : ℕ) → (completes h rd value next cycles).hart.csrs.mcycle ≡ h.csrs.mcycle
unfolding completed
complete_leaves h rd value next cycles = refl

csr_leaves : (h : HartState) (i : Instr) (word next : ℕ) (o : Option ℕ) → i.csr ≢ (csr_row Mcycle).number → i.csr ≢ (csr_row Mcycleh).number → (csr_done h i word next o).hart.csrs.mcycle ≡ h.csrs.mcycle
csr_leaves h i word next None low_apart high_apart = trap_leaves h word
csr_leaves h i word next (Some old) low_apart high_apart =
    let value = csr_word i.op old (csr_operand h i) in
    let s = after_write h.csrs i.csr value in
    choice_leaves h.csrs.mcycle (csr_writes i) (csr_written h i word next old) (retires h i.rd old next (cycles i))
    (choice_leaves h.csrs.mcycle (writable i.csr) (completes (record h { csrs = counted s i.csr }) i.rd old next (cycles i)) (illegal h word)
    (complete_leaves (record h { csrs = counted s i.csr }) i.rd old next (cycles i) ∙ counted_leaves s (csr_at i.csr) ∙ write_leaves_mcycle h.csrs i.csr value low_apart high_apart)
    (trap_leaves h word))
    (retire_leaves h i.rd old next (cycles i))

exec_leaves : (h : HartState) (i : Instr) (word next mip : ℕ) (op : Op) → i.csr ≢ (csr_row Mcycle).number → i.csr ≢ (csr_row Mcycleh).number → (exec h i word next mip op).hart.csrs.mcycle ≡ h.csrs.mcycle
unfolding retired completed entered trapped returned
exec_leaves h i word next mip Csrrw low_apart high_apart = csr_leaves h i word next (read_at h.csrs i.csr mip) low_apart high_apart
exec_leaves h i word next mip Csrrs low_apart high_apart = csr_leaves h i word next (read_at h.csrs i.csr mip) low_apart high_apart
exec_leaves h i word next mip Csrrc low_apart high_apart = csr_leaves h i word next (read_at h.csrs i.csr mip) low_apart high_apart
exec_leaves h i word next mip Csrrwi low_apart high_apart = csr_leaves h i word next (read_at h.csrs i.csr mip) low_apart high_apart
exec_leaves h i word next mip Csrrsi low_apart high_apart = csr_leaves h i word next (read_at h.csrs i.csr mip) low_apart high_apart
exec_leaves h i word next mip Csrrci low_apart high_apart = csr_leaves h i word next (read_at h.csrs i.csr mip) low_apart high_apart
exec_leaves h i word next mip _ low_apart high_apart = refl

instr_leaves : (c : CoreState) (o : Option Instr) (word length mip : ℕ) → IfSome o (λ i. (i.csr ≢ (csr_row Mcycle).number) × (i.csr ≢ (csr_row Mcycleh).number)) → (executed c o word length mip).csrs.mcycle ≡ c.csrs.mcycle
unfolding executed
instr_leaves c None word length mip h = trap_leaves (hart_of c) word
instr_leaves c (Some i) word length mip h = exec_leaves (hart_of c) i word (wrapped_sum c.pc length) mip i.op h.0 h.1

fetch_leaves : (c : CoreState) (now mip : ℕ) (f : Fetched) → (IfSome (issued_by c now mip f).issued (λ r. NamesNoMcycle f)) → (issued_by c now mip f).after.csrs.mcycle ≡ c.csrs.mcycle
fetch_leaves c now mip (Absent address) h = unfold entered trapped in refl
fetch_leaves c now mip (Parcel parcel) h = instr_leaves c (option_and_then decoded (expanded parcel)) parcel 2 mip h
fetch_leaves c now mip (Word word) h = instr_leaves c (decoded word) word 4 mip h

cause_leaves : (c : CoreState) (now mip : ℕ) (m : MemoryState) (o : Option ℕ) → (IfSome (acted_by c now mip m o).issued (λ r. NamesNoMcycle (fetched_at m c.pc))) → (acted_by c now mip m o).after.csrs.mcycle ≡ c.csrs.mcycle
cause_leaves c now mip m (Some cause) h = unfold entered trapped in refl
cause_leaves c now mip m None h = fetch_leaves c now mip (fetched_at m c.pc) h

act_leaves : (c : CoreState) (now mip : ℕ) (m : MemoryState) → (IfSome (acted c now mip m).issued (λ r. NamesNoMcycle (fetched_at m c.pc))) → (acted c now mip m).after.csrs.mcycle ≡ c.csrs.mcycle
unfolding acted
act_leaves c now mip m h = cause_leaves c now mip m (pending_in c.csrs mip) h

-- mcycle after a choice between two turns
turn_leaves : (P : Type 0) (n : ℕ) (b : Bool) (t u : Turned) → (IfSome t.issued (λ r. P) → t.after.csrs.mcycle ≡ n) → (IfSome u.issued (λ r. P) → u.after.csrs.mcycle ≡ n) → IfSome (if b then t else u).issued (λ r. P) → (if b then t else u).after.csrs.mcycle ≡ n
turn_leaves P n true t u h k issued = h issued
turn_leaves P n false t u h k issued = k issued

counts_by : (c : CoreState) (now mip : ℕ) (m : MemoryState) (p : Phase) → IfSome (turned_in c now mip m p).issued (λ r. NamesNoMcycle (fetched_at m c.pc)) → (turned_in c now mip m p).after.csrs.mcycle ≡ (if counts_turns p then (c.csrs.mcycle + 1) % 2 ^ 64 else c.csrs.mcycle)
counts_by c now mip m (Run left) h =
    turn_leaves (NamesNoMcycle (fetched_at m c.pc)) (after_tick c.csrs).mcycle (left == 0) (acted (ticked c) now mip m) (idle (record (ticked c) { phase = Run (left - 1) })) (act_leaves (ticked c) now mip m) (λ none. refl) h
counts_by c now mip m (Want request) h = refl
counts_by c now mip m (Sleep left) h =
    turn_leaves (NamesNoMcycle (fetched_at m c.pc)) (after_tick c.csrs).mcycle (left == 0) (if wakes_in (ticked c).csrs mip then acted (ticked c) now mip m else idle (ticked c)) (idle (record (ticked c) { phase = Sleep (left - 1) }))
    (turn_leaves (NamesNoMcycle (fetched_at m c.pc)) (after_tick c.csrs).mcycle (wakes_in (ticked c).csrs mip) (acted (ticked c) now mip m) (idle (ticked c)) (act_leaves (ticked c) now mip m) (λ none. refl))
    (λ none. refl) h
counts_by c now mip m Parked h = refl
counts_by c now mip m Monitor h = refl

-- serves the clause `counts` of a turn
pub counts : (c : CoreState) (now mip : ℕ) (m : MemoryState) → IfSome (turned c now mip m).issued (λ r. NamesNoMcycle (fetched_at m c.pc)) → (turned c now mip m).after.csrs.mcycle ≡ (if counts_turns c.phase then (c.csrs.mcycle + 1) % 2 ^ 64 else c.csrs.mcycle)
unfolding turned
counts c now mip m h = counts_by c now mip m c.phase h
