-- A hart keeps its number in whatever its core does.
use Rattle.std.proofs.Common.{◌≡◌, ◌==◌, ℕ, ◌-◌, Bool, true, false, Option, Some, None, Result, Ok, Err, refl, ◌∙◌, arith, if◌then◌else◌}
use Rattle.std.specs.Option.{option_and_then}
use Rattle.core_pair.specs.Access.{core_answered, core_granted, granted_in}
use Rattle.core_pair.specs.Core.{CoreState, hart_of}
use Rattle.core_pair.specs.CsrRows.{csr_operand, csr_word, csr_writes}
use Rattle.core_pair.specs.Execute.{counted, counted_by, csr_done, csr_written, cycles, exec, executed, illegal}
use Rattle.core_pair.specs.Fetch.{fetched_at}
use Rattle.core_pair.specs.Hart.{HartState, Outcome, completed, completes, entered, retired, retires, traps}
use Rattle.core_pair.specs.Turn.{Turned, acted, acted_by, idle, issued_by, ticked, turned, turned_in}
use Rattle.core_pair.specs.declared.fetch.Fetched.{Fetched}
use Rattle.core_pair.specs.declared.fetch.Fetched.TheVariants.{Absent, Parcel, Word}
use Rattle.core_pair.specs.declared.phase.Phase.{Phase}
use Rattle.core_pair.specs.declared.phase.Phase.TheVariants.{Run, Want, Sleep, Parked, Monitor}
use Rattle.csr_file.specs.State.{CsrsState}
use Rattle.csr_file.specs.Table.{after_write, after_write_in, csr_at, read_at, with_word, writable}
use Rattle.csr_file.specs.Traps.{pending_in, returned, trapped, wakes_in}
use Rattle.csr_file.specs.declared.names.Csr.{Csr}
use Rattle.rv_decode.specs.Parcels.{expanded}
use Rattle.rv_decode.specs.Rows.{decoded}
use Rattle.rv_decode.specs.declared.instr.Instr.{Instr}
use Rattle.rv_decode.specs.declared.instr.Op.{Op}
use Rattle.rv_decode.specs.declared.instr.Op.TheVariants.{Csrrw, Csrrs, Csrrc, Csrrwi, Csrrsi, Csrrci}
use Rattle.soc_bus.specs.Memory.{MemoryState}
use Rattle.soc_bus.specs.declared.access.BusFault.{BusFault}
use Rattle.soc_bus.specs.declared.access.Request.{Request}
use Rattle.soc_words.specs.Word.{wrapped_sum}

choice_keeps : (n : ℕ) (b : Bool) (o p : Outcome) → o.hart.csrs.hart ≡ n → p.hart.csrs.hart ≡ n → (if b then o else p).hart.csrs.hart ≡ n
choice_keeps n true o p h k = h
choice_keeps n false o p h k = k

trap_keeps : (h : HartState) (cause value : ℕ) → (traps h cause value).hart.csrs.hart ≡ h.csrs.hart
unfolding entered trapped
trap_keeps h cause value = refl

retire_keeps : (h : HartState) (rd value next cycles : ℕ) → (retires h rd value next cycles).hart.csrs.hart ≡ h.csrs.hart
unfolding retired completed
retire_keeps h rd value next cycles = refl

complete_keeps : (h : HartState) (rd value next cycles : ℕ) → (completes h rd value next cycles).hart.csrs.hart ≡ h.csrs.hart
unfolding completed
complete_keeps h rd value next cycles = refl

counted_keeps : (s : CsrsState) (o : Option Csr) → (counted_by s o).hart ≡ s.hart
counted_keeps s o = grind arith

word_keeps : (s : CsrsState) (c : Csr) (word : ℕ) → (with_word s c word).hart ≡ s.hart
word_keeps s c word = grind arith

write_in_keeps : (s : CsrsState) (o : Option Csr) (value : ℕ) → (after_write_in s o value).hart ≡ s.hart
write_in_keeps s None value = refl
write_in_keeps s (Some c) value = word_keeps s c _

write_keeps : (s : CsrsState) (number value : ℕ) → (after_write s number value).hart ≡ s.hart
unfolding after_write
write_keeps s number value = write_in_keeps s (csr_at number) value

csr_keeps : (h : HartState) (i : Instr) (word next : ℕ) (o : Option ℕ) → (csr_done h i word next o).hart.csrs.hart ≡ h.csrs.hart
csr_keeps h i word next None = trap_keeps h _ word
csr_keeps h i word next (Some old) =
    let value = csr_word i.op old (csr_operand h i) in
    let s = after_write h.csrs i.csr value in
    choice_keeps h.csrs.hart (csr_writes i) (csr_written h i word next old) (retires h i.rd old next (cycles i))
    (choice_keeps h.csrs.hart (writable i.csr) (completes (record h { csrs = counted s i.csr }) i.rd old next (cycles i)) (illegal h word)
    (complete_keeps (record h { csrs = counted s i.csr }) i.rd old next (cycles i) ∙ counted_keeps s (csr_at i.csr) ∙ write_keeps h.csrs i.csr value)
    (trap_keeps h _ word))
    (retire_keeps h i.rd old next (cycles i))

exec_keeps : (h : HartState) (i : Instr) (word next mip : ℕ) (op : Op) → (exec h i word next mip op).hart.csrs.hart ≡ h.csrs.hart
unfolding retired completed entered trapped returned
exec_keeps h i word next mip Csrrw = csr_keeps h i word next (read_at h.csrs i.csr mip)
exec_keeps h i word next mip Csrrs = csr_keeps h i word next (read_at h.csrs i.csr mip)
exec_keeps h i word next mip Csrrc = csr_keeps h i word next (read_at h.csrs i.csr mip)
exec_keeps h i word next mip Csrrwi = csr_keeps h i word next (read_at h.csrs i.csr mip)
exec_keeps h i word next mip Csrrsi = csr_keeps h i word next (read_at h.csrs i.csr mip)
exec_keeps h i word next mip Csrrci = csr_keeps h i word next (read_at h.csrs i.csr mip)
exec_keeps h i word next mip _ = refl

instr_keeps : (c : CoreState) (o : Option Instr) (word length mip : ℕ) → (executed c o word length mip).csrs.hart ≡ c.csrs.hart
unfolding executed
instr_keeps c None word length mip = trap_keeps (hart_of c) _ word
instr_keeps c (Some i) word length mip = exec_keeps (hart_of c) i word (wrapped_sum c.pc length) mip i.op

fetch_keeps : (c : CoreState) (now mip : ℕ) (f : Fetched) → (issued_by c now mip f).after.csrs.hart ≡ c.csrs.hart
fetch_keeps c now mip (Absent address) = trap_keeps (hart_of c) _ address
fetch_keeps c now mip (Parcel parcel) = instr_keeps c (option_and_then decoded (expanded parcel)) parcel 2 mip
fetch_keeps c now mip (Word word) = instr_keeps c (decoded word) word 4 mip

cause_keeps : (c : CoreState) (now mip : ℕ) (m : MemoryState) (o : Option ℕ) → (acted_by c now mip m o).after.csrs.hart ≡ c.csrs.hart
cause_keeps c now mip m (Some cause) = trap_keeps (hart_of c) cause 0
cause_keeps c now mip m None = fetch_keeps c now mip (fetched_at m c.pc)

act_keeps : (c : CoreState) (now mip : ℕ) (m : MemoryState) → (acted c now mip m).after.csrs.hart ≡ c.csrs.hart
unfolding acted
act_keeps c now mip m = cause_keeps c now mip m (pending_in c.csrs mip)

either_keeps : (n : ℕ) (b : Bool) (t u : Turned) → t.after.csrs.hart ≡ n → u.after.csrs.hart ≡ n → (if b then t else u).after.csrs.hart ≡ n
either_keeps n true t u h k = h
either_keeps n false t u h k = k

phase_keeps : (c : CoreState) (now mip : ℕ) (m : MemoryState) (p : Phase) → (turned_in c now mip m p).after.csrs.hart ≡ c.csrs.hart
phase_keeps c now mip m (Run left) =
    either_keeps c.csrs.hart (left == 0) (acted (ticked c) now mip m) (idle (record (ticked c) { phase = Run (left - 1) })) (act_keeps (ticked c) now mip m) refl
phase_keeps c now mip m (Want request) = refl
phase_keeps c now mip m (Sleep left) =
    either_keeps c.csrs.hart (left == 0) (if wakes_in (ticked c).csrs mip then acted (ticked c) now mip m else idle (ticked c)) (idle (record (ticked c) { phase = Sleep (left - 1) }))
    (either_keeps c.csrs.hart (wakes_in (ticked c).csrs mip) (acted (ticked c) now mip m) (idle (ticked c)) (act_keeps (ticked c) now mip m) refl) refl
phase_keeps c now mip m Parked = refl
phase_keeps c now mip m Monitor = refl

-- a turn
pub turn_keeps : (c : CoreState) (now mip : ℕ) (m : MemoryState) → (turned c now mip m).after.csrs.hart ≡ c.csrs.hart
unfolding turned
turn_keeps c now mip m = phase_keeps c now mip m c.phase

answer_keeps : (c : CoreState) (r : Request) (answer : Result ℕ BusFault) → (core_answered c r answer).csrs.hart ≡ c.csrs.hart
answer_keeps c r (Ok value) = retire_keeps (hart_of c) _ _ _ 5
answer_keeps c r (Err fault) = trap_keeps (hart_of c) _ r.addr

grant_in_keeps : (c : CoreState) (answer : Result ℕ BusFault) (p : Phase) → (granted_in c answer p).csrs.hart ≡ c.csrs.hart
grant_in_keeps c answer (Want request) = answer_keeps c request answer
grant_in_keeps c answer (Run left) = refl
grant_in_keeps c answer (Sleep left) = refl
grant_in_keeps c answer Parked = refl
grant_in_keeps c answer Monitor = refl

-- a grant
pub grant_keeps : (c : CoreState) (answer : Result ℕ BusFault) → (core_granted c answer).csrs.hart ≡ c.csrs.hart
unfolding core_granted
grant_keeps c answer = grant_in_keeps c answer c.phase
