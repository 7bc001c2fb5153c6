-- A definition: what an instruction does, by the rows of the instruction table.
use Rattle.std.specs.Prelude.{ℕ, ◌-◌, ◌*◌, ◌/◌, ◌%◌, Bool, true, false, Option, Some, None, slice_index, if◌then◌else◌}
use Rattle.soc_words.specs.Word.{wrapped_sum}
use Rattle.soc_bus.specs.declared.access.Width.TheVariants.{Byte, Half, Word}
use Rattle.rv_decode.specs.declared.instr.Instr.{Instr}
use Rattle.rv_decode.specs.declared.instr.Op.{Op}
use Rattle.rv_decode.specs.declared.instr.Op.TheVariants.{Addi, Slti, Sltiu, Xori, Ori, Andi, Slli, Srli, Srai, Add, Sll, Slt, Sltu, Xor, Srl, Or, And, Sub, Sra, Mul, Mulh, Mulhsu, Mulhu, Div, Divu, Rem, Remu, Lui, Auipc, Jal, Jalr, Beq, Bne, Blt, Bge, Bltu, Bgeu, Lb, Lh, Lw, Lbu, Lhu, Sb, Sh, Sw, Fence, FenceI, Csrrw, Csrrs, Csrrc, Csrrwi, Csrrsi, Csrrci, Ecall, Ebreak, Mret, Wfi}
use Rattle.rv_exec.specs.Alu.{alu_of, is_alu_immediate, is_branch, taken_at}
use Rattle.rv_exec.specs.Cost.{cost_of}
use Rattle.csr_file.specs.Causes.{cause_of}
use Rattle.csr_file.specs.State.{CsrsState}
use Rattle.csr_file.specs.Table.{csr_at, read_at, after_write, writable}
use Rattle.csr_file.specs.Traps.{after_retire, returned}
use Rattle.csr_file.specs.declared.causes.Exception.TheVariants.{IllegalInstruction, Breakpoint, EnvironmentCall}
use Rattle.csr_file.specs.declared.names.Csr.{Csr}
use Rattle.csr_file.specs.declared.names.Csr.TheVariants.{Minstret, Minstreth}
use Rattle.core_pair.specs.declared.phase.Awaited.{Awaited}
use Rattle.core_pair.specs.declared.phase.Phase.{Phase}
use Rattle.core_pair.specs.declared.phase.Phase.TheVariants.{Run, Want, Sleep}
use Rattle.core_pair.specs.Core.{CoreState, busy_after, hart_of}
use Rattle.core_pair.specs.CsrRows.{csr_operand, csr_word, csr_writes}
use Rattle.core_pair.specs.Hart.{HartState, Outcome, completes, retires, traps}
use Rattle.core_pair.specs.Access.{load_awaited, load_request, store_awaited, store_request}

-- the row goes to an address that is its own and its immediate
abbrev pub is_jump : Op → Bool
is_jump Jal = true
is_jump op = is_branch op

-- the second operand of an arithmetic row
abbrev pub second_operand : HartState → Instr → ℕ
second_operand h i = if is_alu_immediate i.op then i.imm else slice_index h.regs i.rs2

-- the cycles of a row that is neither a shift nor a branch
abbrev pub cycles : Instr → ℕ
cycles i = cost_of i.op 0 false

-- an arithmetic row
abbrev pub computed : HartState → Instr → ℕ → Outcome
computed h i next =
    let b = second_operand h i in
    retires h i.rd (alu_of i.op (slice_index h.regs i.rs1) b) next (cost_of i.op (b % 32) false)

-- a branch row
abbrev pub branched : HartState → Instr → ℕ → Outcome
branched h i next =
    let taken = taken_at i.op (slice_index h.regs i.rs1) (slice_index h.regs i.rs2) in
    retires h 0 0 (if taken then wrapped_sum h.pc i.imm else next) (cost_of i.op 0 taken)

-- an instruction that wrote minstret or minstreth isn't counted
abbrev pub counted_by : CsrsState → Option Csr → CsrsState
counted_by csrs (Some Minstret) = csrs
counted_by csrs (Some Minstreth) = csrs
counted_by csrs _ = after_retire csrs

-- the CSRs after an instruction that wrote a number
abbrev pub counted : CsrsState → ℕ → CsrsState
counted csrs number = counted_by csrs (csr_at number)

-- an illegal instruction
abbrev pub illegal : HartState → ℕ → Outcome
illegal h word = traps h (cause_of IllegalInstruction) word

-- a CSR row that writes, where its CSR holds `old`
abbrev pub csr_written : HartState → Instr → ℕ → ℕ → ℕ → Outcome
csr_written h i word next old =
    if writable i.csr then
    completes (record h { csrs = counted (after_write h.csrs i.csr (csr_word i.op old (csr_operand h i))) i.csr }) i.rd old next (cycles i)
    else illegal h word

-- a CSR row, by what a read of its CSR gives; it is illegal where there is no such CSR
abbrev pub csr_done : HartState → Instr → ℕ → ℕ → Option ℕ → Outcome
csr_done h i word next None = illegal h word
csr_done h i word next (Some old) =
    if csr_writes i then csr_written h i word next old else retires h i.rd old next (cycles i)

-- a load or store: nothing of the hart changes before its grant
abbrev pub accesses : HartState → Instr → Outcome
accesses h i = record { hart = h; cycles = cycles i }

-- what an instruction does to its hart, whatever phase the core is in, and the cycles that it takes (of a load or store those from
-- its grant). It was issued from `word`, `next` is the address after it, and `mip` is what the interrupt lines give
abbrev pub exec : HartState → Instr → ℕ → ℕ → ℕ → Op → Outcome
exec h i word next mip Lui = retires h i.rd i.imm next (cycles i)
exec h i word next mip Auipc = retires h i.rd (wrapped_sum h.pc i.imm) next (cycles i)
exec h i word next mip Jal = retires h i.rd next (wrapped_sum h.pc i.imm) (cycles i)
exec h i word next mip Jalr = retires h i.rd next (wrapped_sum (slice_index h.regs i.rs1) i.imm / 2 * 2) (cycles i)
exec h i word next mip Beq = branched h i next
exec h i word next mip Bne = branched h i next
exec h i word next mip Blt = branched h i next
exec h i word next mip Bge = branched h i next
exec h i word next mip Bltu = branched h i next
exec h i word next mip Bgeu = branched h i next
exec h i word next mip Lb = accesses h i
exec h i word next mip Lh = accesses h i
exec h i word next mip Lw = accesses h i
exec h i word next mip Lbu = accesses h i
exec h i word next mip Lhu = accesses h i
exec h i word next mip Sb = accesses h i
exec h i word next mip Sh = accesses h i
exec h i word next mip Sw = accesses h i
exec h i word next mip Addi = computed h i next
exec h i word next mip Slti = computed h i next
exec h i word next mip Sltiu = computed h i next
exec h i word next mip Xori = computed h i next
exec h i word next mip Ori = computed h i next
exec h i word next mip Andi = computed h i next
exec h i word next mip Slli = computed h i next
exec h i word next mip Srli = computed h i next
exec h i word next mip Srai = computed h i next
exec h i word next mip Add = computed h i next
exec h i word next mip Sll = computed h i next
exec h i word next mip Slt = computed h i next
exec h i word next mip Sltu = computed h i next
exec h i word next mip Xor = computed h i next
exec h i word next mip Srl = computed h i next
exec h i word next mip Or = computed h i next
exec h i word next mip And = computed h i next
exec h i word next mip Sub = computed h i next
exec h i word next mip Sra = computed h i next
exec h i word next mip Mul = computed h i next
exec h i word next mip Mulh = computed h i next
exec h i word next mip Mulhsu = computed h i next
exec h i word next mip Mulhu = computed h i next
exec h i word next mip Div = computed h i next
exec h i word next mip Divu = computed h i next
exec h i word next mip Rem = computed h i next
exec h i word next mip Remu = computed h i next
exec h i word next mip Fence = retires h 0 0 next (cycles i)
exec h i word next mip FenceI = retires h 0 0 next (cycles i)
exec h i word next mip Csrrw = csr_done h i word next (read_at h.csrs i.csr mip)
exec h i word next mip Csrrs = csr_done h i word next (read_at h.csrs i.csr mip)
exec h i word next mip Csrrc = csr_done h i word next (read_at h.csrs i.csr mip)
exec h i word next mip Csrrwi = csr_done h i word next (read_at h.csrs i.csr mip)
exec h i word next mip Csrrsi = csr_done h i word next (read_at h.csrs i.csr mip)
exec h i word next mip Csrrci = csr_done h i word next (read_at h.csrs i.csr mip)
exec h i word next mip Ecall = traps h (cause_of EnvironmentCall) 0
exec h i word next mip Ebreak = traps h (cause_of Breakpoint) h.pc
exec h i word next mip Mret = retires (record h { csrs = returned h.csrs }) 0 0 h.csrs.mepc (cycles i)
exec h i word next mip Wfi = retires h 0 0 next (cycles i)

-- what the core does after it issued an instruction: at a load or store it wants its access, at wfi it sleeps, and at every other
-- row it is busy for the rest of the cycles
abbrev pub phase_after : HartState → Instr → ℕ → Op → Phase
phase_after h i cycles Lb = Want (load_request h i Byte)
phase_after h i cycles Lh = Want (load_request h i Half)
phase_after h i cycles Lw = Want (load_request h i Word)
phase_after h i cycles Lbu = Want (load_request h i Byte)
phase_after h i cycles Lhu = Want (load_request h i Half)
phase_after h i cycles Sb = Want (store_request h i Byte)
phase_after h i cycles Sh = Want (store_request h i Half)
phase_after h i cycles Sw = Want (store_request h i Word)
phase_after h i cycles Wfi = Sleep (cycles - 1)
phase_after h i cycles Lui = Run (cycles - 1)
phase_after h i cycles Auipc = Run (cycles - 1)
phase_after h i cycles Jal = Run (cycles - 1)
phase_after h i cycles Jalr = Run (cycles - 1)
phase_after h i cycles Beq = Run (cycles - 1)
phase_after h i cycles Bne = Run (cycles - 1)
phase_after h i cycles Blt = Run (cycles - 1)
phase_after h i cycles Bge = Run (cycles - 1)
phase_after h i cycles Bltu = Run (cycles - 1)
phase_after h i cycles Bgeu = Run (cycles - 1)
phase_after h i cycles Addi = Run (cycles - 1)
phase_after h i cycles Slti = Run (cycles - 1)
phase_after h i cycles Sltiu = Run (cycles - 1)
phase_after h i cycles Xori = Run (cycles - 1)
phase_after h i cycles Ori = Run (cycles - 1)
phase_after h i cycles Andi = Run (cycles - 1)
phase_after h i cycles Slli = Run (cycles - 1)
phase_after h i cycles Srli = Run (cycles - 1)
phase_after h i cycles Srai = Run (cycles - 1)
phase_after h i cycles Add = Run (cycles - 1)
phase_after h i cycles Sll = Run (cycles - 1)
phase_after h i cycles Slt = Run (cycles - 1)
phase_after h i cycles Sltu = Run (cycles - 1)
phase_after h i cycles Xor = Run (cycles - 1)
phase_after h i cycles Srl = Run (cycles - 1)
phase_after h i cycles Or = Run (cycles - 1)
phase_after h i cycles And = Run (cycles - 1)
phase_after h i cycles Sub = Run (cycles - 1)
phase_after h i cycles Sra = Run (cycles - 1)
phase_after h i cycles Mul = Run (cycles - 1)
phase_after h i cycles Mulh = Run (cycles - 1)
phase_after h i cycles Mulhsu = Run (cycles - 1)
phase_after h i cycles Mulhu = Run (cycles - 1)
phase_after h i cycles Div = Run (cycles - 1)
phase_after h i cycles Divu = Run (cycles - 1)
phase_after h i cycles Rem = Run (cycles - 1)
phase_after h i cycles Remu = Run (cycles - 1)
phase_after h i cycles Fence = Run (cycles - 1)
phase_after h i cycles FenceI = Run (cycles - 1)
phase_after h i cycles Csrrw = Run (cycles - 1)
phase_after h i cycles Csrrs = Run (cycles - 1)
phase_after h i cycles Csrrc = Run (cycles - 1)
phase_after h i cycles Csrrwi = Run (cycles - 1)
phase_after h i cycles Csrrsi = Run (cycles - 1)
phase_after h i cycles Csrrci = Run (cycles - 1)
phase_after h i cycles Ecall = Run (cycles - 1)
phase_after h i cycles Ebreak = Run (cycles - 1)
phase_after h i cycles Mret = Run (cycles - 1)

-- what the core keeps until a grant; a row that is neither a load nor a store leaves it
abbrev pub awaited_after : Awaited → Instr → ℕ → Op → Awaited
awaited_after a i next Lb = load_awaited i next true
awaited_after a i next Lh = load_awaited i next true
awaited_after a i next Lw = load_awaited i next false
awaited_after a i next Lbu = load_awaited i next false
awaited_after a i next Lhu = load_awaited i next false
awaited_after a i next Sb = store_awaited next
awaited_after a i next Sh = store_awaited next
awaited_after a i next Sw = store_awaited next
awaited_after a i next Lui = a
awaited_after a i next Auipc = a
awaited_after a i next Jal = a
awaited_after a i next Jalr = a
awaited_after a i next Beq = a
awaited_after a i next Bne = a
awaited_after a i next Blt = a
awaited_after a i next Bge = a
awaited_after a i next Bltu = a
awaited_after a i next Bgeu = a
awaited_after a i next Addi = a
awaited_after a i next Slti = a
awaited_after a i next Sltiu = a
awaited_after a i next Xori = a
awaited_after a i next Ori = a
awaited_after a i next Andi = a
awaited_after a i next Slli = a
awaited_after a i next Srli = a
awaited_after a i next Srai = a
awaited_after a i next Add = a
awaited_after a i next Sll = a
awaited_after a i next Slt = a
awaited_after a i next Sltu = a
awaited_after a i next Xor = a
awaited_after a i next Srl = a
awaited_after a i next Or = a
awaited_after a i next And = a
awaited_after a i next Sub = a
awaited_after a i next Sra = a
awaited_after a i next Mul = a
awaited_after a i next Mulh = a
awaited_after a i next Mulhsu = a
awaited_after a i next Mulhu = a
awaited_after a i next Div = a
awaited_after a i next Divu = a
awaited_after a i next Rem = a
awaited_after a i next Remu = a
awaited_after a i next Fence = a
awaited_after a i next FenceI = a
awaited_after a i next Csrrw = a
awaited_after a i next Csrrs = a
awaited_after a i next Csrrc = a
awaited_after a i next Csrrwi = a
awaited_after a i next Csrrsi = a
awaited_after a i next Csrrci = a
awaited_after a i next Ecall = a
awaited_after a i next Ebreak = a
awaited_after a i next Mret = a
awaited_after a i next Wfi = a

-- the core after an instruction came to something
abbrev pub issued_to : CoreState → Instr → ℕ → Op → Outcome → CoreState
issued_to c i next op o = record {
  regs = o.hart.regs;
  pc = o.hart.pc;
  csrs = o.hart.csrs;
  phase = phase_after (hart_of c) i o.cycles op;
  awaited = awaited_after c.awaited i next op;
}

-- the core after an instruction
abbrev pub by_row : CoreState → Instr → ℕ → ℕ → ℕ → Op → CoreState
by_row c i word next mip op = issued_to c i next op (exec (hart_of c) i word next mip op)

-- the same, for an instruction of so many bytes; a word without a row is illegal
unfoldable pub executed : CoreState → Option Instr → ℕ → ℕ → ℕ → CoreState
executed c None word length mip = busy_after c (illegal (hart_of c) word)
executed c (Some i) word length mip = by_row c i word (wrapped_sum c.pc length) mip i.op
