-- A definition: what a row does to its CSR, by the rows of the instruction table.
use Rattle.std.specs.Prelude.{◌==◌, ℕ, Bool, true, false, Option, Some, None, slice_index, bit_and, bit_or, if◌then◌else◌}
use Rattle.std.specs.Int.{w32, bit_not}
use Rattle.std.specs.Option.{option_map_or}
use mathlib.Core.Bool.{not}
use Rattle.rv_decode.specs.declared.instr.Instr.{Instr}
use Rattle.rv_decode.specs.declared.instr.Op.{Op}
use Rattle.rv_decode.specs.declared.format.Format.{Format}
use Rattle.rv_decode.specs.declared.format.Format.TheVariants.{Register, Immediate, Shift, Offset, Store, Branch, Upper, Jump, Csr, CsrNumber, Bare}
use Rattle.rv_decode.specs.declared.effect.Does.{Does}
use Rattle.rv_decode.specs.declared.effect.Does.TheVariants.{Computes, PutsUpper, Branches, Jumps, Loads, Stores, Fences, UsesCsr, Traps, Returns, Sleeps}
use Rattle.rv_decode.specs.declared.effect.CsrChange.{CsrChange}
use Rattle.rv_decode.specs.declared.effect.CsrChange.TheVariants.{Replace, SetBits, ClearBits}
use Rattle.rv_decode.specs.Rows.{row_of}
use Rattle.core_pair.specs.Hart.{HartState}

-- the change that a row makes to its CSR
abbrev pub csr_change : Does → Option CsrChange
csr_change (Computes f) = None
csr_change PutsUpper = None
csr_change (Branches c) = None
csr_change Jumps = None
csr_change Loads = None
csr_change Stores = None
csr_change Fences = None
csr_change (UsesCsr change) = Some change
csr_change Traps = None
csr_change Returns = None
csr_change Sleeps = None

-- the operand of a CSR row of the format is a number of five bits, and not a register
abbrev pub takes_number : Format → Bool
takes_number Register = false
takes_number Immediate = false
takes_number Shift = false
takes_number Offset = false
takes_number Store = false
takes_number Branch = false
takes_number Upper = false
takes_number Jump = false
takes_number Csr = false
takes_number CsrNumber = true
takes_number Bare = false

-- the operand of a CSR row: five bits of the instruction, or a register
abbrev pub csr_operand : HartState → Instr → ℕ
csr_operand h i = if takes_number (row_of i.op).format then i.imm else slice_index h.regs i.rs1

-- the word that a change makes of a CSR's, by the operand
abbrev pub changed_word : CsrChange → ℕ → ℕ → ℕ
changed_word Replace old operand = operand
changed_word SetBits old operand = bit_or old operand
changed_word ClearBits old operand = bit_and old (bit_not w32 operand)

-- the word that a CSR row writes; every other row leaves the word
abbrev pub csr_word : Op → ℕ → ℕ → ℕ
csr_word op old operand = option_map_or (λ change. changed_word change old operand) (csr_change (row_of op).does) old

-- a change is made: one that sets or clears bits isn't where the register's number or the five bits are 0
abbrev pub is_made : CsrChange → ℕ → Bool
is_made Replace source = true
is_made SetBits source = not (source == 0)
is_made ClearBits source = not (source == 0)

-- the five bits that a CSR row has for its operand: a number, or that of a register
abbrev pub csr_source : Instr → ℕ
csr_source i = if takes_number (row_of i.op).format then i.imm else i.rs1

-- whether a row writes its CSR
abbrev pub csr_writes : Instr → Bool
csr_writes i = option_map_or (λ change. is_made change (csr_source i)) (csr_change (row_of i.op).does) false
