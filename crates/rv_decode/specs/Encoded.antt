-- A definition: the word of an instruction.
use Rattle.std.specs.Prelude.{ℕ, ◌+◌, ◌*◌, ◌%◌, ◌^◌}
use Rattle.rv_decode.specs.Fields.{placed, s_bits, b_bits, u_bits, j_bits}
use Rattle.rv_decode.specs.declared.instr.Instr.{Instr}
use Rattle.rv_decode.specs.declared.format.Format.{Format}
use Rattle.rv_decode.specs.declared.format.Format.TheVariants.{Register, Immediate, Shift, Offset, Store, Branch, Upper, Jump, Csr, CsrNumber, Bare}
use Rattle.rv_decode.specs.Rows.{row_of, pattern_of}

-- an instruction's operands as they lie in a word
abbrev pub placed_operands : Format → Instr → ℕ
placed_operands Register i = i.rd * 2 ^ 7 + i.rs1 * 2 ^ 15 + i.rs2 * 2 ^ 20
placed_operands Immediate i = i.rd * 2 ^ 7 + i.rs1 * 2 ^ 15 + i.imm % 2 ^ 12 * 2 ^ 20
placed_operands Shift i = i.rd * 2 ^ 7 + i.rs1 * 2 ^ 15 + i.imm * 2 ^ 20
placed_operands Offset i = i.rd * 2 ^ 7 + i.rs1 * 2 ^ 15 + i.imm % 2 ^ 12 * 2 ^ 20
placed_operands Store i = i.rs1 * 2 ^ 15 + i.rs2 * 2 ^ 20 + placed 11 s_bits i.imm
placed_operands Branch i = i.rs1 * 2 ^ 15 + i.rs2 * 2 ^ 20 + placed 12 b_bits i.imm
placed_operands Upper i = i.rd * 2 ^ 7 + placed 31 u_bits i.imm
placed_operands Jump i = i.rd * 2 ^ 7 + placed 20 j_bits i.imm
placed_operands Csr i = i.rd * 2 ^ 7 + i.rs1 * 2 ^ 15 + i.csr * 2 ^ 20
placed_operands CsrNumber i = i.rd * 2 ^ 7 + i.imm * 2 ^ 15 + i.csr * 2 ^ 20
placed_operands Bare i = 0

-- the word of an instruction, whose free fields are 0
abbrev pub encoded : Instr → ℕ
encoded i = pattern_of (row_of i.op).fields + placed_operands (row_of i.op).format i
