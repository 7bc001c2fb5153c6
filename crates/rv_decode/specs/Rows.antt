-- A definition: the table of instructions, one row for each operation, by the RISC-V Instruction Set Manual, Volume I, "RV32/64G
-- Instruction Set Listings"; mret and wfi are from Volume II.
use Rattle.std.specs.Prelude.{◌≡◌, ◌==◌, ℕ, ◌+◌, ◌-◌, ◌*◌, ◌/◌, ◌%◌, ◌^◌, Bool, List, [], ◌∷◌, Option, bit_and, bit_or, codes, map}
use Rattle.std.specs.List.{find}
use Rattle.std.specs.Option.{option_map}
use Rattle.soc_words.specs.Word.{sign_extended}
use Rattle.rv_decode.specs.Fields.{field, joined, i_bits, s_bits, b_bits, u_bits, j_bits}
use Rattle.rv_decode.specs.declared.instr.Op.{Op}
use Rattle.rv_decode.specs.declared.instr.Op.TheVariants.{Lui, Auipc, Jal, Jalr, Beq, Bne, Blt, Bge, Bltu, Bgeu, Lb, Lh, Lw, Lbu, Lhu, Sb, Sh, Sw, Addi, Slti, Sltiu, Xori, Ori, Andi, Slli, Srli, Srai, Add, Sll, Slt, Sltu, Xor, Srl, Or, And, Sub, Sra, Mul, Mulh, Mulhsu, Mulhu, Div, Divu, Rem, Remu, Fence, FenceI, Csrrw, Csrrs, Csrrc, Csrrwi, Csrrsi, Csrrci, Ecall, Ebreak, Mret, Wfi}
use Rattle.rv_decode.specs.declared.instr.Instr.{Instr}
use Rattle.rv_decode.specs.declared.format.Format.{Format}
use Rattle.rv_decode.specs.declared.format.Format.TheVariants.{Register, Immediate, Shift, Offset, Store, Branch, Upper, Jump, Csr, CsrNumber, Bare}
use Rattle.rv_decode.specs.declared.effect.CostKind.{CostKind}
use Rattle.rv_decode.specs.declared.effect.CostKind.TheVariants.{Simple, ByAmount, Multiply, ByTaken, Transfer, Access, System}
use Rattle.rv_decode.specs.declared.effect.Does.{Does}
use Rattle.rv_decode.specs.declared.effect.Does.TheVariants.{Computes, PutsUpper, Branches, Jumps, Loads, Stores, Fences, UsesCsr, Traps, Returns, Sleeps}
use Rattle.rv_decode.specs.declared.effect.AluFunction.TheVariants.{Sum, Difference, ShiftLeft, SetLess, SetLessUnsigned, BitXor, ShiftRight, ShiftRightArithmetic, BitOr, BitAnd, Product, ProductHigh, ProductHighMixed, ProductHighUnsigned, Quotient, QuotientUnsigned, Remainder, RemainderUnsigned}
use Rattle.rv_decode.specs.declared.effect.CsrChange.TheVariants.{Replace, SetBits, ClearBits}
use Rattle.rv_decode.specs.declared.effect.BranchCondition.TheVariants.{Equal, NotEqual, Less, NotLess, LessUnsigned, NotLessUnsigned}

-- a row: its operation, its printed name as bytes, the fields that a word of it has, each with its high and low bit and its value,
-- the format of its operands, what its cycles depend on, and what it does
pub record Row : Type 0 where
  pub op : Op
  pub name : List ℕ
  pub fields : List (ℕ × ℕ × ℕ)
  pub format : Format
  pub cost : CostKind
  pub does : Does

-- a row of these
abbrev pub table_row : Op → List ℕ → List (ℕ × ℕ × ℕ) → Format → CostKind → Does → Row
table_row op name fields format cost does = record { op = op; name = name; fields = fields; format = format; cost = cost; does = does }

-- the opcode alone, bits 6 to 0
abbrev pub by_opcode : ℕ → List (ℕ × ℕ × ℕ)
by_opcode opcode = (6, 0, opcode) ∷ []

-- funct3 too, bits 14 to 12
abbrev pub by_funct3 : ℕ → ℕ → List (ℕ × ℕ × ℕ)
by_funct3 opcode funct3 = (6, 0, opcode) ∷ (14, 12, funct3) ∷ []

-- funct7 too, bits 31 to 25
abbrev pub by_funct7 : ℕ → ℕ → ℕ → List (ℕ × ℕ × ℕ)
by_funct7 opcode funct3 funct7 = (6, 0, opcode) ∷ (14, 12, funct3) ∷ (31, 25, funct7) ∷ []

-- a whole word
abbrev pub by_word : ℕ → List (ℕ × ℕ × ℕ)
by_word word = (6, 0, word % 2 ^ 7) ∷ (31, 7, word / 2 ^ 7) ∷ []

-- the table
abbrev pub row_of : Op → Row
row_of Lui = table_row Lui (codes "lui") (by_opcode 0b0110111) Upper Simple PutsUpper
row_of Auipc = table_row Auipc (codes "auipc") (by_opcode 0b0010111) Upper Simple PutsUpper
row_of Jal = table_row Jal (codes "jal") (by_opcode 0b1101111) Jump Transfer Jumps
row_of Jalr = table_row Jalr (codes "jalr") (by_funct3 0b1100111 0b000) Offset Transfer Jumps
row_of Beq = table_row Beq (codes "beq") (by_funct3 0b1100011 0b000) Branch ByTaken (Branches Equal)
row_of Bne = table_row Bne (codes "bne") (by_funct3 0b1100011 0b001) Branch ByTaken (Branches NotEqual)
row_of Blt = table_row Blt (codes "blt") (by_funct3 0b1100011 0b100) Branch ByTaken (Branches Less)
row_of Bge = table_row Bge (codes "bge") (by_funct3 0b1100011 0b101) Branch ByTaken (Branches NotLess)
row_of Bltu = table_row Bltu (codes "bltu") (by_funct3 0b1100011 0b110) Branch ByTaken (Branches LessUnsigned)
row_of Bgeu = table_row Bgeu (codes "bgeu") (by_funct3 0b1100011 0b111) Branch ByTaken (Branches NotLessUnsigned)
row_of Lb = table_row Lb (codes "lb") (by_funct3 0b0000011 0b000) Offset Access Loads
row_of Lh = table_row Lh (codes "lh") (by_funct3 0b0000011 0b001) Offset Access Loads
row_of Lw = table_row Lw (codes "lw") (by_funct3 0b0000011 0b010) Offset Access Loads
row_of Lbu = table_row Lbu (codes "lbu") (by_funct3 0b0000011 0b100) Offset Access Loads
row_of Lhu = table_row Lhu (codes "lhu") (by_funct3 0b0000011 0b101) Offset Access Loads
row_of Sb = table_row Sb (codes "sb") (by_funct3 0b0100011 0b000) Store Access Stores
row_of Sh = table_row Sh (codes "sh") (by_funct3 0b0100011 0b001) Store Access Stores
row_of Sw = table_row Sw (codes "sw") (by_funct3 0b0100011 0b010) Store Access Stores
row_of Addi = table_row Addi (codes "addi") (by_funct3 0b0010011 0b000) Immediate Simple (Computes Sum)
row_of Slti = table_row Slti (codes "slti") (by_funct3 0b0010011 0b010) Immediate Simple (Computes SetLess)
row_of Sltiu = table_row Sltiu (codes "sltiu") (by_funct3 0b0010011 0b011) Immediate Simple (Computes SetLessUnsigned)
row_of Xori = table_row Xori (codes "xori") (by_funct3 0b0010011 0b100) Immediate Simple (Computes BitXor)
row_of Ori = table_row Ori (codes "ori") (by_funct3 0b0010011 0b110) Immediate Simple (Computes BitOr)
row_of Andi = table_row Andi (codes "andi") (by_funct3 0b0010011 0b111) Immediate Simple (Computes BitAnd)
row_of Slli = table_row Slli (codes "slli") (by_funct7 0b0010011 0b001 0b0000000) Shift ByAmount (Computes ShiftLeft)
row_of Srli = table_row Srli (codes "srli") (by_funct7 0b0010011 0b101 0b0000000) Shift ByAmount (Computes ShiftRight)
row_of Srai = table_row Srai (codes "srai") (by_funct7 0b0010011 0b101 0b0100000) Shift ByAmount (Computes ShiftRightArithmetic)
row_of Add = table_row Add (codes "add") (by_funct7 0b0110011 0b000 0b0000000) Register Simple (Computes Sum)
row_of Sll = table_row Sll (codes "sll") (by_funct7 0b0110011 0b001 0b0000000) Register ByAmount (Computes ShiftLeft)
row_of Slt = table_row Slt (codes "slt") (by_funct7 0b0110011 0b010 0b0000000) Register Simple (Computes SetLess)
row_of Sltu = table_row Sltu (codes "sltu") (by_funct7 0b0110011 0b011 0b0000000) Register Simple (Computes SetLessUnsigned)
row_of Xor = table_row Xor (codes "xor") (by_funct7 0b0110011 0b100 0b0000000) Register Simple (Computes BitXor)
row_of Srl = table_row Srl (codes "srl") (by_funct7 0b0110011 0b101 0b0000000) Register ByAmount (Computes ShiftRight)
row_of Or = table_row Or (codes "or") (by_funct7 0b0110011 0b110 0b0000000) Register Simple (Computes BitOr)
row_of And = table_row And (codes "and") (by_funct7 0b0110011 0b111 0b0000000) Register Simple (Computes BitAnd)
row_of Sub = table_row Sub (codes "sub") (by_funct7 0b0110011 0b000 0b0100000) Register Simple (Computes Difference)
row_of Sra = table_row Sra (codes "sra") (by_funct7 0b0110011 0b101 0b0100000) Register ByAmount (Computes ShiftRightArithmetic)
row_of Mul = table_row Mul (codes "mul") (by_funct7 0b0110011 0b000 0b0000001) Register Multiply (Computes Product)
row_of Mulh = table_row Mulh (codes "mulh") (by_funct7 0b0110011 0b001 0b0000001) Register Multiply (Computes ProductHigh)
row_of Mulhsu = table_row Mulhsu (codes "mulhsu") (by_funct7 0b0110011 0b010 0b0000001) Register Multiply (Computes ProductHighMixed)
row_of Mulhu = table_row Mulhu (codes "mulhu") (by_funct7 0b0110011 0b011 0b0000001) Register Multiply (Computes ProductHighUnsigned)
row_of Div = table_row Div (codes "div") (by_funct7 0b0110011 0b100 0b0000001) Register Multiply (Computes Quotient)
row_of Divu = table_row Divu (codes "divu") (by_funct7 0b0110011 0b101 0b0000001) Register Multiply (Computes QuotientUnsigned)
row_of Rem = table_row Rem (codes "rem") (by_funct7 0b0110011 0b110 0b0000001) Register Multiply (Computes Remainder)
row_of Remu = table_row Remu (codes "remu") (by_funct7 0b0110011 0b111 0b0000001) Register Multiply (Computes RemainderUnsigned)
row_of Fence = table_row Fence (codes "fence") (by_funct3 0b0001111 0b000) Bare Transfer Fences
row_of FenceI = table_row FenceI (codes "fence.i") (by_funct3 0b0001111 0b001) Bare Transfer Fences
row_of Csrrw = table_row Csrrw (codes "csrrw") (by_funct3 0b1110011 0b001) Csr System (UsesCsr Replace)
row_of Csrrs = table_row Csrrs (codes "csrrs") (by_funct3 0b1110011 0b010) Csr System (UsesCsr SetBits)
row_of Csrrc = table_row Csrrc (codes "csrrc") (by_funct3 0b1110011 0b011) Csr System (UsesCsr ClearBits)
row_of Csrrwi = table_row Csrrwi (codes "csrrwi") (by_funct3 0b1110011 0b101) CsrNumber System (UsesCsr Replace)
row_of Csrrsi = table_row Csrrsi (codes "csrrsi") (by_funct3 0b1110011 0b110) CsrNumber System (UsesCsr SetBits)
row_of Csrrci = table_row Csrrci (codes "csrrci") (by_funct3 0b1110011 0b111) CsrNumber System (UsesCsr ClearBits)
row_of Ecall = table_row Ecall (codes "ecall") (by_word 0x00000073) Bare Transfer Traps
row_of Ebreak = table_row Ebreak (codes "ebreak") (by_word 0x00100073) Bare Transfer Traps
row_of Mret = table_row Mret (codes "mret") (by_word 0x30200073) Bare Transfer Returns
row_of Wfi = table_row Wfi (codes "wfi") (by_word 0x10500073) Bare System Sleeps

-- the operations, in the table's order
abbrev pub ops : List Op
ops =
    Lui ∷ Auipc ∷ Jal ∷ Jalr ∷ Beq ∷ Bne ∷ Blt ∷ Bge ∷ Bltu ∷ Bgeu
    ∷ Lb ∷ Lh ∷ Lw ∷ Lbu ∷ Lhu ∷ Sb ∷ Sh ∷ Sw ∷ Addi ∷ Slti
    ∷ Sltiu ∷ Xori ∷ Ori ∷ Andi ∷ Slli ∷ Srli ∷ Srai ∷ Add ∷ Sll ∷ Slt
    ∷ Sltu ∷ Xor ∷ Srl ∷ Or ∷ And ∷ Sub ∷ Sra ∷ Mul ∷ Mulh ∷ Mulhsu
    ∷ Mulhu ∷ Div ∷ Divu ∷ Rem ∷ Remu ∷ Fence ∷ FenceI ∷ Csrrw ∷ Csrrs ∷ Csrrc
    ∷ Csrrwi ∷ Csrrsi ∷ Csrrci ∷ Ecall ∷ Ebreak ∷ Mret ∷ Wfi ∷ []

-- the rows, in the table's order
abbrev pub rows : List Row
rows = map row_of ops

-- the printed name of an operation
abbrev pub name_of : Op → List ℕ
name_of op = (row_of op).name

-- the bits of a word that a field covers
abbrev pub field_mask : ℕ × ℕ × ℕ → ℕ
field_mask f = 2 ^ (f.0 + 1 - f.1 + f.1) - 2 ^ f.1

-- a field's value in its place
abbrev pub field_pattern : ℕ × ℕ × ℕ → ℕ
field_pattern f = f.2 * 2 ^ f.1

-- the mask of a row: the bits of all its fields
abbrev pub mask_of : List (ℕ × ℕ × ℕ) → ℕ
mask_of [] = 0
mask_of (f ∷ fs) = bit_or (field_mask f) (mask_of fs)

-- what a word has under the mask
abbrev pub pattern_of : List (ℕ × ℕ × ℕ) → ℕ
pattern_of [] = 0
pattern_of (f ∷ fs) = bit_or (field_pattern f) (pattern_of fs)

-- whether a word has a row
abbrev pub matches : ℕ → Row → Bool
matches word r = bit_and word (mask_of r.fields) == pattern_of r.fields

-- a word has the row of an operation
abbrev pub HasRow : ℕ → Op → Type 0
HasRow word op = bit_and word (mask_of (row_of op).fields) ≡ pattern_of (row_of op).fields

-- the first row that a word has
abbrev pub row_at : ℕ → Option Row
row_at word = find (matches word) rows

-- the instruction of a word in a format: a field that the format lacks is 0
abbrev pub operands : Format → Op → ℕ → Instr
operands Register op w = record { op = op; rd = field 11 7 w; rs1 = field 19 15 w; rs2 = field 24 20 w; imm = 0; csr = 0 }
operands Immediate op w = record { op = op; rd = field 11 7 w; rs1 = field 19 15 w; rs2 = 0; imm = sign_extended 12 (joined i_bits w); csr = 0 }
operands Shift op w = record { op = op; rd = field 11 7 w; rs1 = field 19 15 w; rs2 = 0; imm = field 24 20 w; csr = 0 }
operands Offset op w = record { op = op; rd = field 11 7 w; rs1 = field 19 15 w; rs2 = 0; imm = sign_extended 12 (joined i_bits w); csr = 0 }
operands Store op w = record { op = op; rd = 0; rs1 = field 19 15 w; rs2 = field 24 20 w; imm = sign_extended 12 (joined s_bits w); csr = 0 }
operands Branch op w = record { op = op; rd = 0; rs1 = field 19 15 w; rs2 = field 24 20 w; imm = sign_extended 13 (2 * joined b_bits w); csr = 0 }
operands Upper op w = record { op = op; rd = field 11 7 w; rs1 = 0; rs2 = 0; imm = 2 ^ 12 * joined u_bits w; csr = 0 }
operands Jump op w = record { op = op; rd = field 11 7 w; rs1 = 0; rs2 = 0; imm = sign_extended 21 (2 * joined j_bits w); csr = 0 }
operands Csr op w = record { op = op; rd = field 11 7 w; rs1 = field 19 15 w; rs2 = 0; imm = 0; csr = field 31 20 w }
operands CsrNumber op w = record { op = op; rd = field 11 7 w; rs1 = 0; rs2 = 0; imm = field 19 15 w; csr = field 31 20 w }
operands Bare op w = record { op = op; rd = 0; rs1 = 0; rs2 = 0; imm = 0; csr = 0 }

-- the instruction of a word that has a row
abbrev pub instr_of : ℕ → Row → Instr
instr_of word r = operands r.format r.op word

-- the instruction of a word
unfoldable pub decoded : ℕ → Option Instr
decoded word = option_map (instr_of word) (row_at word)
