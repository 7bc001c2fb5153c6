-- The printed text of an instruction (definitions).
use Rattle.std.specs.Prelude.{◌==◌, ℕ, ◌-◌, ◌/◌, ◌%◌, ◌^◌, nat_lt, List, [], ◌++◌, Option, None, Some, codes, decimal, drop, if◌then◌else◌}
use Rattle.soc_words.specs.Text.{hex_word}
use Rattle.soc_words.specs.Word.{wrapped_sum}
use Rattle.rv_decode.specs.Parcels.{equivalent_of}
use Rattle.rv_decode.specs.Rows.{decoded, name_of, row_of}
use Rattle.rv_decode.specs.declared.instr.Instr.{Instr}
use Rattle.rv_decode.specs.declared.format.Format.{Format}
use Rattle.rv_decode.specs.declared.format.Format.TheVariants.{Register, Immediate, Shift, Offset, Store, Branch, Upper, Jump, Csr, CsrNumber, Bare}

-- a text, as its bytes
abbrev pub Text : Type 0
Text = List ℕ

-- a register, x0 to x31
unfoldable pub register_name : ℕ → Text
register_name number = codes "x" ++ decimal number

-- a word in signed decimal
unfoldable pub signed_text : ℕ → Text
signed_text word = if nat_lt word (2 ^ 31) then decimal word else codes "-" ++ decimal (2 ^ 32 - word)

-- the last so many of a word's eight hexadecimal digits
unfoldable pub last_digits : ℕ → ℕ → Text
last_digits count word = drop (8 - count) (hex_word word)

-- an operand, and those that follow it
abbrev pub before : Text → Text → Text
before first rest = first ++ codes ", " ++ rest

-- an address as an offset from a register
abbrev pub address_text : Instr → Text
address_text i = signed_text i.imm ++ codes "(" ++ register_name i.rs1 ++ codes ")"

-- where a branch or a jump goes
abbrev pub target_text : ℕ → Instr → Text
target_text pc i = hex_word (wrapped_sum pc i.imm)

-- the operands of an instruction in a format, at a pc
unfoldable pub operands_text : Format → ℕ → Instr → Text
operands_text Register pc i = before (register_name i.rd) (before (register_name i.rs1) (register_name i.rs2))
operands_text Immediate pc i = before (register_name i.rd) (before (register_name i.rs1) (signed_text i.imm))
operands_text Shift pc i = before (register_name i.rd) (before (register_name i.rs1) (signed_text i.imm))
operands_text Offset pc i = before (register_name i.rd) (address_text i)
operands_text Store pc i = before (register_name i.rs2) (address_text i)
operands_text Branch pc i = before (register_name i.rs1) (before (register_name i.rs2) (target_text pc i))
operands_text Upper pc i = before (register_name i.rd) (last_digits 5 (i.imm / 2 ^ 12))
operands_text Jump pc i = before (register_name i.rd) (target_text pc i)
operands_text Csr pc i = before (register_name i.rd) (before (last_digits 3 i.csr) (register_name i.rs1))
operands_text CsrNumber pc i = before (register_name i.rd) (before (last_digits 3 i.csr) (decimal i.imm))
operands_text Bare pc i = []

-- what follows a name: a blank and the operands, and nothing where the format has none
abbrev pub after_name : Format → Text → Text
after_name Bare operands = []
after_name format operands = codes " " ++ operands

-- an instruction at a pc
unfoldable pub instruction_text : ℕ → Instr → Text
instruction_text pc i = name_of i.op ++ after_name (row_of i.op).format (operands_text (row_of i.op).format pc i)

-- an instruction at a pc, or that there is none
abbrev pub text_or_illegal : ℕ → Option Instr → Text
text_or_illegal pc None = codes "illegal"
text_or_illegal pc (Some i) = instruction_text pc i

-- the instruction of an issued word: one whose low two bits aren't 11 is a parcel, in its low sixteen bits
abbrev pub issued : ℕ → Option Instr
issued word = if word % 4 == 3 then decoded word else equivalent_of (word % 2 ^ 16)

-- the text of an issued word, at a pc
unfoldable pub issued_text : ℕ → ℕ → Text
issued_text pc word = text_or_illegal pc (issued word)

-- the digits of an issued word: a parcel has four
unfoldable pub word_text : ℕ → Text
word_text word = if word % 4 == 3 then hex_word word else last_digits 4 word
