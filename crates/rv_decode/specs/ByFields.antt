-- Serves the code alone: the table looked up by a word's opcode, funct3 and funct7.
use Rattle.std.specs.Prelude.{◌==◌, ℕ, Bool, List, Option, if◌then◌else◌}
use Rattle.std.specs.List.{find, list_all}
use Rattle.std.specs.Option.{option_map}
use Rattle.rv_decode.specs.Fields.{field}
use Rattle.rv_decode.specs.declared.instr.Op.{Op}
use Rattle.rv_decode.specs.declared.instr.Instr.{Instr}
use Rattle.rv_decode.specs.Rows.{row_of, ops, operands}

-- whether a word has a field's value
abbrev pub has_field : ℕ → ℕ × ℕ × ℕ → Bool
has_field word f = field f.0 f.1 word == f.2

-- a field of a word whose opcode, funct3 and funct7 are named
abbrev pub part : ℕ → ℕ → ℕ → ℕ → ℕ → ℕ → ℕ
part opcode funct3 funct7 word high low =
    if low == 0 then opcode else (if low == 12 then funct3 else (if low == 25 then funct7 else field high low word))

-- whether a word with these fields has all fields of the list
abbrev pub has_fields : ℕ → ℕ → ℕ → ℕ → List (ℕ × ℕ × ℕ) → Bool
has_fields opcode funct3 funct7 word fs = list_all (λ f. part opcode funct3 funct7 word f.0 f.1 == f.2) fs

-- the operation of a word with these fields
abbrev pub op_at : ℕ → ℕ → ℕ → ℕ → Option Op
op_at opcode funct3 funct7 word = find (λ op. has_fields opcode funct3 funct7 word (row_of op).fields) ops

-- the instruction of a word with these fields
abbrev pub instr_at : ℕ → ℕ → ℕ → ℕ → Option Instr
instr_at opcode funct3 funct7 word = option_map (λ op. operands (row_of op).format op word) (op_at opcode funct3 funct7 word)
