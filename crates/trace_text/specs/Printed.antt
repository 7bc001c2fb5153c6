-- Laws over definitions: what the printed text of an instruction is, by its row of the table, and what it tells. It leaves out which word
-- or parcel of those with this meaning it was (a compressed one or not), and the fields of fence and fence.i that have no effect.
use Rattle.std.specs.Prelude.{◌≡◌, ℕ, ◌%◌, ◌^◌, ◌<◌, ◌++◌, Some, codes}
use Rattle.rv_decode.specs.Parcels.{HasParcelRow, ParcelRow}
use Rattle.rv_decode.specs.Rows.{HasRow, Row, decoded, instr_of, row_of}
use Rattle.rv_decode.specs.declared.format.Format.TheVariants.{Bare}
use Rattle.rv_decode.specs.declared.instr.Instr.{Instr}
use Rattle.rv_decode.specs.declared.instr.Op.{Op}
use Rattle.trace_text.specs.Instruction.{Text, instruction_text, issued, issued_text, operands_text}

-- the text of an instruction by a row, at a pc: the row's name alone where its format has no operands, and else the name, a blank and
-- the operands in the row's format
abbrev pub PrintsByRow : ℕ → Row → Instr → Text → Type 0
PrintsByRow pc row i text =
    (row.format ≡ Bare → text ≡ row.name) × (¬ (row.format ≡ Bare) → text ≡ row.name ++ codes " " ++ operands_text row.format pc i)

-- a word, whose low two bits are 11, with the row of an operation prints by that row
abbrev pub PrintsWords : ℕ → Type 0
PrintsWords pc = (word : ℕ) (op : Op) → word % 4 ≡ 3 → HasRow word op → PrintsByRow pc (row_of op) (instr_of word (row_of op)) (issued_text pc word)

-- a parcel, of 16 bits whose low two aren't 11, prints the instruction that its row says it stands for, by the row of its operation
abbrev pub PrintsParcels : ℕ → Type 0
PrintsParcels pc = (half : ℕ) (r : ParcelRow) → half < 2 ^ 16 → ¬ (half % 4 ≡ 3) → HasParcelRow half r
    → PrintsByRow pc (row_of (r.equivalent half).op) (r.equivalent half) (issued_text pc half)

-- instructions of words that print alike at a pc are the same
abbrev pub TellsInstruction : ℕ → Type 0
TellsInstruction pc =
    (v w : ℕ) (i j : Instr) → decoded v ≡ Some i → decoded w ≡ Some j → instruction_text pc i ≡ instruction_text pc j → i ≡ j

-- issued words that print alike at a pc are the same instruction, or are both none
abbrev pub TellsIssued : ℕ → Type 0
TellsIssued pc = (v w : ℕ) → issued_text pc v ≡ issued_text pc w → issued v ≡ issued w
