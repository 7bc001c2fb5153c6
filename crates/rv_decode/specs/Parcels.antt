-- A definition: the table of compressed parcels, by the RISC-V Instruction Set Manual, Volume I, ""C" Extension for Compressed
-- Instructions". A hint is the instruction that it stands for.
use Rattle.std.specs.Prelude.{◌==◌, ℕ, ◌+◌, ◌%◌, Bool, ◌&&◌, if◌then◌else◌, List, [], ◌∷◌, Option, IsTrue}
use Rattle.std.specs.List.{find, list_all, Contains}
use Rattle.std.specs.Option.{option_map}
use mathlib.Core.Bool.{not}
use Rattle.soc_words.specs.Word.{sign_extended}
use Rattle.rv_decode.specs.Fields.{field, joined, placed}
use Rattle.rv_decode.specs.declared.instr.Instr.{Instr}
use Rattle.rv_decode.specs.declared.instr.Op.{Op}
use Rattle.rv_decode.specs.declared.instr.Op.TheVariants.{Lui, Jal, Jalr, Beq, Bne, Lw, Sw, Addi, Andi, Slli, Srli, Srai, Add, Xor, Or, And, Sub, Ebreak}
use Rattle.rv_decode.specs.Encoded.{encoded}

-- a row: the low two and the high three bits of the parcel, further fields with their values, joined fields with a value that they
-- don't have, and the instruction that the parcel stands for
pub record ParcelRow : Type 0 where
  pub low : ℕ
  pub high : ℕ
  pub fields : List (ℕ × ℕ × ℕ)
  pub excluded : List (List (ℕ × ℕ) × ℕ)
  pub equivalent : ℕ → Instr

-- the word that a parcel with the row stands for
abbrev pub word_at : ℕ → ParcelRow → ℕ
word_at h r = encoded (r.equivalent h)

-- a register x8 to x15, by three bits
abbrev pub short_register : ℕ → ℕ → ℕ → ℕ
short_register high low h = 8 + field high low h

-- the offset in the stack frame of addi from x2
abbrev pub frame_offset : ℕ → ℕ
frame_offset h = placed 12 ((5, 4) ∷ (9, 6) ∷ (2, 2) ∷ (3, 3) ∷ []) h

-- the offset of lw and sw
abbrev pub word_offset : ℕ → ℕ
word_offset h = placed 12 ((5, 3) ∷ []) h + placed 6 ((2, 2) ∷ (6, 6) ∷ []) h

-- an immediate of six bits
abbrev pub small : ℕ → ℕ
small h = sign_extended 6 (placed 12 ((5, 5) ∷ []) h + placed 6 ((4, 0) ∷ []) h)

-- the offset of jal
abbrev pub jump_offset : ℕ → ℕ
jump_offset h = sign_extended 12 (placed 12 ((11, 11) ∷ (4, 4) ∷ (9, 8) ∷ (10, 10) ∷ (6, 6) ∷ (7, 7) ∷ (3, 1) ∷ (5, 5) ∷ []) h)

-- the step of the stack pointer
abbrev pub stack_step : ℕ → ℕ
stack_step h = sign_extended 10 (placed 12 ((9, 9) ∷ []) h + placed 6 ((4, 4) ∷ (6, 6) ∷ (8, 7) ∷ (5, 5) ∷ []) h)

-- the immediate of lui
abbrev pub upper : ℕ → ℕ
upper h = sign_extended 18 (placed 12 ((17, 17) ∷ []) h + placed 6 ((16, 12) ∷ []) h)

-- the offset of beq and bne
abbrev pub branch_offset : ℕ → ℕ
branch_offset h = sign_extended 9 (placed 12 ((8, 8) ∷ (4, 3) ∷ []) h + placed 6 ((7, 6) ∷ (2, 1) ∷ (5, 5) ∷ []) h)

-- the offset of lw from x2
abbrev pub stack_load_offset : ℕ → ℕ
stack_load_offset h = placed 12 ((5, 5) ∷ []) h + placed 6 ((4, 2) ∷ (7, 6) ∷ []) h

-- the offset of sw from x2
abbrev pub stack_store_offset : ℕ → ℕ
stack_store_offset h = placed 12 ((5, 2) ∷ (7, 6) ∷ []) h

-- an instruction of these operands, and no control and status register
abbrev pub instr : Op → ℕ → ℕ → ℕ → ℕ → Instr
instr op rd rs1 rs2 imm = record { op = op; rd = rd; rs1 = rs1; rs2 = rs2; imm = imm; csr = 0 }

-- a row by its low two and high three bits, and the instruction
abbrev pub parcel : ℕ → ℕ → (ℕ → Instr) → ParcelRow
parcel low high equivalent = record { low = low; high = high; fields = []; excluded = []; equivalent = equivalent }

-- the row where bits high to low are the value too
abbrev pub where_bits : ℕ → ℕ → ℕ → ParcelRow → ParcelRow
where_bits high low value r = record { low = r.low; high = r.high; fields = (high, low, value) ∷ r.fields; excluded = r.excluded; equivalent = r.equivalent }

-- the row where the joined fields are not the value
abbrev pub where_not : List (ℕ × ℕ) → ℕ → ParcelRow → ParcelRow
where_not bits value r = record { low = r.low; high = r.high; fields = r.fields; excluded = (bits, value) ∷ r.excluded; equivalent = r.equivalent }

-- where rd, or rs1, lies in a parcel
abbrev pub rd_bits : List (ℕ × ℕ)
rd_bits = (11, 7) ∷ []

-- where rs2 lies in a parcel
abbrev pub rs2_bits : List (ℕ × ℕ)
rs2_bits = (6, 2) ∷ []

-- where an immediate of six bits lies in a parcel
abbrev pub imm_bits : List (ℕ × ℕ)
imm_bits = (12, 12) ∷ (6, 2) ∷ []

-- the table
abbrev pub parcel_rows : List ParcelRow
parcel_rows =
    where_not ((12, 5) ∷ []) 0 (parcel 0b00 0b000 (λ h. instr Addi (short_register 4 2 h) 2 0 (frame_offset h)))
    ∷ parcel 0b00 0b010 (λ h. instr Lw (short_register 4 2 h) (short_register 9 7 h) 0 (word_offset h))
    ∷ parcel 0b00 0b110 (λ h. instr Sw 0 (short_register 9 7 h) (short_register 4 2 h) (word_offset h))
    ∷ parcel 0b01 0b000 (λ h. instr Addi (field 11 7 h) (field 11 7 h) 0 (small h))
    ∷ parcel 0b01 0b001 (λ h. instr Jal 1 0 0 (jump_offset h))
    ∷ parcel 0b01 0b010 (λ h. instr Addi (field 11 7 h) 0 0 (small h))
    ∷ where_bits 11 7 2 (where_not imm_bits 0 (parcel 0b01 0b011 (λ h. instr Addi 2 2 0 (stack_step h))))
    ∷ where_not rd_bits 2 (where_not imm_bits 0 (parcel 0b01 0b011 (λ h. instr Lui (field 11 7 h) 0 0 (upper h))))
    ∷ where_bits 11 10 0b00 (where_bits 12 12 0 (parcel 0b01 0b100 (λ h. instr Srli (short_register 9 7 h) (short_register 9 7 h) 0 (field 6 2 h))))
    ∷ where_bits 11 10 0b01 (where_bits 12 12 0 (parcel 0b01 0b100 (λ h. instr Srai (short_register 9 7 h) (short_register 9 7 h) 0 (field 6 2 h))))
    ∷ where_bits 11 10 0b10 (parcel 0b01 0b100 (λ h. instr Andi (short_register 9 7 h) (short_register 9 7 h) 0 (small h)))
    ∷ where_bits 12 10 0b011 (where_bits 6 5 0b00 (parcel 0b01 0b100 (λ h. instr Sub (short_register 9 7 h) (short_register 9 7 h) (short_register 4 2 h) 0)))
    ∷ where_bits 12 10 0b011 (where_bits 6 5 0b01 (parcel 0b01 0b100 (λ h. instr Xor (short_register 9 7 h) (short_register 9 7 h) (short_register 4 2 h) 0)))
    ∷ where_bits 12 10 0b011 (where_bits 6 5 0b10 (parcel 0b01 0b100 (λ h. instr Or (short_register 9 7 h) (short_register 9 7 h) (short_register 4 2 h) 0)))
    ∷ where_bits 12 10 0b011 (where_bits 6 5 0b11 (parcel 0b01 0b100 (λ h. instr And (short_register 9 7 h) (short_register 9 7 h) (short_register 4 2 h) 0)))
    ∷ parcel 0b01 0b101 (λ h. instr Jal 0 0 0 (jump_offset h))
    ∷ parcel 0b01 0b110 (λ h. instr Beq 0 (short_register 9 7 h) 0 (branch_offset h))
    ∷ parcel 0b01 0b111 (λ h. instr Bne 0 (short_register 9 7 h) 0 (branch_offset h))
    ∷ where_bits 12 12 0 (parcel 0b10 0b000 (λ h. instr Slli (field 11 7 h) (field 11 7 h) 0 (field 6 2 h)))
    ∷ where_not rd_bits 0 (parcel 0b10 0b010 (λ h. instr Lw (field 11 7 h) 2 0 (stack_load_offset h)))
    ∷ where_bits 12 12 0 (where_bits 6 2 0 (where_not rd_bits 0 (parcel 0b10 0b100 (λ h. instr Jalr 0 (field 11 7 h) 0 0))))
    ∷ where_bits 12 12 0 (where_not rs2_bits 0 (parcel 0b10 0b100 (λ h. instr Add (field 11 7 h) 0 (field 6 2 h) 0)))
    ∷ where_bits 12 12 1 (where_bits 6 2 0 (where_bits 11 7 0 (parcel 0b10 0b100 (λ h. instr Ebreak 0 0 0 0))))
    ∷ where_bits 12 12 1 (where_bits 6 2 0 (where_not rd_bits 0 (parcel 0b10 0b100 (λ h. instr Jalr 1 (field 11 7 h) 0 0))))
    ∷ where_bits 12 12 1 (where_not rs2_bits 0 (parcel 0b10 0b100 (λ h. instr Add (field 11 7 h) (field 11 7 h) (field 6 2 h) 0)))
    ∷ parcel 0b10 0b110 (λ h. instr Sw 0 2 (field 6 2 h) (stack_store_offset h))
    ∷ []

-- whether a parcel with these low and high bits has the row
abbrev pub fits_parcel : ℕ → ℕ → ℕ → ParcelRow → Bool
fits_parcel low high h r =
    (low == r.low) && (high == r.high) && list_all (λ c. field c.0 c.1 h == c.2) r.fields
    && list_all (λ c. not (joined c.0 h == c.1)) r.excluded

-- the word of a parcel with these low and high bits
abbrev pub expanded_at : ℕ → ℕ → ℕ → Option ℕ
expanded_at low high h = option_map (word_at h) (find (fits_parcel low high h) parcel_rows)

-- the word that a parcel stands for
unfoldable pub expanded : ℕ → Option ℕ
expanded h = expanded_at (field 1 0 h) (field 15 13 h) h

-- whether a parcel has the row
abbrev pub has_parcel_row : ℕ → ParcelRow → Bool
has_parcel_row h r = fits_parcel (field 1 0 h) (field 15 13 h) h r

-- the instruction that a parcel stands for
unfoldable pub equivalent_of : ℕ → Option Instr
equivalent_of h = option_map (λ r. r.equivalent h) (find (has_parcel_row h) parcel_rows)

-- r is a row of the table, and the parcel has it
abbrev pub HasParcelRow : ℕ → ParcelRow → Type 0
HasParcelRow h r = Contains parcel_rows r × IsTrue (has_parcel_row h r)

-- the length in bytes of the instruction whose first parcel this is
abbrev pub length_of : ℕ → ℕ
length_of h = if h % 4 == 3 then 4 else 2
