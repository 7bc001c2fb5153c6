-- The word of an instruction decodes to that instruction, format by format.
use Rattle.std.proofs.Common.{◌≡◌, ℕ, ◌+◌, ◌*◌, ◌/◌, ◌%◌, ◌^◌, ◌<◌, Option, Some, refl, sym, ap, ◌∙◌, arith}
use Rattle.soc_words.specs.Word.{sign_extended}
use Rattle.rv_decode.specs.Fields.{field, joined, placed, i_bits, s_bits, b_bits, u_bits, j_bits}
use Rattle.rv_decode.specs.declared.instr.Op.{Op}
use Rattle.rv_decode.specs.declared.format.Format.TheVariants.{Register, Immediate, Shift, Store, Branch, Upper, Jump}
use Rattle.rv_decode.specs.declared.instr.Instr.{Instr}
use Rattle.rv_decode.specs.Rows.{decoded, operands}
use Rattle.rv_decode.specs.ByFields.{instr_at}
use Rattle.rv_decode.proofs.Masks.{decoded_by_fields}

-- an instruction of these operands
abbrev pub made : Op → ℕ → ℕ → ℕ → ℕ → Option Instr
made op rd rs1 rs2 imm = Some (record { op = op; rd = rd; rs1 = rs1; rs2 = rs2; imm = imm; csr = 0 })

same_made : (op : Op) (a b c d e f g h : ℕ) → a ≡ e → b ≡ f → c ≡ g → d ≡ h → made op a b c d ≡ made op e f g h
same_made op a b c d e f g h p q r s =
    ap (λ (x : ℕ). made op x b c d) p ∙ ap (λ (x : ℕ). made op e x c d) q ∙ ap (λ (x : ℕ). made op e f x d) r ∙ ap (made op e f g) s

-- a word whose opcode, funct3 and funct7 choose an instruction decodes to it
by_parts : (w o f3 f7 : ℕ) (i : Instr) → w < 2 ^ 32 → w % 0x80 ≡ o → w / 0x1000 % 8 ≡ f3 → w / 0x2000000 ≡ f7 → instr_at o f3 f7 w ≡ Some i
    → decoded w ≡ Some i
by_parts w o f3 f7 i fits low middle high here =
    decoded_by_fields w fits
    ∙ ap (λ (x : ℕ). instr_at x (w / 0x1000 % 8) (w / 0x2000000) w) low
    ∙ ap (λ (x : ℕ). instr_at o x (w / 0x2000000) w) middle
    ∙ ap (λ (x : ℕ). instr_at o f3 x w) high
    ∙ here

-- the word of an instruction with two source registers decodes to it
pub register_round : (w p o f3 f7 rd rs1 rs2 : ℕ) (op : Op) → p ≡ f7 * 0x2000000 + f3 * 0x1000 + o → o < 0x80 → f3 < 8 → f7 < 0x80
    → rd < 32 → rs1 < 32 → rs2 < 32
    → w ≡ p + (rd * 2 ^ 7 + rs1 * 2 ^ 15 + rs2 * 2 ^ 20)
    → instr_at o f3 f7 w ≡ Some (operands Register op w)
    → decoded w ≡ made op rd rs1 rs2 0
register_round w p o f3 f7 rd rs1 rs2 op shape below_o below_f3 below_f7 below_rd below_rs1 below_rs2 is here =
    by_parts w o f3 f7 (operands Register op w) (omega arith) (omega arith) (omega arith) (omega arith) here
    ∙ same_made op (field 11 7 w) (field 19 15 w) (field 24 20 w) 0 rd rs1 rs2 0 (omega arith) (omega arith) (omega arith) refl

-- the word of an instruction of a shift by an immediate decodes to it
pub shift_round : (w p o f3 f7 rd rs1 amount : ℕ) (op : Op) → p ≡ f7 * 0x2000000 + f3 * 0x1000 + o → o < 0x80 → f3 < 8 → f7 < 0x80
    → rd < 32 → rs1 < 32 → amount < 32
    → w ≡ p + (rd * 2 ^ 7 + rs1 * 2 ^ 15 + amount * 2 ^ 20)
    → instr_at o f3 f7 w ≡ Some (operands Shift op w)
    → decoded w ≡ made op rd rs1 0 amount
shift_round w p o f3 f7 rd rs1 amount op shape below_o below_f3 below_f7 below_rd below_rs1 below_amount is here =
    by_parts w o f3 f7 (operands Shift op w) (omega arith) (omega arith) (omega arith) (omega arith) here
    ∙ same_made op (field 11 7 w) (field 19 15 w) 0 (field 24 20 w) rd rs1 0 amount (omega arith) (omega arith) refl (omega arith)

-- the word of an instruction with an immediate of twelve bits decodes to it
pub immediate_round : (w p o f3 rd rs1 imm : ℕ) (op : Op) → p ≡ f3 * 0x1000 + o → o < 0x80 → f3 < 8 → rd < 32 → rs1 < 32
    → imm ≡ sign_extended 12 (imm % 2 ^ 12)
    → w ≡ p + (rd * 2 ^ 7 + rs1 * 2 ^ 15 + imm % 2 ^ 12 * 2 ^ 20)
    → instr_at o f3 (w / 0x2000000) w ≡ Some (operands Immediate op w)
    → decoded w ≡ made op rd rs1 0 imm
immediate_round w p o f3 rd rs1 imm op shape below_o below_f3 below_rd below_rs1 signed is here =
    let bits_is : joined i_bits w ≡ imm % 2 ^ 12 = omega arith in
    by_parts w o f3 (w / 0x2000000) (operands Immediate op w) (omega arith) (omega arith) (omega arith) refl here
    ∙ same_made op (field 11 7 w) (field 19 15 w) 0 (sign_extended 12 (joined i_bits w)) rd rs1 0 imm
    (omega arith) (omega arith) refl (ap (sign_extended 12) bits_is ∙ sym signed)

-- the word of an instruction of a store decodes to it
pub store_round : (w p o f3 rs1 rs2 imm : ℕ) (op : Op) → p ≡ f3 * 0x1000 + o → o < 0x80 → f3 < 8 → rs1 < 32 → rs2 < 32
    → imm ≡ sign_extended 12 (imm % 2 ^ 12)
    → w ≡ p + (rs1 * 2 ^ 15 + rs2 * 2 ^ 20 + placed 11 s_bits imm)
    → instr_at o f3 (w / 0x2000000) w ≡ Some (operands Store op w)
    → decoded w ≡ made op 0 rs1 rs2 imm
store_round w p o f3 rs1 rs2 imm op shape below_o below_f3 below_rs1 below_rs2 signed is here =
    let bits_is : joined s_bits w ≡ imm % 2 ^ 12 = omega arith in
    by_parts w o f3 (w / 0x2000000) (operands Store op w) (omega arith) (omega arith) (omega arith) refl here
    ∙ same_made op 0 (field 19 15 w) (field 24 20 w) (sign_extended 12 (joined s_bits w)) 0 rs1 rs2 imm
    refl (omega arith) (omega arith) (ap (sign_extended 12) bits_is ∙ sym signed)

-- the word of an instruction of a branch decodes to it
pub branch_round : (w p o f3 rs1 rs2 imm : ℕ) (op : Op) → p ≡ f3 * 0x1000 + o → o < 0x80 → f3 < 8 → rs1 < 32 → rs2 < 32
    → imm ≡ sign_extended 13 (imm % 2 ^ 13) → imm % 2 ≡ 0
    → w ≡ p + (rs1 * 2 ^ 15 + rs2 * 2 ^ 20 + placed 12 b_bits imm)
    → instr_at o f3 (w / 0x2000000) w ≡ Some (operands Branch op w)
    → decoded w ≡ made op 0 rs1 rs2 imm
branch_round w p o f3 rs1 rs2 imm op shape below_o below_f3 below_rs1 below_rs2 signed even is here =
    let bits_is : 2 * joined b_bits w ≡ imm % 2 ^ 13 = omega arith in
    by_parts w o f3 (w / 0x2000000) (operands Branch op w) (omega arith) (omega arith) (omega arith) refl here
    ∙ same_made op 0 (field 19 15 w) (field 24 20 w) (sign_extended 13 (2 * joined b_bits w)) 0 rs1 rs2 imm
    refl (omega arith) (omega arith) (ap (sign_extended 13) bits_is ∙ sym signed)

-- the word of an instruction with the upper part of a word decodes to it
pub upper_round : (w o rd imm : ℕ) (op : Op) → o < 0x80 → rd < 32 → imm < 2 ^ 32 → imm % 2 ^ 12 ≡ 0
    → w ≡ o + (rd * 2 ^ 7 + placed 31 u_bits imm)
    → instr_at o (w / 0x1000 % 8) (w / 0x2000000) w ≡ Some (operands Upper op w)
    → decoded w ≡ made op rd 0 0 imm
upper_round w o rd imm op below_o below_rd fits whole is here =
    by_parts w o (w / 0x1000 % 8) (w / 0x2000000) (operands Upper op w) (omega arith) (omega arith) refl refl here
    ∙ same_made op (field 11 7 w) 0 0 (2 ^ 12 * joined u_bits w) rd 0 0 imm (omega arith) refl refl (omega arith)

-- the word of an instruction of a jump decodes to it
pub jump_round : (w o rd imm : ℕ) (op : Op) → o < 0x80 → rd < 32 → imm ≡ sign_extended 21 (imm % 2 ^ 21) → imm % 2 ≡ 0
    → w ≡ o + (rd * 2 ^ 7 + placed 20 j_bits imm)
    → instr_at o (w / 0x1000 % 8) (w / 0x2000000) w ≡ Some (operands Jump op w)
    → decoded w ≡ made op rd 0 0 imm
jump_round w o rd imm op below_o below_rd signed even is here =
    let bits_is : 2 * joined j_bits w ≡ imm % 2 ^ 21 = omega arith in
    by_parts w o (w / 0x1000 % 8) (w / 0x2000000) (operands Jump op w) (omega arith) (omega arith) refl refl here
    ∙ same_made op (field 11 7 w) 0 0 (sign_extended 21 (2 * joined j_bits w)) rd 0 0 imm
    (omega arith) refl refl (ap (sign_extended 21) bits_is ∙ sym signed)
