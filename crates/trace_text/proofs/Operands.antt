-- Operands by their printed texts.
use Rattle.std.proofs.Common.{◌≡◌, ℕ, ◌+◌, ◌-◌, ◌*◌, ◌/◌, ◌%◌, ◌<◌, ◌≤◌, ◌^◌, ◌∷◌, ◌++◌, codes, refl, sym, ap, ◌∙◌, arith, append_assoc}
use Rattle.std.specs.Prelude.{nat_lt, if◌then◌else◌}
use Rattle.std.proofs.lemmas.Bool.Decides.{nat_tests}
use Rattle.std.proofs.lemmas.Fmt.{decimal_injective}
use Rattle.std.proofs.lemmas.List.{append_cancel_right}
use Rattle.soc_words.specs.Text.{hex_word}
use Rattle.soc_words.specs.Word.{sign_extended, wrapped_sum}
use Rattle.rv_decode.specs.Fields.{b_bits, field, i_bits, j_bits, joined, s_bits, u_bits}
use Rattle.rv_decode.specs.Rows.{operands}
use Rattle.rv_decode.specs.declared.format.Format.{Format}
use Rattle.rv_decode.specs.declared.format.Format.TheVariants.{Register, Immediate, Shift, Offset, Store, Branch, Upper, Jump, Csr, CsrNumber, Bare}
use Rattle.rv_decode.specs.declared.instr.Instr.{Instr}
use Rattle.rv_decode.specs.declared.instr.Op.{Op}
use Rattle.trace_text.specs.Instruction.{Text, before, last_digits, operands_text, register_name, signed_text}
use Rattle.trace_text.proofs.Cuts.{cut}
use Rattle.trace_text.proofs.Printing.{five_told, hex_told, register_field, register_told, signed_field, signed_told, three_field, three_told}

after_comma : (s t : Text) → 44 ∷ 32 ∷ s ≡ 44 ∷ 32 ∷ t → s ≡ t
after_comma s t e = cc

after_mark : (c : ℕ) (s t : Text) → c ∷ s ≡ c ∷ t → s ≡ t
after_mark c s t e = cc

-- what stands behind the first of three texts
regrouped : (a b c d e f : Text) → a ++ b ++ c ≡ d ++ e ++ f → a ++ (b ++ c) ≡ d ++ (e ++ f)
regrouped a b c d e f same = sym (append_assoc a b c) ∙ same ∙ append_assoc d e f

-- a register and what follows it
first_told : (m n : ℕ) (s t : Text) → m < 2 ^ 32 → n < 2 ^ 32 → before (register_name m) s ≡ before (register_name n) t → (m ≡ n) × (s ≡ t)
first_told m n s t below_m below_n e =
    let parts = cut (register_name m) (44 ∷ 32 ∷ s) (register_name n) (44 ∷ 32 ∷ t) (register_field m below_m) (register_field n below_n) refl refl
    (regrouped (register_name m) (codes ", ") s (register_name n) (codes ", ") t e) in
    (register_told m n below_m below_n parts.0, after_comma s t parts.1)

-- a control and status register and what follows it
csr_told : (m n : ℕ) (s t : Text) → m < 2 ^ 12 → n < 2 ^ 12 → before (last_digits 3 m) s ≡ before (last_digits 3 n) t → (m ≡ n) × (s ≡ t)
csr_told m n s t below_m below_n e =
    let parts = cut (last_digits 3 m) (44 ∷ 32 ∷ s) (last_digits 3 n) (44 ∷ 32 ∷ t) (three_field m) (three_field n) refl refl
    (regrouped (last_digits 3 m) (codes ", ") s (last_digits 3 n) (codes ", ") t e) in
    (three_told m n below_m below_n parts.0, after_comma s t parts.1)

-- an offset from a register
address_told : (m n a b : ℕ) → m < 2 ^ 32 → n < 2 ^ 32 → a < 2 ^ 32 → b < 2 ^ 32
    → signed_text m ++ codes "(" ++ register_name a ++ codes ")" ≡ signed_text n ++ codes "(" ++ register_name b ++ codes ")" → (m ≡ n) × (a ≡ b)
address_told m n a b below_m below_n below_a below_b e =
    let open_ended : signed_text m ++ codes "(" ++ register_name a ≡ signed_text n ++ codes "(" ++ register_name b
    = append_cancel_right (signed_text m ++ codes "(" ++ register_name a) (signed_text n ++ codes "(" ++ register_name b) (codes ")") e in
    let parts = cut (signed_text m) (40 ∷ register_name a) (signed_text n) (40 ∷ register_name b) (signed_field m below_m) (signed_field n below_n) refl refl
    (regrouped (signed_text m) (codes "(") (register_name a) (signed_text n) (codes "(") (register_name b) open_ended) in
    (signed_told m n below_m below_n parts.0, register_told a b below_a below_b (after_mark 40 (register_name a) (register_name b) parts.1))

-- where a branch or a jump goes
target_told : (pc m n : ℕ) → m < 2 ^ 32 → n < 2 ^ 32 → hex_word (wrapped_sum pc m) ≡ hex_word (wrapped_sum pc n) → m ≡ n
target_told pc m n below_m below_n e =
    let same : (pc + m) % 2 ^ 32 ≡ (pc + n) % 2 ^ 32 = hex_told ((pc + m) % 2 ^ 32) ((pc + n) % 2 ^ 32) (omega arith) (omega arith) e in
    omega (arith, same, below_m, below_n)

extended_fits : (half low x : ℕ) → x < low → low ≤ 2 ^ 32 → (if nat_lt x half then x else x + (2 ^ 32 - low)) < 2 ^ 32
extended_fits half low x below fits = grind (arith, nat_tests)

-- the immediates are words
i_fits : (w : ℕ) → sign_extended 12 (joined i_bits w) < 2 ^ 32
i_fits w = extended_fits (2 ^ 11) (2 ^ 12) (joined i_bits w) (omega arith) (omega arith)

s_fits : (w : ℕ) → sign_extended 12 (joined s_bits w) < 2 ^ 32
s_fits w = extended_fits (2 ^ 11) (2 ^ 12) (joined s_bits w) (omega arith) (omega arith)

b_fits : (w : ℕ) → sign_extended 13 (2 * joined b_bits w) < 2 ^ 32
b_fits w = extended_fits (2 ^ 12) (2 ^ 13) (2 * joined b_bits w) (omega arith) (omega arith)

j_fits : (w : ℕ) → sign_extended 21 (2 * joined j_bits w) < 2 ^ 32
j_fits w = extended_fits (2 ^ 20) (2 ^ 21) (2 * joined j_bits w) (omega arith) (omega arith)

made : Op → ℕ → ℕ → ℕ → ℕ → ℕ → Instr
made op rd rs1 rs2 imm csr = record { op = op; rd = rd; rs1 = rs1; rs2 = rs2; imm = imm; csr = csr }

-- an instruction is the same where its operands are
same_made : (op : Op) (a b c d e f g h i j : ℕ) → a ≡ f → b ≡ g → c ≡ h → d ≡ i → e ≡ j → made op a b c d e ≡ made op f g h i j
same_made op a b c d e f g h i j p q r s t =
    ap (λ (x : ℕ). made op x b c d e) p ∙ ap (λ (x : ℕ). made op f x c d e) q ∙ ap (λ (x : ℕ). made op f g x d e) r
    ∙ ap (λ (x : ℕ). made op f g h x e) s ∙ ap (made op f g h i) t

-- a word's operands in a format are told by their text
pub operands_told : (f : Format) (op : Op) (pc v w : ℕ) → operands_text f pc (operands f op v) ≡ operands_text f pc (operands f op w)
    → operands f op v ≡ operands f op w
unfolding operands_text made
operands_told Register op pc v w e =
    let rd = first_told (field 11 7 v) (field 11 7 w) _ _ (omega arith) (omega arith) e in
    let rs1 = first_told (field 19 15 v) (field 19 15 w) _ _ (omega arith) (omega arith) rd.1 in
    let rs2 = register_told (field 24 20 v) (field 24 20 w) (omega arith) (omega arith) rs1.1 in
    same_made op _ _ _ _ _ _ _ _ _ _ rd.0 rs1.0 rs2 refl refl
operands_told Immediate op pc v w e =
    let rd = first_told (field 11 7 v) (field 11 7 w) _ _ (omega arith) (omega arith) e in
    let rs1 = first_told (field 19 15 v) (field 19 15 w) _ _ (omega arith) (omega arith) rd.1 in
    same_made op _ _ _ _ _ _ _ _ _ _ rd.0 rs1.0 refl (signed_told _ _ (i_fits v) (i_fits w) rs1.1) refl
operands_told Shift op pc v w e =
    let rd = first_told (field 11 7 v) (field 11 7 w) _ _ (omega arith) (omega arith) e in
    let rs1 = first_told (field 19 15 v) (field 19 15 w) _ _ (omega arith) (omega arith) rd.1 in
    same_made op _ _ _ _ _ _ _ _ _ _ rd.0 rs1.0 refl (signed_told (field 24 20 v) (field 24 20 w) (omega arith) (omega arith) rs1.1) refl
operands_told Offset op pc v w e =
    let rd = first_told (field 11 7 v) (field 11 7 w) _ _ (omega arith) (omega arith) e in
    let address = address_told _ _ (field 19 15 v) (field 19 15 w) (i_fits v) (i_fits w) (omega arith) (omega arith) rd.1 in
    same_made op _ _ _ _ _ _ _ _ _ _ rd.0 address.1 refl address.0 refl
operands_told Store op pc v w e =
    let rs2 = first_told (field 24 20 v) (field 24 20 w) _ _ (omega arith) (omega arith) e in
    let address = address_told _ _ (field 19 15 v) (field 19 15 w) (s_fits v) (s_fits w) (omega arith) (omega arith) rs2.1 in
    same_made op _ _ _ _ _ _ _ _ _ _ refl address.1 rs2.0 address.0 refl
operands_told Branch op pc v w e =
    let rs1 = first_told (field 19 15 v) (field 19 15 w) _ _ (omega arith) (omega arith) e in
    let rs2 = first_told (field 24 20 v) (field 24 20 w) _ _ (omega arith) (omega arith) rs1.1 in
    same_made op _ _ _ _ _ _ _ _ _ _ refl rs1.0 rs2.0 (target_told pc _ _ (b_fits v) (b_fits w) rs2.1) refl
operands_told Upper op pc v w e =
    let rd = first_told (field 11 7 v) (field 11 7 w) _ _ (omega arith) (omega arith) e in
    let upper = five_told (2 ^ 12 * joined u_bits v / 2 ^ 12) (2 ^ 12 * joined u_bits w / 2 ^ 12) (omega arith) (omega arith) rd.1 in
    let imm : 2 ^ 12 * joined u_bits v ≡ 2 ^ 12 * joined u_bits w = omega (arith, upper) in
    same_made op _ _ _ _ _ _ _ _ _ _ rd.0 refl refl imm refl
operands_told Jump op pc v w e =
    let rd = first_told (field 11 7 v) (field 11 7 w) _ _ (omega arith) (omega arith) e in
    same_made op _ _ _ _ _ _ _ _ _ _ rd.0 refl refl (target_told pc _ _ (j_fits v) (j_fits w) rd.1) refl
operands_told Csr op pc v w e =
    let rd = first_told (field 11 7 v) (field 11 7 w) _ _ (omega arith) (omega arith) e in
    let csr = csr_told (field 31 20 v) (field 31 20 w) _ _ (omega arith) (omega arith) rd.1 in
    let rs1 = register_told (field 19 15 v) (field 19 15 w) (omega arith) (omega arith) csr.1 in
    same_made op _ _ _ _ _ _ _ _ _ _ rd.0 rs1 refl refl csr.0
operands_told CsrNumber op pc v w e =
    let rd = first_told (field 11 7 v) (field 11 7 w) _ _ (omega arith) (omega arith) e in
    let csr = csr_told (field 31 20 v) (field 31 20 w) _ _ (omega arith) (omega arith) rd.1 in
    let imm = decimal_injective (field 19 15 v) (field 19 15 w) (omega arith) (omega arith) csr.1 in
    same_made op _ _ _ _ _ _ _ _ _ _ rd.0 refl refl imm csr.0
operands_told Bare op pc v w e = refl
