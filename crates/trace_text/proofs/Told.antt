-- Instructions by their printed texts.
use Rattle.std.proofs.Common.{◌≡◌, ℕ, Bool, true, false, [], ◌∷◌, ◌++◌, Option, Some, None, codes, refl, sym, ap, ◌∙◌}
use Rattle.std.specs.Prelude.{◌==◌, ◌%◌, ◌^◌, IfSome, if◌then◌else◌}
use Rattle.rv_decode.specs.Parcels.{equivalent_of, expanded}
use Rattle.rv_decode.specs.Rows.{decoded, name_of, operands, row_of}
use Rattle.rv_decode.specs.declared.format.Format.{Format}
use Rattle.rv_decode.specs.declared.format.Format.TheVariants.{Register, Bare}
use Rattle.rv_decode.specs.declared.instr.Instr.{Instr}
use Rattle.rv_decode.specs.declared.instr.Op.{Op}
use Rattle.rv_decode.proofs.RoundParcels.{expanded_equivalent}
use Rattle.trace_text.specs.Instruction.{Text, after_name, instruction_text, issued, issued_text, operands_text, text_or_illegal}
use Rattle.trace_text.specs.Printed.{TellsInstruction, TellsIssued}
use Rattle.trace_text.proofs.Cuts.{begins_with_mark, cut}
use Rattle.trace_text.proofs.Parcels.{no_equivalent}
use Rattle.trace_text.proofs.Names.{decoded_operands, name_field, name_told, never_illegal, with_operands, with_operands_op}
use Rattle.trace_text.proofs.Operands.{operands_told}

-- what follows a name begins with a blank, or is nothing
after_marked : (f : Format) (operands : Text) → begins_with_mark (after_name f operands) ≡ true
after_marked Bare operands = refl
after_marked Register operands = refl
after_marked f operands = refl

after_blank : (s t : Text) → 32 ∷ s ≡ 32 ∷ t → s ≡ t
after_blank s t e = cc

-- operands in a format are told by what follows the name
after_told : (f : Format) (op : Op) (pc v w : ℕ) → after_name f (operands_text f pc (operands f op v)) ≡ after_name f (operands_text f pc (operands f op w))
    → operands f op v ≡ operands f op w
after_told Bare op pc v w e = refl
after_told Register op pc v w e = operands_told Register op pc v w (after_blank _ _ e)
after_told f op pc v w e = operands_told f op pc v w (after_blank _ _ e)

-- the text of an operation with a word's operands
text_is : (op : Op) (pc w : ℕ)
    → instruction_text pc (with_operands op w) ≡ name_of op ++ after_name (row_of op).format (operands_text (row_of op).format pc (with_operands op w))
unfolding instruction_text
text_is op pc w = rw (with_operands_op op w) refl

-- two operations with words' operands
with_operands_told : (o p : Op) (pc v w : ℕ) → instruction_text pc (with_operands o v) ≡ instruction_text pc (with_operands p w)
    → with_operands o v ≡ with_operands p w
with_operands_told o p pc v w e =
    let parts = cut (name_of o) (after_name (row_of o).format (operands_text (row_of o).format pc (with_operands o v)))
    (name_of p) (after_name (row_of p).format (operands_text (row_of p).format pc (with_operands p w)))
    (name_field o) (name_field p) (after_marked _ _) (after_marked _ _) (sym (text_is o pc v) ∙ e ∙ text_is p pc w) in
    let same : o ≡ p = name_told o p parts.0 in
    let rest : after_name (row_of o).format (operands_text (row_of o).format pc (with_operands o v))
    ≡ after_name (row_of o).format (operands_text (row_of o).format pc (with_operands o w))
    = parts.1 ∙ ap (λ q. after_name (row_of q).format (operands_text (row_of q).format pc (with_operands q w))) (sym same) in
    after_told (row_of o).format o pc v w rest ∙ ap (λ q. with_operands q w) same

-- instructions of words
pub instruction_told : (pc : ℕ) → TellsInstruction pc
instruction_told pc v w i j at_v at_w e =
    let o = decoded_operands v i at_v in
    let p = decoded_operands w j at_w in
    o.1 ∙ with_operands_told o.0 p.0 pc v w (sym (ap (instruction_text pc) o.1) ∙ e ∙ ap (instruction_text pc) p.1) ∙ sym p.1

-- no instruction prints as a word without one
prints_no_illegal : (pc w : ℕ) (i : Instr) → decoded w ≡ Some i → instruction_text pc i ≡ codes "illegal" → ⊥
prints_no_illegal pc w i at e =
    let o = decoded_operands w i at in
    let parts = cut (name_of o.0) (after_name (row_of o.0).format (operands_text (row_of o.0).format pc (with_operands o.0 w))) (codes "illegal") []
    (name_field o.0) refl (after_marked _ _) refl (sym (text_is o.0 pc w) ∙ sym (ap (instruction_text pc) o.1) ∙ e) in
    never_illegal o.0 parts.0

-- an instruction that a word stands for
abbrev IsOfWord : Option Instr → Type 0
IsOfWord o = (i : Instr) → o ≡ Some i → (word : ℕ) × (decoded word ≡ Some i)

parcel_word : (h : ℕ) (o : Option ℕ) → o ≡ expanded h → IfSome o (λ w. decoded w ≡ equivalent_of h) → IsOfWord (equivalent_of h)
parcel_word h None none is i at = let no = no_equivalent h none in absurd (cc)
parcel_word h (Some word) some is i at = (word, is ∙ at)

chosen_word : (b : Bool) (o p : Option Instr) → IsOfWord o → IsOfWord p → IsOfWord (if b then o else p)
chosen_word true o p at_o at_p = at_o
chosen_word false o p at_o at_p = at_p

issued_word : (word : ℕ) → IsOfWord (issued word)
issued_word word =
    chosen_word (word % 4 == 3) (decoded word) (equivalent_of (word % 2 ^ 16)) (λ i at. (word, at))
    (parcel_word (word % 2 ^ 16) (expanded (word % 2 ^ 16)) refl (expanded_equivalent (word % 2 ^ 16)))

option_told : (pc : ℕ) (o p : Option Instr) → IsOfWord o → IsOfWord p → text_or_illegal pc o ≡ text_or_illegal pc p → o ≡ p
option_told pc None None at_o at_p e = refl
option_told pc None (Some j) at_o at_p e = let w = at_p j refl in absurd (prints_no_illegal pc w.0 j w.1 (sym e))
option_told pc (Some i) None at_o at_p e = let w = at_o i refl in absurd (prints_no_illegal pc w.0 i w.1 e)
option_told pc (Some i) (Some j) at_o at_p e =
    let v = at_o i refl in
    let w = at_p j refl in
    ap Some (instruction_told pc v.0 w.0 i j v.1 w.1 e)

-- issued words
pub issued_told : (pc : ℕ) → TellsIssued pc
unfolding issued_text
issued_told pc v w e = option_told pc (issued v) (issued w) (issued_word v) (issued_word w) e
