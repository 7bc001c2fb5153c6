-- Operations by their printed names, and instructions by their words.
use Rattle.std.proofs.Common.{◌≡◌, ℕ, true, List, [], ◌∷◌, Option, Some, None, codes, refl, sym, ap, ◌∙◌, map, inl, inr}
use Rattle.std.specs.List.{find}
use Rattle.std.specs.Option.{option_map}
use Rattle.std.specs.Str.{bytes_eq}
use Rattle.std.proofs.lemmas.Bool.{cases_Bool}
use Rattle.rv_decode.specs.declared.format.Format.{Format}
use Rattle.rv_decode.specs.declared.format.Format.TheVariants.{Register}
use Rattle.rv_decode.specs.declared.instr.Instr.{Instr}
use Rattle.rv_decode.specs.declared.instr.Op.{Op}
use Rattle.rv_decode.specs.declared.instr.Op.TheVariants.{Lui}
use Rattle.rv_decode.specs.Rows.{decoded, instr_of, matches, name_of, operands, ops, row_of}
use Rattle.rv_decode.proofs.Masks.{own_op}
use Rattle.trace_text.specs.Instruction.{Text}
use Rattle.trace_text.proofs.Cuts.{is_field}

-- the operation of a name
op_named : Text → Option Op
op_named name = find (λ op. bytes_eq name (name_of op)) ops

named : (op : Op) → op_named (name_of op) ≡ Some op
unfolding op_named
named Lui = refl
named op = refl

-- a name is one operation's
pub name_told : (o p : Op) → name_of o ≡ name_of p → o ≡ p
name_told o p e = let same : Some o ≡ Some p = sym (named o) ∙ ap op_named e ∙ named p in cc

illegal_unnamed : op_named (codes "illegal") ≡ None
unfolding op_named
illegal_unnamed = refl

-- no operation has this name
pub never_illegal : (op : Op) → name_of op ≡ codes "illegal" → ⊥
never_illegal op e = let both : None ≡ Some op = sym illegal_unnamed ∙ ap op_named (sym e) ∙ named op in absurd (cc)

-- a name has no mark in it
pub name_field : (op : Op) → is_field (name_of op) ≡ true
name_field Lui = refl
name_field op = refl

-- the instruction of an operation, by the operands of a word
abbrev pub with_operands : Op → ℕ → Instr
with_operands op word = operands (row_of op).format op word

operands_op : (f : Format) (op : Op) (word : ℕ) → (operands f op word).op ≡ op
operands_op Register op word = refl
operands_op f op word = refl

-- which has this operation
pub with_operands_op : (op : Op) (word : ℕ) → (with_operands op word).op ≡ op
with_operands_op op word = operands_op (row_of op).format op word

-- where a word was found to be an instruction, it is one of an operation with the word's operands
found : (word : ℕ) (i : Instr) (os : List Op) → option_map (instr_of word) (find (matches word) (map row_of os)) ≡ Some i
    → (op : Op) × (i ≡ with_operands op word)
found word i [] e = absurd (cc)
found word i (op ∷ os) e = elim (cases_Bool (matches word (row_of op))) [
  | inl on ↦ let here : Some (instr_of word (row_of op)) ≡ Some i = rw on at e in
      let is : instr_of word (row_of op) ≡ i = cc in
      (op, sym is ∙ ap (λ o. operands (row_of op).format o word) (own_op op))
  | inr off ↦ let later : option_map (instr_of word) (find (matches word) (map row_of os)) ≡ Some i = rw off at e in found word i os later
]

-- a decoded word is an instruction of an operation with the word's operands
pub decoded_operands : (word : ℕ) (i : Instr) → decoded word ≡ Some i → (op : Op) × (i ≡ with_operands op word)
unfolding decoded
decoded_operands word i e = found word i ops e
