-- The texts of words and parcels by the rows of the tables.
use Rattle.std.proofs.Common.{◌≡◌, ℕ, zero, suc, ◌%◌, ◌^◌, ◌<◌, Bool, true, false, List, [], ◌∷◌, ◌++◌, Option, Some, None, codes, refl, sym, ap, ◌∙◌, arith, inl, inr}
use Rattle.std.specs.Prelude.{◌==◌}
use Rattle.std.specs.List.{find, Contains}
use Rattle.std.specs.Option.{option_map}
use Rattle.std.proofs.lemmas.Bool.{cases_Bool}
use Rattle.std.proofs.lemmas.Bool.Decides.{nat_tests}
use Rattle.std.proofs.lemmas.List.{append-nil, append_assoc}
use Rattle.rv_decode.specs.Parcels.{HasParcelRow, ParcelRow, equivalent_of, expanded, has_parcel_row, parcel_rows, word_at}
use Rattle.rv_decode.specs.Rows.{decoded, instr_of, operands, row_of}
use Rattle.rv_decode.specs.declared.format.Format.{Format}
use Rattle.rv_decode.specs.declared.format.Format.TheVariants.{Register, Bare}
use Rattle.rv_decode.specs.declared.instr.Instr.{Instr}
use Rattle.rv_decode.specs.declared.instr.Op.{Op}
use Rattle.rv_decode.proofs.Masks.{own_op}
use Rattle.rv_decode.proofs.Unique.{decoded_row}
use Rattle.rv_decode.proofs.UniqueParcel.{expanded_row, one_parcel_row}
use Rattle.trace_text.specs.Instruction.{Text, after_name, instruction_text, issued, issued_text, operands_text, text_or_illegal}
use Rattle.trace_text.specs.Printed.{PrintsByRow, PrintsParcels, PrintsWords}
use Rattle.trace_text.proofs.Names.{with_operands, with_operands_op}

-- a blank and the operands follow a name, where the format has operands
after_operands : (f : Format) (operands : Text) → ¬ (f ≡ Bare) → after_name f operands ≡ codes " " ++ operands
after_operands Bare operands other = absurd (other refl)
after_operands Register operands other = refl
after_operands f operands other = refl

-- the text of an instruction is by the row of its operation
by_row : (pc : ℕ) (i : Instr) (op : Op) (text : Text) → i.op ≡ op → text ≡ instruction_text pc i → PrintsByRow pc (row_of op) i text
unfolding instruction_text
by_row pc i op text same is =
    let whole : text ≡ (row_of op).name ++ after_name (row_of op).format (operands_text (row_of op).format pc i)
    = is ∙ ap (λ o. (row_of o).name ++ after_name (row_of o).format (operands_text (row_of o).format pc i)) same in (
      λ bare. whole ∙ ap (λ f. (row_of op).name ++ after_name f (operands_text (row_of op).format pc i)) bare ∙ append-nil (row_of op).name,
      λ other. whole ∙ ap (λ rest. (row_of op).name ++ rest) (after_operands (row_of op).format (operands_text (row_of op).format pc i) other)
          ∙ sym (append_assoc (row_of op).name (codes " ") (operands_text (row_of op).format pc i)),
    )

word_issued : (word : ℕ) → word % 4 ≡ 3 → issued word ≡ decoded word
word_issued word low = let t : (word % 4 == 3) ≡ true = grind (arith, nat_tests) in rw t refl

-- words print by the rows of their operations
pub words_print : (pc : ℕ) → PrintsWords pc
unfolding issued_text
words_print pc word op low has =
    let is : instr_of word (row_of op) ≡ with_operands op word = ap (λ o. operands (row_of op).format o word) (own_op op) in
    by_row pc (instr_of word (row_of op)) op (issued_text pc word) (ap (λ i. i.op) is ∙ with_operands_op op word)
    (ap (text_or_illegal pc) (word_issued word low ∙ decoded_row word op has))

-- an element that is found is in the list and passes the test
found_in : {X : Type 0} (test : X → Bool) (xs : List X) (x : X) → find test xs ≡ Some x → Contains xs x × (test x ≡ true)
found_in test [] x e = absurd (cc)
found_in test (y ∷ ys) x e = elim (cases_Bool (test y)) [
  | inl on ↦ let here : Some y ≡ Some x = rw on at e in
      let is : y ≡ x = cc in
      ((zero, omega arith, is), sym (ap test is) ∙ on)
  | inr off ↦ let later : find test ys ≡ Some x = rw off at e in
      let rest = found_in test ys x later in
      ((suc rest.0.0, omega (arith, rest.0.1), rest.0.2), rest.1)
]

-- the row of a parcel gives the instruction that it stands for
found_equivalent : (h : ℕ) (r : ParcelRow) → HasParcelRow h r → (o : Option ParcelRow) → find (has_parcel_row h) parcel_rows ≡ o
    → option_map (word_at h) o ≡ Some (word_at h r) → option_map (λ s. s.equivalent h) o ≡ Some (r.equivalent h)
found_equivalent h r has None at e = absurd (cc)
found_equivalent h r has (Some s) at e = ap (λ q. Some (q.equivalent h)) (one_parcel_row h s r (found_in (has_parcel_row h) parcel_rows s at) has)

equivalent_row : (h : ℕ) (r : ParcelRow) → HasParcelRow h r → equivalent_of h ≡ Some (r.equivalent h)
unfolding equivalent_of expanded
equivalent_row h r has = found_equivalent h r has (find (has_parcel_row h) parcel_rows) refl (expanded_row h r has)

parcel_issued : (half : ℕ) → half < 2 ^ 16 → ¬ (half % 4 ≡ 3) → issued half ≡ equivalent_of half
parcel_issued half below low =
    let t : (half % 4 == 3) ≡ false = grind (arith, nat_tests) in
    let whole : half % 2 ^ 16 ≡ half = omega (arith, below) in
    rw (t, whole) refl

-- parcels print by the rows of the operations that they stand for
pub parcels_print : (pc : ℕ) → PrintsParcels pc
unfolding issued_text
parcels_print pc half r below low has =
    by_row pc (r.equivalent half) (r.equivalent half).op (issued_text pc half) refl
    (ap (text_or_illegal pc) (parcel_issued half below low ∙ equivalent_row half r has))
