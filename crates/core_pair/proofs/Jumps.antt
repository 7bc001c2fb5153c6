-- The immediates of jal and of the branches are even.
use Rattle.std.proofs.Common.{◌≡◌, ℕ, ◌*◌, ◌%◌, Bool, true, false, ◌||◌, List, [], ◌∷◌, Option, Some, None, IfSome, IsTrue, refl, ap, arith, sym, ◌∙◌}
use Rattle.std.specs.List.{find, list_all}
use Rattle.std.specs.Option.{option_map}
use mathlib.Core.Bool.{not}
use Rattle.soc_words.specs.Word.{sign_extended}
use Rattle.rv_decode.specs.Fields.{joined, b_bits, j_bits}
use Rattle.rv_decode.specs.Rows.{Row, rows, matches, instr_of, operands, decoded}
use Rattle.rv_decode.specs.declared.instr.Op.{Op}
use Rattle.rv_decode.specs.declared.format.Format.{Format}
use Rattle.rv_decode.specs.declared.format.Format.TheVariants.{Register, Immediate, Shift, Offset, Store, Branch, Upper, Jump, Csr, CsrNumber, Bare}
use Rattle.core_pair.specs.Execute.{is_jump}

-- a format whose immediate is even
is_even : Format → Bool
is_even Branch = true
is_even Jump = true
is_even _ = false

good : Row → Bool
good r = not (is_jump r.op) || is_even r.format

all_good : list_all good rows ≡ true
unfolding good is_even
all_good = refl

find_good : (p : Row → Bool) (xs : List Row) (r : Row) → list_all good xs ≡ true → find p xs ≡ Some r → good r ≡ true
find_good p [] r all found = grind arith
find_good p (x ∷ xs) r all found = grind (arith, find_good p xs r)

double_even : (n : ℕ) → 2 * n % 2 ≡ 0
double_even n = omega arith

even_extended : (n : ℕ) → sign_extended 13 (2 * n) % 2 ≡ 0
even_extended n = grind arith

even_extended_jump : (n : ℕ) → sign_extended 21 (2 * n) % 2 ≡ 0
even_extended_jump n = grind arith

-- the instruction of a good row
even_operands : (w : ℕ) (op : Op) (f : Format) → is_even f ≡ true → (operands f op w).imm % 2 ≡ 0
unfolding is_even
even_operands w op Branch h = even_extended (joined b_bits w)
even_operands w op Jump h = even_extended_jump (joined j_bits w)
even_operands w op Register h = grind arith
even_operands w op Immediate h = grind arith
even_operands w op Shift h = grind arith
even_operands w op Offset h = grind arith
even_operands w op Store h = grind arith
even_operands w op Upper h = grind arith
even_operands w op Csr h = grind arith
even_operands w op CsrNumber h = grind arith
even_operands w op Bare h = grind arith

same_op : (w : ℕ) (op : Op) (f : Format) → (operands f op w).op ≡ op
same_op w op Branch = refl
same_op w op Jump = refl
same_op w op Register = refl
same_op w op Immediate = refl
same_op w op Shift = refl
same_op w op Offset = refl
same_op w op Store = refl
same_op w op Upper = refl
same_op w op Csr = refl
same_op w op CsrNumber = refl
same_op w op Bare = refl

from_good : (jumps even : Bool) → (not jumps || even) ≡ true → jumps ≡ true → even ≡ true
from_good jumps even h is = grind arith

even_row : (w : ℕ) (r : Row) → good r ≡ true → is_jump (instr_of w r).op ≡ true → (instr_of w r).imm % 2 ≡ 0
unfolding good
even_row w r h is = even_operands w r.op r.format (from_good (is_jump r.op) (is_even r.format) h (sym (ap is_jump (same_op w r.op r.format)) ∙ is))

even_found : (w : ℕ) (o : Option Row) → find (matches w) rows ≡ o → IfSome (option_map (instr_of w) o) (λ i. IsTrue (is_jump i.op) → i.imm % 2 ≡ 0)
even_found w None found = tt
even_found w (Some r) found = λ is. even_row w r (find_good (matches w) rows r all_good found) is

pub even_decoded : (w : ℕ) → IfSome (decoded w) (λ i. IsTrue (is_jump i.op) → i.imm % 2 ≡ 0)
unfolding decoded
even_decoded w = even_found w (find (matches w) rows) refl
