-- A definition: what the arithmetic and branch rows give, over whole numbers.
use Rattle.std.specs.Prelude.{◌==◌, ℕ, ◌+◌, ◌-◌, ◌*◌, ◌/◌, ◌%◌, ◌^◌, ◌*ℤ◌, Bool, true, false, ◌&&◌, ℤ, pos, Option, Some, None, is_some, if◌then◌else◌, nat_lt, int_lt, bit_and, bit_or, bit_xor, int_div, int_rem, unsigned_abs}
use Rattle.std.specs.Int.{w32, cast_signed, int_div_euclid, int_rem_euclid}
use Rattle.std.specs.Option.{option_map_or}
use mathlib.Core.Bool.{not}
use Rattle.soc_words.specs.Word.{wrapped_sum}
use Rattle.rv_decode.specs.declared.instr.Op.{Op}
use Rattle.rv_decode.specs.declared.format.Format.{Format}
use Rattle.rv_decode.specs.declared.format.Format.TheVariants.{Register, Immediate, Shift, Offset, Store, Branch, Upper, Jump, Csr, CsrNumber, Bare}
use Rattle.rv_decode.specs.declared.effect.Does.{Does}
use Rattle.rv_decode.specs.declared.effect.Does.TheVariants.{Computes, PutsUpper, Branches, Jumps, Loads, Stores, Fences, UsesCsr, Traps, Returns, Sleeps}
use Rattle.rv_decode.specs.declared.effect.AluFunction.{AluFunction}
use Rattle.rv_decode.specs.declared.effect.AluFunction.TheVariants.{Sum, Difference, ShiftLeft, SetLess, SetLessUnsigned, BitXor, ShiftRight, ShiftRightArithmetic, BitOr, BitAnd, Product, ProductHigh, ProductHighMixed, ProductHighUnsigned, Quotient, QuotientUnsigned, Remainder, RemainderUnsigned}
use Rattle.rv_decode.specs.declared.effect.BranchCondition.{BranchCondition}
use Rattle.rv_decode.specs.declared.effect.BranchCondition.TheVariants.{Equal, NotEqual, Less, NotLess, LessUnsigned, NotLessUnsigned}
use Rattle.rv_decode.specs.Rows.{row_of}

-- a word read as a signed number
abbrev pub signed : ℕ → ℤ
signed n = cast_signed w32 n

-- a whole number modulo 2 ^ 32
abbrev pub word_of : ℤ → ℕ
word_of z = unsigned_abs (int_rem_euclid z (pos (2 ^ 32)))

-- the word above the low 32 bits of a product
abbrev pub high_word : ℤ → ℕ
high_word z = word_of (int_div_euclid z (pos (2 ^ 32)))

-- a function of arithmetic at the values of its two operands
abbrev pub alu_result : AluFunction → ℕ → ℕ → ℕ
alu_result Sum a b = wrapped_sum a b
alu_result Difference a b = (a + (2 ^ 32 - b)) % 2 ^ 32
alu_result ShiftLeft a b = a * 2 ^ (b % 32) % 2 ^ 32
alu_result SetLess a b = if int_lt (signed a) (signed b) then 1 else 0
alu_result SetLessUnsigned a b = if nat_lt a b then 1 else 0
alu_result BitXor a b = bit_xor a b
alu_result ShiftRight a b = a / 2 ^ (b % 32)
alu_result ShiftRightArithmetic a b = word_of (int_div_euclid (signed a) (pos (2 ^ (b % 32))))
alu_result BitOr a b = bit_or a b
alu_result BitAnd a b = bit_and a b
alu_result Product a b = a * b % 2 ^ 32
alu_result ProductHigh a b = high_word (signed a *ℤ signed b)
alu_result ProductHighMixed a b = high_word (signed a *ℤ pos b)
alu_result ProductHighUnsigned a b = a * b / 2 ^ 32
alu_result Quotient a b = if b == 0 then 2 ^ 32 - 1 else word_of (int_div (signed a) (signed b))
alu_result QuotientUnsigned a b = if b == 0 then 2 ^ 32 - 1 else a / b
alu_result Remainder a b = if b == 0 then a else word_of (int_rem (signed a) (signed b))
alu_result RemainderUnsigned a b = if b == 0 then a else a % b

-- the function that a row computes
abbrev pub alu_function : Does → Option AluFunction
alu_function (Computes f) = Some f
alu_function PutsUpper = None
alu_function (Branches c) = None
alu_function Jumps = None
alu_function Loads = None
alu_function Stores = None
alu_function Fences = None
alu_function (UsesCsr c) = None
alu_function Traps = None
alu_function Returns = None
alu_function Sleeps = None

-- the result of a row of arithmetic at the values of its two operands; every other row gives 0
abbrev pub alu_of : Op → ℕ → ℕ → ℕ
alu_of op a b = option_map_or (λ f. alu_result f a b) (alu_function (row_of op).does) 0

-- the row is one of arithmetic
abbrev pub is_alu : Op → Bool
is_alu op = is_some (alu_function (row_of op).does)

-- arithmetic of the format has the immediate as its second operand
abbrev pub takes_immediate : Format → Bool
takes_immediate Register = false
takes_immediate Immediate = true
takes_immediate Shift = true
takes_immediate Offset = false
takes_immediate Store = false
takes_immediate Branch = false
takes_immediate Upper = false
takes_immediate Jump = false
takes_immediate Csr = false
takes_immediate CsrNumber = false
takes_immediate Bare = false

-- the row is one of arithmetic with a register and an immediate
abbrev pub is_alu_immediate : Op → Bool
is_alu_immediate op = is_alu op && takes_immediate (row_of op).format

-- whether a condition holds of the values of two registers
abbrev pub condition_holds : BranchCondition → ℕ → ℕ → Bool
condition_holds Equal a b = a == b
condition_holds NotEqual a b = not (a == b)
condition_holds Less a b = int_lt (signed a) (signed b)
condition_holds NotLess a b = not (int_lt (signed a) (signed b))
condition_holds LessUnsigned a b = nat_lt a b
condition_holds NotLessUnsigned a b = not (nat_lt a b)

-- the condition of a branch row
abbrev pub branch_condition : Does → Option BranchCondition
branch_condition (Computes f) = None
branch_condition PutsUpper = None
branch_condition (Branches c) = Some c
branch_condition Jumps = None
branch_condition Loads = None
branch_condition Stores = None
branch_condition Fences = None
branch_condition (UsesCsr c) = None
branch_condition Traps = None
branch_condition Returns = None
branch_condition Sleeps = None

-- whether a branch row is taken; every other row isn't
abbrev pub taken_at : Op → ℕ → ℕ → Bool
taken_at op a b = option_map_or (λ c. condition_holds c a b) (branch_condition (row_of op).does) false

-- the row is a branch
abbrev pub is_branch : Op → Bool
is_branch op = is_some (branch_condition (row_of op).does)
