-- The word that a parcel stands for decodes to the operation and the operands of the parcel's row.
use Rattle.std.proofs.Common.{◌≡◌, ℕ, ◌+◌, ◌%◌, ◌^◌, ◌<◌, Bool, true, false, List, [], ◌∷◌, Option, Some, None, IfSome, refl, ap, arith, find, cond, is_some, IsSome}
use Rattle.std.specs.Option.{option_map}
use Rattle.std.specs.Bool.{⊤}
use Rattle.std.proofs.lemmas.Bool.Decides.{nat_tests}
use Rattle.soc_words.specs.Word.{sign_extended}
use Rattle.rv_decode.specs.Fields.{field, placed}
use Rattle.rv_decode.specs.declared.instr.Op.TheVariants.{Lui, Jal, Jalr, Beq, Bne, Lw, Sw, Addi, Andi, Slli, Srli, Srai, Add, Xor, Or, And, Sub, Ebreak}
use Rattle.rv_decode.specs.Rows.{decoded}
use Rattle.rv_decode.specs.Parcels.{ParcelRow, parcel_rows, has_parcel_row, expanded, equivalent_of, word_at}
use Rattle.rv_decode.specs.Parcels.{short_register, frame_offset, word_offset, small, jump_offset, stack_step, upper, branch_offset, stack_load_offset, stack_store_offset}
use Rattle.rv_decode.proofs.Round.{made, register_round, shift_round, immediate_round, store_round, branch_round, upper_round, jump_round}

-- an immediate is its low bits, sign-extended
abbrev Canonical : ℕ → ℕ → Type 0
Canonical bits n = n ≡ sign_extended bits (n % 2 ^ bits)

positive : (n : ℕ) → n < 2 ^ 11 → Canonical 12 n
positive n below = grind (arith, nat_tests)

from_6 : (v : ℕ) → v < 2 ^ 6 → Canonical 12 (sign_extended 6 v)
from_6 v below = grind (arith, nat_tests)

from_10 : (v : ℕ) → v < 2 ^ 10 → Canonical 12 (sign_extended 10 v)
from_10 v below = grind (arith, nat_tests)

from_9 : (v : ℕ) → v < 2 ^ 9 → Canonical 13 (sign_extended 9 v)
from_9 v below = grind (arith, nat_tests)

from_12 : (v : ℕ) → v < 2 ^ 12 → Canonical 21 (sign_extended 12 v)
from_12 v below = grind (arith, nat_tests)

even_9 : (v : ℕ) → v % 2 ≡ 0 → sign_extended 9 v % 2 ≡ 0
even_9 v even = grind (arith, nat_tests)

even_12 : (v : ℕ) → v % 2 ≡ 0 → sign_extended 12 v % 2 ≡ 0
even_12 v even = grind (arith, nat_tests)

upper_fits : (v : ℕ) → v < 2 ^ 18 → sign_extended 18 v < 2 ^ 32
upper_fits v below = grind (arith, nat_tests)

upper_whole : (v : ℕ) → v % 2 ^ 12 ≡ 0 → sign_extended 18 v % 2 ^ 12 ≡ 0
upper_whole v whole = grind (arith, nat_tests)

-- a row's word decodes to its instruction
abbrev Rounds : ℕ → ParcelRow → Type 0
Rounds h r = decoded (word_at h r) ≡ Some (r.equivalent h)

abbrev Each : (ParcelRow → Type 0) → List ParcelRow → Type 0
Each P [] = ⊤
Each P (r ∷ rs) = P r × Each P rs

break_round : decoded 0x00100073 ≡ made Ebreak 0 0 0 0
unfolding decoded
break_round = refl

infixr 4 ◌▸◌
-- the proof of a row before the proofs of the rows after it
◌▸◌ : {A B : Type 0} → A → B → A × B
a ▸ b = (a, b)

every_row : (h : ℕ) → Each (Rounds h) parcel_rows
every_row h =
    let d : ℕ = short_register 4 2 h in
    let s : ℕ = short_register 9 7 h in
    let r : ℕ = field 11 7 h in
    let t : ℕ = field 6 2 h in
    let below_d : short_register 4 2 h < 32 = omega arith in
    let below_s : short_register 9 7 h < 32 = omega arith in
    let below_r : field 11 7 h < 32 = omega arith in
    let below_t : field 6 2 h < 32 = omega arith in
    let small_is : Canonical 12 (small h) = from_6 (placed 12 ((5, 5) ∷ []) h + placed 6 ((4, 0) ∷ []) h) (omega arith) in
    let branch_is : Canonical 13 (branch_offset h) = from_9 (placed 12 ((8, 8) ∷ (4, 3) ∷ []) h + placed 6 ((7, 6) ∷ (2, 1) ∷ (5, 5) ∷ []) h) (omega arith) in
    let branch_even : branch_offset h % 2 ≡ 0 = even_9 (placed 12 ((8, 8) ∷ (4, 3) ∷ []) h + placed 6 ((7, 6) ∷ (2, 1) ∷ (5, 5) ∷ []) h) (omega arith) in
    let jump_is : Canonical 21 (jump_offset h) = from_12 (placed 12 ((11, 11) ∷ (4, 4) ∷ (9, 8) ∷ (10, 10) ∷ (6, 6) ∷ (7, 7) ∷ (3, 1) ∷ (5, 5) ∷ []) h) (omega arith) in
    let jump_even : jump_offset h % 2 ≡ 0 = even_12 (placed 12 ((11, 11) ∷ (4, 4) ∷ (9, 8) ∷ (10, 10) ∷ (6, 6) ∷ (7, 7) ∷ (3, 1) ∷ (5, 5) ∷ []) h) (omega arith) in
    let word_is : Canonical 12 (word_offset h) = positive (word_offset h) (omega arith) in
    immediate_round _ 0x13 0x13 0 d 2 (frame_offset h) Addi refl (omega arith) (omega arith) below_d (omega arith) (positive (frame_offset h) (omega arith)) refl refl ▸
    immediate_round _ 0x2003 0x03 2 d s (word_offset h) Lw refl (omega arith) (omega arith) below_d below_s word_is refl refl ▸
    store_round _ 0x2023 0x23 2 s d (word_offset h) Sw refl (omega arith) (omega arith) below_s below_d word_is refl refl ▸
    immediate_round _ 0x13 0x13 0 r r (small h) Addi refl (omega arith) (omega arith) below_r below_r small_is refl refl ▸
    jump_round _ 0x6f 1 (jump_offset h) Jal (omega arith) (omega arith) jump_is jump_even refl refl ▸
    immediate_round _ 0x13 0x13 0 r 0 (small h) Addi refl (omega arith) (omega arith) below_r (omega arith) small_is refl refl ▸
    immediate_round _ 0x13 0x13 0 2 2 (stack_step h) Addi refl (omega arith) (omega arith) (omega arith) (omega arith) (from_10 (placed 12 ((9, 9) ∷ []) h + placed 6 ((4, 4) ∷ (6, 6) ∷ (8, 7) ∷ (5, 5) ∷ []) h) (omega arith)) refl refl ▸
    upper_round _ 0x37 r (upper h) Lui (omega arith) below_r (upper_fits (placed 12 ((17, 17) ∷ []) h + placed 6 ((16, 12) ∷ []) h) (omega arith)) (upper_whole (placed 12 ((17, 17) ∷ []) h + placed 6 ((16, 12) ∷ []) h) (omega arith)) refl refl ▸
    shift_round _ 0x5013 0x13 5 0 s s t Srli refl (omega arith) (omega arith) (omega arith) below_s below_s below_t refl refl ▸
    shift_round _ 0x40005013 0x13 5 0x20 s s t Srai refl (omega arith) (omega arith) (omega arith) below_s below_s below_t refl refl ▸
    immediate_round _ 0x7013 0x13 7 s s (small h) Andi refl (omega arith) (omega arith) below_s below_s small_is refl refl ▸
    register_round _ 0x40000033 0x33 0 0x20 s s d Sub refl (omega arith) (omega arith) (omega arith) below_s below_s below_d refl refl ▸
    register_round _ 0x4033 0x33 4 0 s s d Xor refl (omega arith) (omega arith) (omega arith) below_s below_s below_d refl refl ▸
    register_round _ 0x6033 0x33 6 0 s s d Or refl (omega arith) (omega arith) (omega arith) below_s below_s below_d refl refl ▸
    register_round _ 0x7033 0x33 7 0 s s d And refl (omega arith) (omega arith) (omega arith) below_s below_s below_d refl refl ▸
    jump_round _ 0x6f 0 (jump_offset h) Jal (omega arith) (omega arith) jump_is jump_even refl refl ▸
    branch_round _ 0x63 0x63 0 s 0 (branch_offset h) Beq refl (omega arith) (omega arith) below_s (omega arith) branch_is branch_even refl refl ▸
    branch_round _ 0x1063 0x63 1 s 0 (branch_offset h) Bne refl (omega arith) (omega arith) below_s (omega arith) branch_is branch_even refl refl ▸
    shift_round _ 0x1013 0x13 1 0 r r t Slli refl (omega arith) (omega arith) (omega arith) below_r below_r below_t refl refl ▸
    immediate_round _ 0x2003 0x03 2 r 2 (stack_load_offset h) Lw refl (omega arith) (omega arith) below_r (omega arith) (positive (stack_load_offset h) (omega arith)) refl refl ▸
    immediate_round _ 0x67 0x67 0 0 r 0 Jalr refl (omega arith) (omega arith) (omega arith) below_r refl refl refl ▸
    register_round _ 0x33 0x33 0 0 r 0 t Add refl (omega arith) (omega arith) (omega arith) below_r (omega arith) below_t refl refl ▸
    break_round ▸
    immediate_round _ 0x67 0x67 0 1 r 0 Jalr refl (omega arith) (omega arith) (omega arith) below_r refl refl refl ▸
    register_round _ 0x33 0x33 0 0 r r t Add refl (omega arith) (omega arith) (omega arith) below_r below_r below_t refl refl ▸
    store_round _ 0x2023 0x23 2 2 t (stack_store_offset h) Sw refl (omega arith) (omega arith) (omega arith) below_t (positive (stack_store_offset h) (omega arith)) refl refl ▸
    tt

found_each : (P : ParcelRow → Type 0) (test : ParcelRow → Bool) (rs : List ParcelRow) → Each P rs → IfSome (find test rs) P
found_each P test [] all = tt
found_each P test (r ∷ rs) all = at (test r) (found_each P test rs all.1)
  where
    at : (b : Bool) → IfSome (find test rs) P → IfSome (cond b (Some r) (find test rs)) P
    at true rest = all.0
    at false rest = rest

rounds_found : (h : ℕ) (r : Option ParcelRow) → IfSome r (Rounds h) → IfSome (option_map (word_at h) r) (λ w. decoded w ≡ option_map (λ r. r.equivalent h) r)
rounds_found h None holds = tt
rounds_found h (Some r) holds = holds

-- the word of a parcel decodes to its equivalent
pub expanded_equivalent : (h : ℕ) → IfSome (expanded h) (λ w. decoded w ≡ equivalent_of h)
unfolding expanded equivalent_of
expanded_equivalent h = rounds_found h (find (has_parcel_row h) parcel_rows) (found_each (Rounds h) (has_parcel_row h) parcel_rows (every_row h))

decodes_found : (h : ℕ) (r : Option ParcelRow) → IfSome r (Rounds h) → IfSome (option_map (word_at h) r) (λ w. IsSome (decoded w))
decodes_found h None holds = tt
decodes_found h (Some r) holds = ap is_some holds

-- the word of a parcel decodes
pub expanded_decodes : (h : ℕ) → IfSome (expanded h) (λ w. IsSome (decoded w))
unfolding expanded
expanded_decodes h = decodes_found h (find (has_parcel_row h) parcel_rows) (found_each (Rounds h) (has_parcel_row h) parcel_rows (every_row h))
