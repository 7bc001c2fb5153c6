-- A printed step of a UART is read as this step.
use Rattle.std.proofs.Common.{◌≡◌, ◌<◌, ◌^◌, ◌+◌, ◌/◌, ◌%◌, ℕ, suc, true, List, [], ◌∷◌, ◌++◌, length, codes, Ok, Some, refl, ap, sym, ◌∙◌, arith, append-nil, slice_index}
use Rattle.std.proofs.lemmas.Bool.Decides.{nat_tests}
use Rattle.std.specs.Fmt.{decimal}
use Rattle.std.specs.List.{flat_map, list_all, prefix_len}
use Rattle.hex.specs.Hex.{decode_of, encode_lower, encode_with, hex_digit_value, lower_digits}
use Rattle.hex.proofs.HexLemmas.{IsDigits-lower_digits, decode_of-encode_lower, length-encode_with}
use Rattle.text_fields.specs.Fields.{Text, after_field, field, is_blank, is_part, skip}
use Rattle.text_fields.specs.Quoted.{quoted, quoted_text, turn}
use Rattle.text_fields.proofs.FieldRound.{after_run, field_run, skip_run}
use Rattle.chip_base.specs.UnitTable.{unit_row}
use Rattle.chip_base.specs.declared.chip_unit.ChipUnit.TheVariants as unit
use Rattle.chip_base.specs.Steps.{is_step}
use Rattle.chip_base.specs.declared.script.UartStep.{UartStep}
use Rattle.chip_base.specs.declared.script.UartStep.TheVariants as step
use Rattle.script_text.specs.ScriptFile.{line_of, with_item}
use Rattle.script_text.specs.ScriptLine.{at_of, expect_of, hex_bytes, hex_field, hex_of, or_fault, send_of, text_field, uart_of}
use Rattle.script_text.specs.ScriptText.{has_bytes, is_byte, quoted_byte, step_text}
use Rattle.script_text.specs.declared.script_fault.ScriptKind.TheVariants as kind
use Rattle.script_text.specs.declared.script_item.Item.TheVariants as item
use Rattle.script_text.proofs.Lists.{left, right}
use Rattle.script_text.proofs.NumberRound.{number_end, number_skip_end}
use Rattle.script_text.proofs.QuotedRound.{text_round}
use Rattle.script_text.proofs.SmallBytes.{all_bytes}

-- ---- a wait for a cycle

at_line : (x : Text) → uart_of (skip (codes " at " ++ x)) ≡ at_of (skip x)
unfolding uart_of field after_field skip
at_line x = let one : 1 + prefix_len is_blank x ≡ suc (prefix_len is_blank x) = omega arith in rw one refl

at_read : (cycle : ℕ) → cycle < 2 ^ 32 → at_of (skip (decimal cycle)) ≡ Ok (step.At cycle)
unfolding at_of
at_read cycle small = rw (number_skip_end cycle small, number_end cycle small) refl

-- ---- a wait for a text

expect_line : (x : Text) → uart_of (skip (codes " expect \"" ++ x)) ≡ expect_of (codes "\"" ++ x)
unfolding uart_of field after_field skip
expect_line x = refl

text_read : (x : Text) (bytes : List ℕ) → quoted_text x ≡ Some (bytes, []) → text_field (codes "\"" ++ x) ≡ Ok (bytes, [])
unfolding text_field skip
text_read x bytes is = rw is refl

expect_read : (bytes : List ℕ) → is_step (step.Expect bytes) ≡ true → list_all is_byte bytes ≡ true → expect_of (codes "\"" ++ (flat_map quoted_byte bytes ++ codes "\"")) ≡ Ok (step.Expect bytes)
unfolding expect_of
expect_read bytes is all = rw (text_read (flat_map quoted_byte bytes ++ codes "\"") bytes (text_round bytes all), is) refl

-- ---- bytes to send

send_empty : uart_of (skip (codes " send \"\"")) ≡ Ok (step.Send [])
unfolding uart_of field after_field skip send_of text_field quoted turn
send_empty = refl

hex_line : (x : Text) → uart_of (skip (codes " hex " ++ x)) ≡ hex_of (skip x)
unfolding uart_of field after_field skip
hex_line x = let one : 1 + prefix_len is_blank x ≡ suc (prefix_len is_blank x) = omega arith in rw one refl

digit_part : (c d : ℕ) → hex_digit_value c ≡ Some d → is_part c ≡ true
digit_part c d h = grind (arith, nat_tests, h)

digits_parts : (bytes : List ℕ) → list_all is_byte bytes ≡ true → list_all is_part (encode_lower bytes) ≡ true
unfolding encode_with
digits_parts [] all = refl
digits_parts (b ∷ bs) all =
    let one = left (is_byte b) _ all in
    let small : b < 256 = grind (arith, nat_tests) in
    let high = digit_part (slice_index lower_digits (b / 16)) (b / 16) (IsDigits-lower_digits (b / 16) (omega arith)) in
    let low = digit_part (slice_index lower_digits (b % 16)) (b % 16) (IsDigits-lower_digits (b % 16) (omega arith)) in
    rw (high, low) (digits_parts bs (right (is_byte b) _ all))

hex_some : (t : Text) → 0 < length t → hex_field t ≡ or_fault kind.Hex (hex_bytes (decode_of (field t))) (after_field t)
unfolding hex_field
hex_some [] h = absurd (omega arith)
hex_some (b ∷ more) h = refl

hex_read : (t : Text) (bytes : List ℕ) → 0 < length t → field t ≡ t → after_field t ≡ [] → decode_of t ≡ Ok bytes → hex_of t ≡ Ok (step.Send bytes)
unfolding hex_of
hex_read t bytes some whole rest is = rw (hex_some t some, whole, rest, is) refl

no_field : skip [] ≡ []
unfolding skip
no_field = refl

-- digits that end a line
hex_end : (t : Text) (bytes : List ℕ) → 0 < length t → list_all is_part t ≡ true → decode_of t ≡ Ok bytes → hex_of (skip t) ≡ Ok (step.Send bytes)
hex_end t bytes some parts is =
    let same = append-nil t in
    let front : skip t ≡ t = ap skip (sym same) ∙ skip_run t [] parts some ∙ same in
    let whole : field t ≡ t = ap field (sym same) ∙ field_run t [] parts refl in
    let rest : after_field t ≡ [] = ap after_field (sym same) ∙ after_run t [] parts refl ∙ no_field in
    ap hex_of front ∙ hex_read t bytes some whole rest is

sent_read : (b : ℕ) (more : List ℕ) → list_all is_byte (b ∷ more) ≡ true → hex_of (skip (encode_lower (b ∷ more))) ≡ Ok (step.Send (b ∷ more))
sent_read b more all =
    let long = length-encode_with lower_digits (b ∷ more) in
    hex_end (encode_lower (b ∷ more)) (b ∷ more) (omega (arith, long)) (digits_parts (b ∷ more) all) (decode_of-encode_lower (b ∷ more) (all_bytes (b ∷ more) all))

-- ---- the step of a line

image_read : uart_of (skip (codes " image")) ≡ Ok step.Image
unfolding uart_of field after_field skip
image_read = refl

pub step_read : (u : UartStep) → is_step u ≡ true → has_bytes u ≡ true → uart_of (skip (step_text u)) ≡ Ok u
unfolding step_text
step_read (step.At cycle) is all = let small : cycle < 2 ^ 32 = grind (arith, nat_tests) in at_line (decimal cycle) ∙ at_read cycle small
step_read (step.Expect bytes) is all = expect_line (flat_map quoted_byte bytes ++ codes "\"") ∙ expect_read bytes is all
step_read (step.Send []) is all = send_empty
step_read (step.Send (b ∷ more)) is all = hex_line (encode_lower (b ∷ more)) ∙ sent_read b more all
step_read step.Image is all = image_read

-- a step's text begins with a blank
blank_first : (u : UartStep) → (x : Text) × (step_text u ≡ 32 ∷ x)
unfolding step_text
blank_first (step.At cycle) = (codes "at " ++ decimal cycle, refl)
blank_first (step.Expect bytes) = (codes "expect \"" ++ (flat_map quoted_byte bytes ++ codes "\""), refl)
blank_first (step.Send []) = (codes "send \"\"", refl)
blank_first (step.Send (b ∷ more)) = (codes "hex " ++ encode_lower (b ∷ more), refl)
blank_first step.Image = (codes "image", refl)

first_line : (last : ℕ) (x : Text) → line_of last ((unit_row unit.Uart0).name ++ (32 ∷ x)) ≡ with_item item.Uart0 (uart_of (skip (32 ∷ x)))
unfolding line_of field after_field skip
first_line last x = refl

second_line : (last : ℕ) (x : Text) → line_of last ((unit_row unit.Uart1).name ++ (32 ∷ x)) ≡ with_item item.Uart1 (uart_of (skip (32 ∷ x)))
unfolding line_of field after_field skip
second_line last x = refl

pub uart0_read : (last : ℕ) (u : UartStep) → is_step u ≡ true → has_bytes u ≡ true → line_of last ((unit_row unit.Uart0).name ++ step_text u) ≡ Ok (item.Uart0 u)
uart0_read last u is all =
    let first = blank_first u in
    ap (λ t. line_of last ((unit_row unit.Uart0).name ++ t)) first.1 ∙ first_line last first.0 ∙ ap (λ t. with_item item.Uart0 (uart_of (skip t))) (sym first.1) ∙ ap (with_item item.Uart0) (step_read u is all)

pub uart1_read : (last : ℕ) (u : UartStep) → is_step u ≡ true → has_bytes u ≡ true → line_of last ((unit_row unit.Uart1).name ++ step_text u) ≡ Ok (item.Uart1 u)
uart1_read last u is all =
    let first = blank_first u in
    ap (λ t. line_of last ((unit_row unit.Uart1).name ++ t)) first.1 ∙ second_line last first.0 ∙ ap (λ t. with_item item.Uart1 (uart_of (skip t))) (sym first.1) ∙ ap (with_item item.Uart1) (step_read u is all)
