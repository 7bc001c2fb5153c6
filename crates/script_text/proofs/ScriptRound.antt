-- A printed script is read as this script.
use Rattle.std.proofs.Common.{◌≡◌, ◌+◌, ℕ, true, ◌&&◌, List, [], ◌∷◌, ◌++◌, Result, Ok, refl, ap, sym, ◌∙◌, append_assoc, append-nil}
use Rattle.std.specs.Prelude.{nat_le}
use Rattle.std.specs.List.{flat_map, list_all}
use Rattle.text_fields.specs.Fields.{Text, skip}
use Rattle.text_fields.specs.Lines.{lines, pieces, trimmed}
use Rattle.text_fields.proofs.LinesRound.{is_shown, lines_line}
use Rattle.chip_base.specs.UnitTable.{unit_row}
use Rattle.chip_base.specs.declared.chip_unit.ChipUnit.TheVariants as unit
use Rattle.chip_base.specs.Steps.{are_pins, are_pins_from, is_pin, is_step}
use Rattle.chip_base.specs.declared.script.PinStep.{PinStep}
use Rattle.chip_base.specs.declared.script.Script.{Script}
use Rattle.chip_base.specs.declared.script.UartStep.{UartStep}
use Rattle.script_text.specs.ScriptFile.{last_cycle, line_of, read_lines, script_of, with_added, with_line}
use Rattle.script_text.specs.ScriptText.{has_bytes, pin_line, pin_text, script_text, step_line, step_text, terminated}
use Rattle.script_text.specs.declared.script_fault.ScriptFault.{ScriptFault}
use Rattle.script_text.proofs.Lists.{left, right}
use Rattle.script_text.proofs.PinRound.{pin_read}
use Rattle.script_text.proofs.ReadSteps.{read_step}
use Rattle.script_text.proofs.Shown.{joined, pin_shown, step_shown}
use Rattle.script_text.proofs.StepRound.{uart0_read, uart1_read}
use Rattle.script_text.proofs.Valid.{last_more}

abbrev script : List PinStep → List UartStep → List UartStep → Script
script pins uart0 uart1 = record { pins = pins; uart0 = uart0; uart1 = uart1 }

-- one printed line is read, and the lines after it come next
one_line : (text more rest : Text) (s next : Script) (r : Result Script ScriptFault) (n : ℕ) → list_all is_shown text ≡ true → with_line s text ≡ Ok next
    → read_lines (lines (more ++ rest)) (n + 1) next ≡ r → read_lines (lines ((terminated text ++ more) ++ rest)) n s ≡ r
one_line text more rest s next r n shown is then_more =
    let same : (terminated text ++ more) ++ rest ≡ text ++ 10 ∷ (more ++ rest) = append_assoc (terminated text) more rest ∙ append_assoc text (10 ∷ []) (more ++ rest) in
    ap (λ t. read_lines (lines t) n s) same
    ∙ read_step (lines (text ++ 10 ∷ (more ++ rest))) text (lines (more ++ rest)) n s (Ok next) (lines_line text (more ++ rest) shown) is
    ∙ then_more

one_more : {A : Type 0} (xs : List A) (x : A) (ys : List A) → (xs ++ x ∷ []) ++ ys ≡ xs ++ x ∷ ys
one_more xs x ys = append_assoc xs (x ∷ []) ys

pins_read : (ps before : List PinStep) (u v : List UartStep) (rest : Text) (r : Result Script ScriptFault) → are_pins_from (last_cycle before) ps ≡ true
    → ((m : ℕ) → read_lines (lines rest) m (script (before ++ ps) u v) ≡ r) → (n : ℕ) → read_lines (lines (flat_map pin_line ps ++ rest)) n (script before u v) ≡ r
pins_read [] before u v rest r valid more n = ap (λ b. read_lines (lines rest) n (script b u v)) (sym (append-nil before)) ∙ more n
pins_read (p ∷ ps) before u v rest r valid more n =
    let here = left (is_pin p && nat_le (last_cycle before) p.cycle) _ valid in
    let is = left (is_pin p) _ here in
    let order = right (is_pin p) _ here in
    let valid_more : are_pins_from (last_cycle (before ++ p ∷ [])) ps ≡ true = ap (λ c. are_pins_from c ps) (last_more before p) ∙ right (is_pin p && nat_le (last_cycle before) p.cycle) _ valid in
    let line : with_line (script before u v) (pin_text p) ≡ Ok (script (before ++ p ∷ []) u v) = ap (with_added (script before u v)) (pin_read (last_cycle before) p is order) in
    one_line (pin_text p) (flat_map pin_line ps) rest (script before u v) (script (before ++ p ∷ []) u v) r n (pin_shown p is) line
    (pins_read ps (before ++ p ∷ []) u v rest r valid_more (λ m. ap (λ b. read_lines (lines rest) m (script b u v)) (one_more before p ps) ∙ more m) (n + 1))

uart0_steps : (us before : List UartStep) (p : List PinStep) (v : List UartStep) (rest : Text) (r : Result Script ScriptFault) → list_all is_step us ≡ true → list_all has_bytes us ≡ true
    → ((m : ℕ) → read_lines (lines rest) m (script p (before ++ us) v) ≡ r) → (n : ℕ) → read_lines (lines (flat_map (step_line (unit_row unit.Uart0).name) us ++ rest)) n (script p before v) ≡ r
uart0_steps [] before p v rest r steps bytes more n = ap (λ b. read_lines (lines rest) n (script p b v)) (sym (append-nil before)) ∙ more n
uart0_steps (u ∷ us) before p v rest r steps bytes more n =
    let is = left (is_step u) _ steps in
    let has = left (has_bytes u) _ bytes in
    let line : with_line (script p before v) ((unit_row unit.Uart0).name ++ step_text u) ≡ Ok (script p (before ++ u ∷ []) v) = ap (with_added (script p before v)) (uart0_read (last_cycle p) u is has) in
    one_line ((unit_row unit.Uart0).name ++ step_text u) (flat_map (step_line (unit_row unit.Uart0).name) us) rest (script p before v) (script p (before ++ u ∷ []) v) r n
    (joined (unit_row unit.Uart0).name (step_text u) refl (step_shown u is has)) line
    (uart0_steps us (before ++ u ∷ []) p v rest r (right (is_step u) _ steps) (right (has_bytes u) _ bytes)
    (λ m. ap (λ b. read_lines (lines rest) m (script p b v)) (one_more before u us) ∙ more m) (n + 1))

uart1_steps : (us before : List UartStep) (p : List PinStep) (v : List UartStep) (rest : Text) (r : Result Script ScriptFault) → list_all is_step us ≡ true → list_all has_bytes us ≡ true
    → ((m : ℕ) → read_lines (lines rest) m (script p v (before ++ us)) ≡ r) → (n : ℕ) → read_lines (lines (flat_map (step_line (unit_row unit.Uart1).name) us ++ rest)) n (script p v before) ≡ r
uart1_steps [] before p v rest r steps bytes more n = ap (λ b. read_lines (lines rest) n (script p v b)) (sym (append-nil before)) ∙ more n
uart1_steps (u ∷ us) before p v rest r steps bytes more n =
    let is = left (is_step u) _ steps in
    let has = left (has_bytes u) _ bytes in
    let line : with_line (script p v before) ((unit_row unit.Uart1).name ++ step_text u) ≡ Ok (script p v (before ++ u ∷ [])) = ap (with_added (script p v before)) (uart1_read (last_cycle p) u is has) in
    one_line ((unit_row unit.Uart1).name ++ step_text u) (flat_map (step_line (unit_row unit.Uart1).name) us) rest (script p v before) (script p v (before ++ u ∷ [])) r n
    (joined (unit_row unit.Uart1).name (step_text u) refl (step_shown u is has)) line
    (uart1_steps us (before ++ u ∷ []) p v rest r (right (is_step u) _ steps) (right (has_bytes u) _ bytes)
    (λ m. ap (λ b. read_lines (lines rest) m (script p v b)) (one_more before u us) ∙ more m) (n + 1))

-- the empty line after the last line feed
last_line : (s : Script) (n : ℕ) → read_lines (lines []) n s ≡ Ok s
unfolding read_lines pieces trimmed line_of skip
last_line s n = refl

script_round : (p : List PinStep) (u v : List UartStep) → are_pins p ≡ true → list_all is_step u ≡ true → list_all is_step v ≡ true → list_all has_bytes u ≡ true → list_all has_bytes v ≡ true
    → script_of (script_text (script p u v)) ≡ Ok (script p u v)
script_round p u v pins steps0 steps1 bytes0 bytes1 =
    let third = uart1_steps v [] p u [] (Ok (script p u v)) steps1 bytes1 (λ m. last_line (script p u v) m) in
    let last : (n : ℕ) → read_lines (lines (flat_map (step_line (unit_row unit.Uart1).name) v)) n (script p u []) ≡ Ok (script p u v)
    = λ n. ap (λ t. read_lines (lines t) n (script p u [])) (sym (append-nil (flat_map (step_line (unit_row unit.Uart1).name) v))) ∙ third n in
    pins_read p [] [] [] (flat_map (step_line (unit_row unit.Uart0).name) u ++ flat_map (step_line (unit_row unit.Uart1).name) v) (Ok (script p u v)) pins
    (uart0_steps u [] p [] (flat_map (step_line (unit_row unit.Uart1).name) v) (Ok (script p u v)) steps0 bytes0 last) 1

pub printed_round : (text : Text) (s : Script) (p : List PinStep) (u v : List UartStep) → text ≡ flat_map pin_line p ++ (flat_map (step_line (unit_row unit.Uart0).name) u ++ flat_map (step_line (unit_row unit.Uart1).name) v)
    → p ≡ s.pins → u ≡ s.uart0 → v ≡ s.uart1 → are_pins s.pins ≡ true → list_all is_step s.uart0 ≡ true → list_all is_step s.uart1 ≡ true
    → list_all has_bytes u ≡ true → list_all has_bytes v ≡ true → script_of text ≡ Ok s
printed_round text s p u v is hp hu hv pins steps0 steps1 bytes0 bytes1 =
    let b0 : list_all has_bytes s.uart0 ≡ true = ap (list_all has_bytes) (sym hu) ∙ bytes0 in
    let b1 : list_all has_bytes s.uart1 ≡ true = ap (list_all has_bytes) (sym hv) ∙ bytes1 in
    let same : text ≡ script_text s = is
    ∙ ap (λ x. flat_map pin_line x ++ (flat_map (step_line (unit_row unit.Uart0).name) u ++ flat_map (step_line (unit_row unit.Uart1).name) v)) hp
    ∙ ap (λ x. flat_map pin_line s.pins ++ (flat_map (step_line (unit_row unit.Uart0).name) x ++ flat_map (step_line (unit_row unit.Uart1).name) v)) hu
    ∙ ap (λ x. flat_map pin_line s.pins ++ (flat_map (step_line (unit_row unit.Uart0).name) s.uart0 ++ flat_map (step_line (unit_row unit.Uart1).name) x)) hv in
    ap script_of same ∙ script_round s.pins s.uart0 s.uart1 pins steps0 steps1 b0 b1
