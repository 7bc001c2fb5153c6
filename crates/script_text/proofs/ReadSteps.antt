-- One line of a script.
use Rattle.std.proofs.Common.{◌≡◌, ◌+◌, ℕ, List, [], ◌∷◌, length, Result, Ok, refl, arith}
use Rattle.text_fields.specs.Fields.{Text, skip}
use Rattle.chip_base.specs.declared.script.Script.{Script}
use Rattle.script_text.specs.ScriptFile.{line_of, read_lines, then_lines, with_line}
use Rattle.script_text.specs.declared.script_fault.ScriptKind.{ScriptKind}

pub read_step : (left : List Text) (this : Text) (more : List Text) (n : ℕ) (s : Script) (r : Result Script ScriptKind) → left ≡ this ∷ more → with_line s this ≡ r
    → read_lines left n s ≡ then_lines n (read_lines more (n + 1)) r
unfolding read_lines
read_step left this more n s r cut is = rw (cut, is) refl

pub read_end : (n : ℕ) (s : Script) → read_lines [] n s ≡ Ok s
unfolding read_lines
read_end n s = refl

pub no_line : (s : Script) (line : Text) → length line ≡ 0 → with_line s line ≡ Ok s
unfolding line_of skip
no_line s [] none = refl
no_line s (b ∷ more) some = absurd (omega arith)
