use Rattle.std.proofs.Common.{◌≡◌, ◌≤◌, ◌+◌, length, option_map}
use Rattle.text_fields.specs.Lines.{left_size, lines_after}
use Rattle.script_text.specs.ScriptFile.{read_lines, script_of}
use Rattle.script_text.specs.ScriptRead.{IsFound, script_found}
use Rattle.script_text.proofs.script.read_found.Given as goal

abbrev pub invariant-loop-rest : goal.invariant-loop-rest
invariant-loop-rest l = record {
  within : l.line + left_size (option_map (λ r. r.now) l.rest) ≤ length l.fn.text + 2;
  valid : IsFound l.found;
  means : read_lines (lines_after (option_map (λ r. r.now) l.rest)) l.line (script_found l.found) ≡ script_of l.fn.text;
}

abbrev pub decreases-loop-rest : goal.decreases-loop-rest
decreases-loop-rest l = left_size (option_map (λ r. r.now) l.rest)
