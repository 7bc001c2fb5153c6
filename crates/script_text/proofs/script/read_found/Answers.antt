use Rattle.std.proofs.Common.{◌∙◌, ap, sym, arith, inl, inr, option_map, Some, Err}
use Rattle.text_fields.specs.Lines.{left_size, lines_after}
use Rattle.script_text.specs.ScriptFile.{read_lines}
use Rattle.script_text.specs.ScriptRead.{script_found}
use Rattle.script_text.proofs.ReadSteps.{read_step}
use Rattle.script_text.proofs.script.read_found.Goals as goal

pub returns-in-Err-clause-err : goal.returns-in-Err-clause-err
returns-in-Err-clause-err c =
    let left = c.in-Some.left.now in
    let line = c.loop-rest.line in
    let found = script_found c.loop-rest.found in
    let this = c.cut_line.result.0.now in
    let more = lines_after (option_map (λ r. r.now) c.cut_line.result.1) in
    let m = c.loop-rest.invariant.means in
    let at = ap (λ o. read_lines (lines_after (option_map (λ r. r.now) o)) line found) c.in-Some.is in
    elim c.in-Err.ensures.err [
      | inl memory ↦ inl memory
      | inr is ↦ inr (sym m ∙ at ∙ read_step (lines_after (Some left)) this more line found (Err c.in-Err.kind) c.cut_line.ensures.cut is)
    ]

pub loop-rest-preserved : goal.loop-rest-preserved
loop-rest-preserved c =
    let left = c.in-Some.left.now in
    let line = c.loop-rest.line in
    let found = script_found c.loop-rest.found in
    let this = c.cut_line.result.0.now in
    let more = lines_after (option_map (λ r. r.now) c.cut_line.result.1) in
    let m = c.loop-rest.invariant.means in
    let at = ap (λ o. read_lines (lines_after (option_map (λ r. r.now) o)) line found) c.in-Some.is in
    let size = ap (λ o. left_size (option_map (λ r. r.now) o)) c.in-Some.is in
    record {
      within = omega (arith, size, c.loop-rest.invariant.within, c.cut_line.ensures.shorter);
      valid = c.in-Ok.ensures.valid;
      means = sym (read_step (lines_after (Some left)) this more line found _ c.cut_line.ensures.cut c.in-Ok.ensures.ok) ∙ sym at ∙ m;
    }
