use Rattle.std.proofs.Common.{◌≡◌, ◌++◌, take, true}
use Rattle.std.specs.List.{flat_map, list_all}
use Rattle.script_text.specs.ScriptText.{has_bytes, step_line}
use Rattle.script_text.proofs.script_printing.print_steps.Given as goal

abbrev pub invariant-loop-step : goal.invariant-loop-step
invariant-loop-step l = record {
  text : l.out.items ≡ l.initial.out.items ++ flat_map (step_line l.name) (take l.step-index l.steps);
  bytes : list_all has_bytes (take l.step-index l.steps) ≡ true;
}
