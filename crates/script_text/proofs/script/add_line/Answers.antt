use Rattle.std.proofs.Common.{arith, length, ◌≡◌}
use Rattle.std.proofs.lemmas.Bool.Decides.{nat_tests}
use Rattle.script_text.specs.ScriptRead.{script_found}
use Rattle.script_text.proofs.ReadSteps.{no_line}
use Rattle.script_text.proofs.script.add_line.Goals as goal

pub returns-then-is_empty-clause-ok : goal.returns-then-is_empty-clause-ok
returns-then-is_empty-clause-ok c = let none : length c.args.text.now ≡ 0 = grind (arith, nat_tests, c.is_empty.ensures, c.if-is_empty.true, c.if-is_empty.ensures) in no_line (script_found c.args.found.now) c.args.text.now none
