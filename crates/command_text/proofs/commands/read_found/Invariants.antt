use Rattle.std.proofs.Common.{◌≡◌, ◌≤◌, ◌+◌, length, option_map, true}
use Rattle.std.specs.List.{list_all}
use Rattle.text_fields.specs.Lines.{left_size, lines_after}
use Rattle.command_text.specs.CommandFile.{commands_of}
use Rattle.command_text.specs.CommandRead.{is_allowed}
use Rattle.command_text.proofs.LinesLeft.{commands_from}
use Rattle.command_text.proofs.commands.read_found.Given as goal

abbrev pub invariant-loop-rest : goal.invariant-loop-rest
invariant-loop-rest l = record {
  within : l.line + left_size (option_map (λ r. r.now) l.rest) ≤ length l.fn.text + 2;
  allowed : list_all is_allowed l.found.items ≡ true;
  means : commands_from l.line l.found.items (lines_after (option_map (λ r. r.now) l.rest)) ≡ commands_of l.fn.text;
}

abbrev pub decreases-loop-rest : goal.decreases-loop-rest
decreases-loop-rest l = left_size (option_map (λ r. r.now) l.rest)
