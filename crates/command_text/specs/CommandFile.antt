-- A definition: what a command file means.
use Rattle.std.specs.Prelude.{ℕ, ◌+◌, Bool, List, [], ◌∷◌, Option, Some, None, Result, Ok, Err, if◌then◌else◌, is_ok}
use Rattle.std.specs.List.{flat_map, list_all, prefix_len}
use Rattle.text_fields.specs.Fields.{Text}
use Rattle.text_fields.specs.Lines.{lines}
use Rattle.command_text.specs.CommandLine.{command_of}
use Rattle.command_text.specs.declared.command.Command.{Command}
use Rattle.command_text.specs.declared.command_line.FaultyLine.{FaultyLine}

-- a line that isn't faulty
abbrev pub is_accepted : Text → Bool
is_accepted line = is_ok (command_of line)

-- the command that a line means, if any
abbrev pub commands_meant : Result (Option Command) FaultyLine → List Command
commands_meant (Ok (Some c)) = c ∷ []
commands_meant (Ok None) = []
commands_meant (Err f) = []

-- the command of a line, if it has one
abbrev pub line_commands : Text → List Command
line_commands line = commands_meant (command_of line)

-- what a command file's text means: where each of its lines is accepted, their commands in their order, and else the number of the
-- first line that isn't, counted from 1
unfoldable pub commands_of : Text → Result (List Command) ℕ
commands_of text = if list_all is_accepted (lines text) then Ok (flat_map line_commands (lines text)) else Err (1 + prefix_len is_accepted (lines text))
