-- What the lines of a command file come to, from one of them on.
use Rattle.std.proofs.Common.{ℕ, ◌+◌, List, ◌++◌, Result, Ok, Err, if◌then◌else◌}
use Rattle.std.specs.List.{flat_map, list_all, prefix_len}
use Rattle.text_fields.specs.Fields.{Text}
use Rattle.command_text.specs.CommandFile.{is_accepted, line_commands}
use Rattle.command_text.specs.declared.command.Command.{Command}

-- the lines from this number on, after these commands
abbrev pub commands_from : ℕ → List Command → List Text → Result (List Command) ℕ
commands_from number found lines = if list_all is_accepted lines then Ok (found ++ flat_map line_commands lines) else Err (number + prefix_len is_accepted lines)
