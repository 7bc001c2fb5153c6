-- Definition: the words of a command, by clap's own definition of a simple command.
use Rattle.std.specs.Prelude.{true, List, [], ◌∷◌, Option, Some, None, codes, fold}
use Rattle.clap.specs.Walk.{Row, Rule, Text}
use Rattle.clap.specs.Simple.{App, new_rule, new_shape, with_rule}
use Rattle.clap.specs.Words.{Kinds, fault_of, matches_of}

-- a positional, which must stand
abbrev pub positional : Text → Rule
positional id = record (new_rule id) { required = true }

-- an option with a value, which may be missing
abbrev pub option : Text → Rule
option id = record (new_rule id) { long = Some id }

-- a command without arguments, help and version flags
abbrev pub bare : Text → App
bare name = record {
  top = record (new_shape name) {
    disable_help_flag = true;
    disable_version_flag = true;
  };
  subs = [];
}

-- a command with one more positional
abbrev pub with_positional : App → Text → App
with_positional app id = with_rule app (positional id)

-- a command with one more option
abbrev pub with_option : App → Text → App
with_option app id = with_rule app (option id)

-- a command with these positionals and options
abbrev pub command : Text → List Text → List Text → App
command name positionals options = fold with_option (fold with_positional (bare name) positionals) options

-- `run IMAGE CYCLES`, with its options
abbrev pub run_app : App
run_app = command (codes "run") (codes "IMAGE" ∷ codes "CYCLES" ∷ [])
    (codes "boot" ∷ codes "chip" ∷ codes "script" ∷ codes "groups" ∷ codes "part" ∷ codes "trace" ∷ [])

-- `debug IMAGE CYCLES COMMANDS`, with its options
abbrev pub debug_app : App
debug_app = command (codes "debug") (codes "IMAGE" ∷ codes "CYCLES" ∷ codes "COMMANDS" ∷ [])
    (codes "boot" ∷ codes "chip" ∷ codes "script" ∷ codes "groups" ∷ codes "part" ∷ [])

-- `demo NUMBER`, with its option
abbrev pub demo_app : App
demo_app = command (codes "demo") (codes "NUMBER" ∷ []) (codes "groups" ∷ [])

-- `image PAYLOAD OUT`, with its option
abbrev pub image_app : App
image_app = command (codes "image") (codes "PAYLOAD" ∷ codes "OUT" ∷ []) (codes "chip" ∷ [])

-- `check IMAGE`, with its option
abbrev pub check_app : App
check_app = command (codes "check") (codes "IMAGE" ∷ []) (codes "chip" ∷ [])

-- what was found, where the words have no fault
abbrev pub rows_without : Kinds → List Row → Option (List Row)
rows_without [] rows = Some rows
rows_without (fault ∷ more) rows = None

-- what clap's definition of a command finds in the words, the first of which is the command's name
unfoldable pub rows_taken : App → List Text → Option (List Row)
rows_taken app words = rows_without (fault_of app words) (matches_of app words)
