-- Definition: the lines of refusals.
use Rattle.std.specs.Prelude.{ℕ, List, ◌++◌, codes, decimal}
use Rattle.soc_words.specs.Text.{hex_word, line}
use Rattle.bench_plan.specs.Readings.{Refusal}
use Rattle.image_tool.specs.declared.faults.ImageFault.{ImageFault}
use Rattle.image_tool.specs.declared.faults.ImageFault.TheVariants as image
use Rattle.script_text.specs.declared.chip.KeyFault.{KeyFault}
use Rattle.script_text.specs.declared.chip.KeyFault.TheVariants.{Key, Range}
use Rattle.script_text.specs.declared.script_fault.ScriptFault.{ScriptFault}
use Rattle.script_text.specs.declared.script_fault.ScriptKind.{ScriptKind}
use Rattle.script_text.specs.declared.script_fault.ScriptKind.TheVariants as kind

-- what is wrong in an image; none has the fault that says that memory was wanted
abbrev pub image_fault_words : ImageFault → List ℕ
image_fault_words (image.Short have) = codes "short " ++ decimal have
image_fault_words (image.Signature found) = codes "signature " ++ hex_word found
image_fault_words (image.Size found) = codes "size " ++ decimal found
image_fault_words (image.Checksum sum) = codes "checksum " ++ hex_word sum
image_fault_words (image.Extra have) = codes "extra " ++ decimal have
image_fault_words image.Memory = codes "memory"

-- an image with this fault
unfoldable pub image_fault_text : ImageFault → List ℕ
image_fault_text fault = line (codes "error image " ++ image_fault_words fault)

-- a chip file that is no TOML document
unfoldable pub toml_text : List ℕ
toml_text = line (codes "error chip toml")

-- a chip file with a key that is unknown or has a value of another kind
unfoldable pub key_text : List ℕ
key_text = line (codes "error chip key")

-- a chip file in which the value of this key is outside its range
unfoldable pub range_text : List ℕ → List ℕ
range_text key = line (codes "error chip range " ++ key)

-- what is wrong in a line of a script; no line has the kind that says that memory was wanted
abbrev pub fault_kind_name : ScriptKind → List ℕ
fault_kind_name kind.Word = codes "word"
fault_kind_name kind.Number = codes "number"
fault_kind_name kind.Order = codes "order"
fault_kind_name kind.Hex = codes "hex"
fault_kind_name kind.Pin = codes "pin"
fault_kind_name kind.Text = codes "text"
fault_kind_name kind.Memory = codes "memory"

-- the first faulty line of a script
unfoldable pub line_text : ScriptFault → List ℕ
line_text fault = line (codes "error script line " ++ decimal fault.line ++ codes " " ++ fault_kind_name fault.kind)

-- the first faulty line of a file of commands
unfoldable pub command_text : ℕ → List ℕ
command_text number = line (codes "error debug line " ++ decimal number)

abbrev pub image_refusal : ImageFault → Refusal
image_refusal fault = record { status = 4; text = image_fault_text fault }

abbrev pub line_refusal : ScriptFault → Refusal
line_refusal fault = record { status = 5; text = line_text fault }

abbrev pub command_refusal : ℕ → Refusal
command_refusal number = record { status = 10; text = command_text number }

abbrev pub toml_refusal : Refusal
toml_refusal = record { status = 6; text = toml_text }

-- a fault at the key of this name
abbrev pub key_refusal : KeyFault → List ℕ → Refusal
key_refusal Key name = record { status = 6; text = key_text }
key_refusal Range name = record { status = 6; text = range_text name }
