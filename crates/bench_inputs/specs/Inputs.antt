-- Definition: what the files of a job mean, and what is read for each.
use Rattle.std.specs.Prelude.{◌==◌, ℕ, List, length, Option, Some, None, Result, Ok, Err, nat_lt, if◌then◌else◌}
use Rattle.std.specs.Str.{is_utf8}
use Rattle.command_text.specs.CommandFile.{commands_of}
use Rattle.command_text.specs.declared.command.Command.{Command}
use Rattle.bench_plan.specs.Readings.{Refusal, Reading, asking, followed, gives, judged}
use Rattle.chip_base.specs.Settings.{Values, standard}
use Rattle.chip_base.specs.declared.boot.Boot.{Boot}
use Rattle.chip_base.specs.declared.boot.Boot.TheVariants.{Monitor, Direct, Raw}
use Rattle.chip_base.specs.declared.script.Script.{Script}
use Rattle.image_tool.specs.FirstFault.{image_fault}
use Rattle.image_tool.specs.Image.{image_of, padded}
use Rattle.image_tool.specs.declared.faults.ImageFault.{ImageFault}
use Rattle.image_tool.specs.declared.faults.ImageFault.TheVariants.{Size}
use Rattle.script_text.specs.ChipFile.{chip_of}
use Rattle.script_text.specs.Faults.{KeyFaultAt as AtKey, faulty_key}
use Rattle.script_text.specs.ScriptFile.{empty, script_of}
use Rattle.script_text.specs.declared.script_fault.ScriptFault.{ScriptFault}
use Rattle.bench_inputs.specs.Lines.{command_refusal, image_refusal, key_refusal, line_refusal, toml_refusal}

abbrev pub settings_of : Option (Result Values AtKey) → Result Values Refusal
settings_of None = Err toml_refusal
settings_of (Some (Ok v)) = Ok v
settings_of (Some (Err fault)) = Err (key_refusal fault.kind (faulty_key fault))

-- a chip file must be a document in UTF-8, and have no fault at a key
abbrev pub settings_in : List ℕ → Result Values Refusal
settings_in bytes = if is_utf8 bytes then settings_of (chip_of bytes) else Err toml_refusal

-- why a file isn't what core 0 can begin with in this way, where IMEM has so many bytes: `Raw` takes what IMEM has room for, `Direct` an
-- image, and the monitor any file, since it judges what it receives
abbrev pub boot_fault : Boot → ℕ → List ℕ → Option ImageFault
boot_fault Raw room bytes = if nat_lt room (length bytes) then Some (Size (length bytes)) else None
boot_fault Direct room bytes = image_fault room bytes
boot_fault Monitor room bytes = None

-- a payload of so many bytes must not be empty, and must have room
abbrev pub size_fault : ℕ → ℕ → Option ImageFault
size_fault room size = if size == 0 then Some (Size size) else if nat_lt room size then Some (Size size) else None

-- why a payload isn't made an image: its length, with the zero bytes up to a multiple of four
abbrev pub payload_fault : ℕ → List ℕ → Option ImageFault
payload_fault room payload = size_fault room (length (padded payload))

-- what is accepted where there is no fault
abbrev pub unless : {A : Type 0} → Option ImageFault → A → Result A Refusal
unless None a = Ok a
unless (Some fault) a = Err (image_refusal fault)

-- what core 0 begins with
abbrev pub image_in : Boot → ℕ → List ℕ → Result (List ℕ) Refusal
image_in boot room bytes = unless (boot_fault boot room bytes) bytes

-- the image of a payload
abbrev pub wrapped_in : ℕ → List ℕ → Result (List ℕ) Refusal
wrapped_in room payload = unless (payload_fault room payload) (image_of (padded payload))

abbrev pub script_read : Result Script ScriptFault → Result Script Refusal
script_read (Ok script) = Ok script
script_read (Err fault) = Err (line_refusal fault)

-- a script must have no faulty line
abbrev pub script_in : List ℕ → Result Script Refusal
script_in bytes = script_read (script_of bytes)

abbrev pub commands_read : Result (List Command) ℕ → Result (List Command) Refusal
commands_read (Ok commands) = Ok commands
commands_read (Err number) = Err (command_refusal number)

-- a file of commands must have no faulty line
abbrev pub commands_in : List ℕ → Result (List Command) Refusal
commands_in bytes = commands_read (commands_of bytes)

-- a file of at most so many bytes is read, and then judged
abbrev pub meaning : {A : Type 0} → ℕ → (List ℕ → Result A Refusal) → List ℕ → Reading A
meaning limit means name = followed (asking name limit) (λ bytes. judged (means bytes))

-- the settings of the chip: the standard ones where no chip file is named
abbrev pub settings_reading : Option (List ℕ) → Reading Values
settings_reading None = gives standard
settings_reading (Some name) = meaning 65536 settings_in name

-- the bytes of IMEM, by the chip file
abbrev pub imem_step : Values → Reading ℕ
imem_step v = gives v.imem

-- the most bytes that a payload may have: those of IMEM, where a chip file is named, and else of the largest IMEM
abbrev pub room_reading : Option (List ℕ) → Reading ℕ
room_reading None = gives 1048576
room_reading (Some name) = followed (settings_reading (Some name)) imem_step

abbrev pub image_reading : Boot → ℕ → List ℕ → Reading (List ℕ)
image_reading boot room name = meaning 2097152 (image_in boot room) name

-- the image of the payload in this file
abbrev pub wrapped_reading : ℕ → List ℕ → Reading (List ℕ)
wrapped_reading room name = meaning 2097152 (wrapped_in room) name

-- the script: the one that does nothing where none is named
abbrev pub script_reading : Option (List ℕ) → Reading Script
script_reading None = gives empty
script_reading (Some name) = meaning 1048576 script_in name

-- the commands of the debugger
abbrev pub commands_reading : List ℕ → Reading (List Command)
commands_reading name = meaning 65536 commands_in name
