-- A definition, for the contracts of code: the answers that a chip file may have.
use Rattle.std.specs.Prelude.{◌≡◌, Result, Ok, Err, Some, None}
use Rattle.std.specs.Str.{IsUtf8}
use Rattle.toml.specs.Parse.{parse_document}
use Rattle.script_text.specs.ChipFile.{Text, chip_of}
use Rattle.script_text.specs.declared.chip.SetupFault.{SetupFault}
use Rattle.script_text.specs.declared.chip.SetupFault.TheVariants as refused
use Rattle.script_text.specs.declared.chip.KeyFault.TheVariants as fault
use Rattle.chip_base.specs.Settings.{Values, values_of}
use Rattle.chip_base.specs.declared.setup.Setup.{Setup}
use Rattle.script_text.specs.declared.chip.KeyAt.{KeyAt}
use Rattle.script_text.specs.Faults.{KeyFaultAt, faulty_key}

abbrev pub fault_view : KeyAt → KeyFaultAt
fault_view f = record { kind = f.kind; in_delay = f.in_delay; key = f.key.now }

abbrev pub read_view : Result Setup KeyAt → Result Values KeyFaultAt
read_view (Ok s) = Ok (values_of s)
read_view (Err f) = Err (fault_view f)

-- the refusal has the fault's kind and name, or memory ran out
abbrev pub NamesFault : KeyFaultAt → SetupFault → Type 0
NamesFault f (refused.Key name) = (f.kind ≡ fault.Key) × (name ≡ faulty_key f)
NamesFault f (refused.Range name) = (f.kind ≡ fault.Range) × (name ≡ faulty_key f)
NamesFault f refused.Memory = Unit {0}
NamesFault f refused.Toml = ⊥

-- the answer for a chip file's bytes: what the document means, or memory ran out
abbrev pub IsChipAnswer : Text → Result Setup SetupFault → Type 0
IsChipAnswer bytes (Ok s) = IsUtf8 bytes × (chip_of bytes ≡ Some (Ok (values_of s)))
IsChipAnswer bytes (Err refused.Memory) = Unit {0}
IsChipAnswer bytes (Err refused.Toml) = IsUtf8 bytes → parse_document bytes ≡ None
IsChipAnswer bytes (Err (refused.Key name)) = IsUtf8 bytes × (f : KeyFaultAt) × (chip_of bytes ≡ Some (Err f)) × (f.kind ≡ fault.Key) × (name ≡ faulty_key f)
IsChipAnswer bytes (Err (refused.Range name)) = IsUtf8 bytes × (f : KeyFaultAt) × (chip_of bytes ≡ Some (Err f)) × (f.kind ≡ fault.Range) × (name ≡ faulty_key f)

-- these settings, or memory ran out
abbrev pub IsSettingsOrMemory : Values → Result Setup SetupFault → Type 0
IsSettingsOrMemory v (Ok s) = values_of s ≡ v
IsSettingsOrMemory v (Err refused.Memory) = Unit {0}
IsSettingsOrMemory v (Err refused.Toml) = ⊥
IsSettingsOrMemory v (Err (refused.Key name)) = ⊥
IsSettingsOrMemory v (Err (refused.Range name)) = ⊥
