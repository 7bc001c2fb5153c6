-- What is answered for a printed chip file.
use Rattle.std.proofs.Common.{◌≡◌, Result, Ok, Err, Option, Some, None, ap}
use Rattle.std.specs.Str.{IsUtf8}
use Rattle.toml.specs.Parse.{parse_document}
use Rattle.chip_base.specs.Settings.{Values, values_of}
use Rattle.chip_base.specs.declared.setup.Setup.{Setup}
use Rattle.text_fields.specs.Fields.{Text}
use Rattle.script_text.specs.ChipFile.{chip_of, read_document}
use Rattle.script_text.specs.ChipRead.{IsChipAnswer, IsSettingsOrMemory}
use Rattle.script_text.specs.Faults.{KeyFaultAt}
use Rattle.script_text.specs.declared.chip.SetupFault.{SetupFault}
use Rattle.script_text.specs.declared.chip.SetupFault.TheVariants as refused

same_settings : (a b : Values) (r : Option (Result Values KeyFaultAt)) → r ≡ Some (Ok a) → r ≡ Some (Ok b) → b ≡ a
same_settings a b r p q = cc

no_fault : (a : Values) (f : KeyFaultAt) (r : Option (Result Values KeyFaultAt)) → r ≡ Some (Ok a) → r ≡ Some (Err f) → ⊥
no_fault a f r p q = cc

no_refusal : (a : Values) (text : Text) → chip_of text ≡ Some (Ok a) → parse_document text ≡ None → ⊥
no_refusal a text p q = let none : chip_of text ≡ None = ap read_document q in cc

pub read_back : (text : Text) (v : Values) → IsUtf8 text → chip_of text ≡ Some (Ok v) → (answer : Result Setup SetupFault) → IsChipAnswer text answer → IsSettingsOrMemory v answer
read_back text v utf8 means (Ok s) h = same_settings v (values_of s) (chip_of text) means h.1
read_back text v utf8 means (Err refused.Memory) h = tt
read_back text v utf8 means (Err refused.Toml) h = no_refusal v text means (h utf8)
read_back text v utf8 means (Err (refused.Key name)) h = no_fault v h.1 (chip_of text) means h.2
read_back text v utf8 means (Err (refused.Range name)) h = no_fault v h.1 (chip_of text) means h.2
