-- A fault of a document is the answer.
use Rattle.std.proofs.Common.{◌≡◌, ◌∙◌, ap, sym, Err, Some}
use Rattle.std.specs.Str.{IsUtf8}
use Rattle.toml.specs.Data.{Members}
use Rattle.toml.specs.Parse.{parse_document}
use Rattle.chip_base.specs.Settings.{standard}
use Rattle.script_text.specs.ChipFile.{Text, chip_of, read_document, read_keys}
use Rattle.script_text.specs.ChipRead.{IsChipAnswer, NamesFault}
use Rattle.script_text.specs.Faults.{KeyFaultAt}
use Rattle.script_text.specs.declared.chip.SetupFault.{SetupFault}
use Rattle.script_text.specs.declared.chip.SetupFault.TheVariants as refused

answered : (bytes : Text) (f : KeyFaultAt) (r : SetupFault) → IsUtf8 bytes → chip_of bytes ≡ Some (Err f) → NamesFault f r → IsChipAnswer bytes (Err r)
answered bytes f (refused.Key name) utf8 is named = (utf8, f, is, named.0, named.1)
answered bytes f (refused.Range name) utf8 is named = (utf8, f, is, named.0, named.1)
answered bytes f refused.Memory utf8 is named = tt
answered bytes f refused.Toml utf8 is named = elim named [ ]

pub faulty : (bytes text : Text) (ms : Members) (f : KeyFaultAt) (r : SetupFault) → text ≡ bytes → IsUtf8 bytes → parse_document text ≡ Some ms
    → Err f ≡ read_keys ms standard → NamesFault f r → IsChipAnswer bytes (Err r)
faulty bytes text ms f r same utf8 parsed read named =
    answered bytes f r utf8 (ap chip_of (sym same) ∙ ap read_document parsed ∙ ap (λ x. Some x) (sym read)) named
