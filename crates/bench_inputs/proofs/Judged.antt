-- What a chip file's bytes mean.
use Rattle.std.proofs.Common.{◌≡◌, ℕ, true, false, cond, List, Some, None, Ok, Err, refl, ap, sym, ◌∙◌}
use Rattle.std.specs.Str.{IsUtf8, is_utf8}
use Rattle.std.proofs.lemmas.Str.{IsUtf8-from_is_utf8, is_utf8-from_IsUtf8}
use Rattle.toml.specs.Parse.{parse_document}
use Rattle.chip_base.specs.Settings.{Values}
use Rattle.script_text.specs.ChipFile.{chip_of, read_document}
use Rattle.script_text.specs.Faults.{KeyFaultAt, faulty_key}
use Rattle.script_text.specs.declared.chip.KeyFault.TheVariants.{Key, Range}
use Rattle.bench_inputs.specs.Lines.{key_text, range_text, toml_refusal, key_refusal}
use Rattle.bench_inputs.specs.Inputs.{settings_in, settings_of}

-- by the test for UTF-8
in_utf8 : (bytes : List ℕ) → IsUtf8 bytes → settings_in bytes ≡ settings_of (chip_of bytes)
in_utf8 bytes u = ap (λ b. cond b (settings_of (chip_of bytes)) (Err toml_refusal)) (is_utf8-from_IsUtf8 bytes u)

pub settings_ok : (bytes : List ℕ) (v : Values) → IsUtf8 bytes → chip_of bytes ≡ Some (Ok v) → settings_in bytes ≡ Ok v
settings_ok bytes v u e = in_utf8 bytes u ∙ ap settings_of e

pub settings_key : (bytes : List ℕ) (f : KeyFaultAt) → IsUtf8 bytes → chip_of bytes ≡ Some (Err f) → f.kind ≡ Key → settings_in bytes ≡ Err (record { status = 6; text = key_text })
settings_key bytes f u e k = in_utf8 bytes u ∙ ap settings_of e ∙ ap (λ kind. Err (key_refusal kind (faulty_key f))) k

pub settings_range : (bytes name : List ℕ) (f : KeyFaultAt) → IsUtf8 bytes → chip_of bytes ≡ Some (Err f) → f.kind ≡ Range → name ≡ faulty_key f
    → settings_in bytes ≡ Err (record { status = 6; text = range_text name })
settings_range bytes name f u e k n =
    in_utf8 bytes u ∙ ap settings_of e ∙ ap (λ kind. Err (key_refusal kind (faulty_key f))) k ∙ ap (λ m. Err (record { status = 6; text = range_text m })) (sym n)

-- no document, by either test
pub settings_toml : (bytes : List ℕ) → (IsUtf8 bytes → parse_document bytes ≡ None) → settings_in bytes ≡ Err toml_refusal
settings_toml bytes h =
    elim (is_utf8 bytes) as (λ b. is_utf8 bytes ≡ b → cond b (settings_of (chip_of bytes)) (Err toml_refusal) ≡ Err toml_refusal) [
      | true ↦ λ e. ap (λ d. settings_of (read_document d)) (h (IsUtf8-from_is_utf8 bytes e))
      | false ↦ λ e. refl
    ] refl
