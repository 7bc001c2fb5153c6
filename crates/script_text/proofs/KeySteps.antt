-- One step through the keys of a table.
use Rattle.std.proofs.Common.{◌≡◌, List, [], ◌∷◌, Result, Ok, String, Global, refl, true}
use Rattle.std.specs.Prelude.{string_bytes}
use Rattle.toml.specs.View.{members_view, view}
use Rattle.toml.proofs.Views.{Entry}
use Rattle.toml.specs.declared.value.Value.{Value}
use Rattle.chip_base.specs.Settings.{Values}
use Rattle.script_text.specs.ChipFile.{at_key, read_delay, read_delays, read_key, read_keys, then_more}
use Rattle.script_text.specs.Faults.{KeyFaultAt}

pub delays_step : (iter rest : List Entry) (k : String Global) (x : Value) (v : Values) (next : Result Values KeyFaultAt) → iter ≡ (k, x) ∷ rest
    → next ≡ at_key true (string_bytes k) (read_delay (string_bytes k) (view x) v)
    → read_delays (members_view iter) v ≡ then_more (read_delays (members_view rest)) next
unfolding read_delays
delays_step iter rest k x v next whole is = rw (whole, is) refl

pub keys_step : (iter rest : List Entry) (k : String Global) (x : Value) (v : Values) (next : Result Values KeyFaultAt) → iter ≡ (k, x) ∷ rest
    → next ≡ read_key (string_bytes k) (view x) v
    → read_keys (members_view iter) v ≡ then_more (read_keys (members_view rest)) next
unfolding read_keys
keys_step iter rest k x v next whole is = rw (whole, is) refl

pub delays_end : (v : Values) → read_delays (members_view []) v ≡ Ok v
unfolding read_delays
delays_end v = refl

pub keys_end : (v : Values) → read_keys (members_view []) v ≡ Ok v
unfolding read_keys
keys_end v = refl
