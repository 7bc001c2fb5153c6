-- A definition: what a chip file means.
use Rattle.std.specs.Prelude.{ℕ, pos, negsuc, ◌%◌, ◌==◌, ◌&&◌, Bool, true, false, List, Result, Ok, Err, Option, Some, None, codes, if◌then◌else◌, nat_le, option_map, slice_set}
use Rattle.std.specs.Str.{bytes_eq}
use Rattle.toml.specs.Data.{Data, integer, boolean, table, Members, no_members, member}
use Rattle.toml.specs.Parse.{parse_document}
use Rattle.chip_base.specs.Settings.{Values, standard}
use Rattle.chip_base.specs.UnitTable.{link_place, unit_named}
use Rattle.script_text.specs.declared.chip.KeyFault.{KeyFault}
use Rattle.script_text.specs.declared.chip.KeyFault.TheVariants as fault
use Rattle.script_text.specs.Faults.{KeyFaultAt}

abbrev pub Text : Type 0
Text = List ℕ

-- an integer from `least` to `most`, and a multiple of `step`
abbrev pub is_in : ℕ → ℕ → ℕ → ℕ → Bool
is_in least most step n = (nat_le least n && nat_le n most) && n % step == 0

abbrev pub in_range : Bool → ℕ → Result ℕ KeyFault
in_range true n = Ok n
in_range false n = Err fault.Range

abbrev pub integer_in : ℕ → ℕ → ℕ → Data → Result ℕ KeyFault
integer_in least most step (integer (pos n)) = in_range (is_in least most step n) n
integer_in least most step (integer (negsuc n)) = Err fault.Range
integer_in least most step _ = Err fault.Key

abbrev pub boolean_in : Data → Result Bool KeyFault
boolean_in (boolean b) = Ok b
boolean_in _ = Err fault.Key

abbrev pub with_value : {A B : Type 0} → (A → B) → Result A KeyFault → Result B KeyFault
with_value f (Ok a) = Ok (f a)
with_value f (Err e) = Err e

-- one key of the top table but `delay`
abbrev pub read_plain : Text → Data → Values → Result Values KeyFault
read_plain key d v =
    if bytes_eq key (codes "clock") then with_value (λ n. record v { clock = n }) (integer_in 1 4294967295 1 d)
    else if bytes_eq key (codes "imem") then with_value (λ n. record v { imem = n }) (integer_in 4096 1048576 4096 d)
    else if bytes_eq key (codes "dmem") then with_value (λ n. record v { dmem = n }) (integer_in 4096 1048576 4096 d)
    else if bytes_eq key (codes "prescaler") then with_value (λ n. record v { prescaler = n }) (integer_in 0 7 1 d)
    else if bytes_eq key (codes "baud") then with_value (λ n. record v { baud = n }) (integer_in 0 1023 1 d)
    else if bytes_eq key (codes "flash") then with_value (λ b. record v { flash = b }) (boolean_in d)
    else Err fault.Key

-- the place of a unit's delay
abbrev pub delay_place : Text → Option ℕ
delay_place key = option_map link_place (unit_named key)

abbrev pub with_delay : ℕ → ℕ → Values → Values
with_delay place n v = record v { delay = slice_set v.delay place n }

abbrev pub read_at : Option ℕ → Data → Values → Result Values KeyFault
read_at None d v = Err fault.Key
read_at (Some place) d v = with_value (λ n. with_delay place n v) (integer_in 1 4096 1 d)

abbrev pub read_delay : Text → Data → Values → Result Values KeyFault
read_delay key d v = read_at (delay_place key) d v

-- a fault at this key
abbrev pub at_key : Bool → Text → Result Values KeyFault → Result Values KeyFaultAt
at_key in_delay key (Ok v) = Ok v
at_key in_delay key (Err kind) = Err (record { kind = kind; in_delay = in_delay; key = key })

abbrev pub then_more : (Values → Result Values KeyFaultAt) → Result Values KeyFaultAt → Result Values KeyFaultAt
then_more more (Ok v) = more v
then_more more (Err e) = Err e

-- the keys of the table of delays, in their order
unfoldable pub read_delays : Members → Values → Result Values KeyFaultAt
read_delays no_members v = Ok v
read_delays (member key d more) v = then_more (read_delays more) (at_key true key (read_delay key d v))

abbrev pub read_table : Text → Data → Values → Result Values KeyFaultAt
read_table key (table ms) v = read_delays ms v
read_table key _ v = Err (record { kind = fault.Key; in_delay = false; key = key })

abbrev pub read_key : Text → Data → Values → Result Values KeyFaultAt
read_key key d v =
    if bytes_eq key (codes "delay") then read_table key d v
    else at_key false key (read_plain key d v)

-- the keys of the document, in their order, from the settings so far
unfoldable pub read_keys : Members → Values → Result Values KeyFaultAt
read_keys no_members v = Ok v
read_keys (member key d more) v = then_more (read_keys more) (read_key key d v)

-- what a chip file's text means: nothing where it is no document
abbrev pub read_document : Option Members → Option (Result Values KeyFaultAt)
read_document None = None
read_document (Some ms) = Some (read_keys ms standard)

abbrev pub chip_of : Text → Option (Result Values KeyFaultAt)
chip_of text = read_document (parse_document text)
