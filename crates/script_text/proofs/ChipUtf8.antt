-- A printed chip file is in UTF-8.
use Rattle.std.proofs.Common.{◌≡◌, ◌<◌, ◌^◌, ℕ, zero, suc, Bool, true, false, List, [], ◌∷◌, ◌++◌, codes, slice_index, refl, arith}
use Rattle.std.proofs.lemmas.Bool.Decides.{nat_tests}
use Rattle.std.proofs.lemmas.Fmt.{IsAscii-decimal}
use Rattle.std.proofs.lemmas.Str.{IsUtf8-append, IsUtf8-from_ascii, IsUtf8-nil}
use Rattle.std.specs.Fmt.{decimal}
use Rattle.std.specs.List.{concat, list_all}
use Rattle.std.specs.Prelude.{nat_lt}
use Rattle.std.specs.Str.{IsAscii, IsUtf8}
use Rattle.chip_base.specs.UnitTable.{link_place, unit_row}
use Rattle.chip_base.specs.declared.chip_unit.ChipUnit.{ChipUnit}
use Rattle.chip_base.specs.declared.chip_unit.ChipUnit.TheVariants.{Uart0, Uart1, Spi, Gpio, Pwm, Slink, Wdt}
use Rattle.chip_base.specs.Ranges.{is_delay}
use Rattle.chip_base.specs.Settings.{Values}
use Rattle.text_fields.specs.Fields.{Text}
use Rattle.script_text.specs.ChipText.{chip_text, delay_header, delay_line, first_delays, flag_text, last_delays, pair_line, plain_lines}
use Rattle.script_text.proofs.Lists.{left, right}

abbrev is_low : ℕ → Bool
is_low b = nat_lt b 128

low_ascii : (bs : Text) → list_all is_low bs ≡ true → IsAscii bs
low_ascii [] h i = omega arith
low_ascii (b ∷ bs) h zero = let one = left (is_low b) (list_all is_low bs) h in grind (arith, nat_tests)
low_ascii (b ∷ bs) h (suc i) = low_ascii bs (right (is_low b) (list_all is_low bs) h) i

low : (bs : Text) → list_all is_low bs ≡ true → IsUtf8 bs
low bs h = IsUtf8-from_ascii bs (low_ascii bs h)

pair_utf8 : (key value : Text) → list_all is_low key ≡ true → IsUtf8 value → IsUtf8 (pair_line key value)
unfolding pair_line
pair_utf8 key value plain is =
    IsUtf8-append key (codes " = " ++ (value ++ codes "\n")) (low key plain)
    (IsUtf8-append (codes " = ") (value ++ codes "\n") (low (codes " = ") refl) (IsUtf8-append value (codes "\n") is (low (codes "\n") refl)))

number_utf8 : (key : Text) (n : ℕ) → list_all is_low key ≡ true → n < 2 ^ 64 → IsUtf8 (pair_line key (decimal n))
number_utf8 key n plain small = pair_utf8 key (decimal n) plain (IsUtf8-from_ascii (decimal n) (IsAscii-decimal n small))

flag_utf8 : (b : Bool) → IsUtf8 (flag_text b)
flag_utf8 true = low (codes "true") refl
flag_utf8 false = low (codes "false") refl

header_utf8 : IsUtf8 delay_header
unfolding delay_header
header_utf8 = low (codes "[delay]\n") refl

delay_small : (ds : List ℕ) (k : ℕ) → list_all is_delay ds ≡ true → slice_index ds k < 2 ^ 64
delay_small [] k h = omega arith
delay_small (d ∷ ds) zero h = let one = left (is_delay d) (list_all is_delay ds) h in grind (arith, nat_tests)
delay_small (d ∷ ds) (suc k) h = delay_small ds k (right (is_delay d) (list_all is_delay ds) h)

-- each line is in UTF-8
abbrev AllUtf8 : List Text → Type 0
AllUtf8 [] = Unit {0}
AllUtf8 (line ∷ more) = IsUtf8 line × AllUtf8 more

joined_utf8 : (ls : List Text) → AllUtf8 ls → IsUtf8 (concat ls)
joined_utf8 [] h = IsUtf8-nil
joined_utf8 (line ∷ more) h = IsUtf8-append line (concat more) h.0 (joined_utf8 more h.1)

plain_utf8 : (v : Values) → v.clock < 2 ^ 64 → v.imem < 2 ^ 64 → v.dmem < 2 ^ 64 → v.prescaler < 2 ^ 64 → v.baud < 2 ^ 64 → AllUtf8 (plain_lines v)
plain_utf8 v c i d p b = (
  number_utf8 (codes "clock") v.clock refl c,
  (
    number_utf8 (codes "imem") v.imem refl i,
    (
      number_utf8 (codes "dmem") v.dmem refl d,
      (number_utf8 (codes "prescaler") v.prescaler refl p, (number_utf8 (codes "baud") v.baud refl b, (pair_utf8 (codes "flash") (flag_text v.flash) refl (flag_utf8 v.flash), tt))),
    ),
  ),
)

delay_utf8 : (unit : ChipUnit) (v : Values) → list_all is_low (unit_row unit).name ≡ true → list_all is_delay v.delay ≡ true → IsUtf8 (delay_line unit v)
delay_utf8 unit v plain all = number_utf8 (unit_row unit).name (slice_index v.delay (link_place unit)) plain (delay_small v.delay (link_place unit) all)

first_utf8 : (v : Values) → list_all is_delay v.delay ≡ true → AllUtf8 (first_delays v)
first_utf8 v all = (
  header_utf8,
  (delay_utf8 Uart0 v refl all, (delay_utf8 Uart1 v refl all, (delay_utf8 Spi v refl all, (delay_utf8 Gpio v refl all, tt)))),
)

last_utf8 : (v : Values) → list_all is_delay v.delay ≡ true → AllUtf8 (last_delays v)
last_utf8 v all = (delay_utf8 Pwm v refl all, (delay_utf8 Slink v refl all, (delay_utf8 Wdt v refl all, tt)))

pub chip_utf8 : (v : Values) → v.clock < 2 ^ 64 → v.imem < 2 ^ 64 → v.dmem < 2 ^ 64 → v.prescaler < 2 ^ 64 → v.baud < 2 ^ 64 → list_all is_delay v.delay ≡ true → IsUtf8 (chip_text v)
chip_utf8 v c i d p b all =
    IsUtf8-append (concat (plain_lines v)) (concat (first_delays v) ++ concat (last_delays v)) (joined_utf8 (plain_lines v) (plain_utf8 v c i d p b))
    (IsUtf8-append (concat (first_delays v)) (concat (last_delays v)) (joined_utf8 (first_delays v) (first_utf8 v all)) (joined_utf8 (last_delays v) (last_utf8 v all)))
