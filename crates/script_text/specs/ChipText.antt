-- A definition: what is printed for a chip's settings.
use Rattle.std.specs.Prelude.{Bool, List, [], ◌∷◌, ◌++◌, codes, if◌then◌else◌, slice_index}
use Rattle.std.specs.List.{concat}
use Rattle.std.specs.Fmt.{decimal}
use Rattle.chip_base.specs.Settings.{Values}
use Rattle.chip_base.specs.UnitTable.{link_place, unit_row}
use Rattle.chip_base.specs.declared.chip_unit.ChipUnit.{ChipUnit}
use Rattle.chip_base.specs.declared.chip_unit.ChipUnit.TheVariants.{Uart0, Uart1, Spi, Gpio, Pwm, Slink, Wdt}
use Rattle.script_text.specs.ChipFile.{Text}

unfoldable pub pair_line : Text → Text → Text
pair_line key value = key ++ (codes " = " ++ (value ++ codes "\n"))

abbrev pub flag_text : Bool → Text
flag_text b = if b then codes "true" else codes "false"

abbrev pub plain_lines : Values → List Text
plain_lines v = pair_line (codes "clock") (decimal v.clock)
    ∷ pair_line (codes "imem") (decimal v.imem)
    ∷ pair_line (codes "dmem") (decimal v.dmem)
    ∷ pair_line (codes "prescaler") (decimal v.prescaler)
    ∷ pair_line (codes "baud") (decimal v.baud)
    ∷ pair_line (codes "flash") (flag_text v.flash)
    ∷ []

abbrev pub delay_line : ChipUnit → Values → Text
delay_line unit v = pair_line (unit_row unit).name (decimal (slice_index v.delay (link_place unit)))

unfoldable pub delay_header : Text
delay_header = codes "[delay]\n"

abbrev pub first_delays : Values → List Text
first_delays v = delay_header
    ∷ delay_line Uart0 v
    ∷ delay_line Uart1 v
    ∷ delay_line Spi v
    ∷ delay_line Gpio v
    ∷ []

abbrev pub last_delays : Values → List Text
last_delays v = delay_line Pwm v
    ∷ delay_line Slink v
    ∷ delay_line Wdt v
    ∷ []

abbrev pub chip_text : Values → Text
chip_text v = concat (plain_lines v) ++ (concat (first_delays v) ++ concat (last_delays v))
