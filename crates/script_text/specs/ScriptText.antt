-- A definition: what is printed for a script.
use Rattle.std.specs.Prelude.{ℕ, Bool, true, [], ◌∷◌, ◌++◌, codes, if◌then◌else◌, nat_lt}
use Rattle.std.specs.List.{flat_map, list_all}
use Rattle.std.specs.Fmt.{decimal}
use Rattle.hex.specs.Hex.{encode_lower}
use Rattle.text_fields.specs.Fields.{Text}
use Rattle.text_fields.specs.QuotedMeaning.{stands_alone}
use Rattle.chip_base.specs.UnitTable.{unit_row}
use Rattle.chip_base.specs.declared.chip_unit.ChipUnit.TheVariants.{Uart0, Uart1}
use Rattle.chip_base.specs.declared.script.PinStep.{PinStep}
use Rattle.chip_base.specs.declared.script.Script.{Script}
use Rattle.chip_base.specs.declared.script.UartStep.{UartStep}
use Rattle.chip_base.specs.declared.script.UartStep.TheVariants as step

-- the level of a pin at the end of its line
unfoldable pub level_text : Bool → Text
level_text level = if level then codes " 1" else codes " 0"

-- a pin's change
unfoldable pub pin_text : PinStep → Text
pin_text p = codes "pin " ++ (decimal p.cycle ++ (codes " " ++ (decimal p.pin ++ level_text p.level)))

-- a byte in a text in double quotes
unfoldable pub quoted_byte : ℕ → Text
quoted_byte b = if stands_alone b then b ∷ [] else codes "\\x" ++ encode_lower (b ∷ [])

-- a step of a UART after its name
unfoldable pub step_text : UartStep → Text
step_text (step.At cycle) = codes " at " ++ decimal cycle
step_text (step.Expect bytes) = codes " expect \"" ++ (flat_map quoted_byte bytes ++ codes "\"")
step_text (step.Send []) = codes " send \"\""
step_text (step.Send (b ∷ more)) = codes " hex " ++ encode_lower (b ∷ more)
step_text step.Image = codes " image"

-- a line
abbrev pub terminated : Text → Text
terminated text = text ++ 10 ∷ []

-- the line of a pin's change
abbrev pub pin_line : PinStep → Text
pin_line p = terminated (pin_text p)

-- the line of a step of the UART with this name
abbrev pub step_line : Text → UartStep → Text
step_line name u = terminated (name ++ step_text u)

-- a script's lines: the pins, then the steps of uart0, then those of uart1
abbrev pub script_text : Script → Text
script_text s = flat_map pin_line s.pins ++ (flat_map (step_line (unit_row Uart0).name) s.uart0 ++ flat_map (step_line (unit_row Uart1).name) s.uart1)

-- a byte
abbrev pub is_byte : ℕ → Bool
is_byte b = nat_lt b 256

-- a step's text has bytes
abbrev pub has_bytes : UartStep → Bool
has_bytes (step.Expect bytes) = list_all is_byte bytes
has_bytes (step.Send bytes) = list_all is_byte bytes
has_bytes _ = true
