-- A definition: what a script's text means.
use Rattle.std.specs.Prelude.{ℕ, ◌+◌, ◌==◌, List, [], ◌∷◌, ◌++◌, Result, Ok, Err, codes, if◌then◌else◌, fold}
use Rattle.std.specs.Str.{bytes_eq}
use Rattle.text_fields.specs.Fields.{Text, after_field, field, skip}
use Rattle.text_fields.specs.Lines.{lines}
use Rattle.chip_base.specs.UnitTable.{unit_row}
use Rattle.chip_base.specs.declared.chip_unit.ChipUnit.TheVariants as unit
use Rattle.chip_base.specs.declared.script.PinStep.{PinStep}
use Rattle.chip_base.specs.declared.script.Script.{Script}
use Rattle.script_text.specs.ScriptLine.{pin_of, uart_of}
use Rattle.script_text.specs.declared.script_fault.ScriptFault.{ScriptFault}
use Rattle.script_text.specs.declared.script_fault.ScriptKind.{ScriptKind}
use Rattle.script_text.specs.declared.script_fault.ScriptKind.TheVariants as kind
use Rattle.script_text.specs.declared.script_item.Item.{Item}
use Rattle.script_text.specs.declared.script_item.Item.TheVariants as item

-- what a line adds
abbrev pub with_item : {A : Type 0} → (A → Item) → Result A ScriptKind → Result Item ScriptKind
with_item f (Ok a) = Ok (f a)
with_item f (Err k) = Err k

-- a line with this first field
abbrev pub item_named : ℕ → Text → Text → Result Item ScriptKind
item_named last word rest =
    if bytes_eq word (codes "pin") then with_item item.Pin (pin_of last rest)
    else if bytes_eq word (unit_row unit.Uart0).name then with_item item.Uart0 (uart_of rest)
    else if bytes_eq word (unit_row unit.Uart1).name then with_item item.Uart1 (uart_of rest)
    else Err kind.Word

-- a line without blanks at its front: empty, a comment, or an item
abbrev pub item_in : ℕ → Text → Result Item ScriptKind
item_in last [] = Ok item.Nothing
item_in last (b ∷ more) = if b == 35 then Ok item.Nothing else item_named last (field (b ∷ more)) (after_field (b ∷ more))

-- what a line means, where the pin line before has the cycle `last`
unfoldable pub line_of : ℕ → Text → Result Item ScriptKind
line_of last text = item_in last (skip text)

-- the cycle of the last pin change, 0 where there is none
abbrev pub last_cycle : List PinStep → ℕ
last_cycle pins = fold (λ last p. p.cycle) 0 pins

-- the script that does nothing
abbrev pub empty : Script
empty = record { pins = []; uart0 = []; uart1 = [] }

-- a script with an item at the end of its list
abbrev pub added : Script → Item → Script
added s item.Nothing = s
added s (item.Pin p) = record s { pins = s.pins ++ p ∷ [] }
added s (item.Uart0 u) = record s { uart0 = s.uart0 ++ u ∷ [] }
added s (item.Uart1 u) = record s { uart1 = s.uart1 ++ u ∷ [] }

-- a script with what a line means
abbrev pub with_added : Script → Result Item ScriptKind → Result Script ScriptKind
with_added s (Ok i) = Ok (added s i)
with_added s (Err k) = Err k

-- a script with one more line
abbrev pub with_line : Script → Text → Result Script ScriptKind
with_line s line = with_added s (line_of (last_cycle s.pins) line)

-- the lines after line `number`, or this line's fault
abbrev pub then_lines : ℕ → (Script → Result Script ScriptFault) → Result Script ScriptKind → Result Script ScriptFault
then_lines number more (Ok s) = more s
then_lines number more (Err k) = Err (record { line = number; kind = k })

-- the lines from this number on, after a script: the first faulty line decides
unfoldable pub read_lines : List Text → ℕ → Script → Result Script ScriptFault
read_lines [] number s = Ok s
read_lines (line ∷ rest) number s = then_lines number (read_lines rest (number + 1)) (with_line s line)

-- what a script's text means: a script, or the number and the kind of the first faulty line
abbrev pub script_of : Text → Result Script ScriptFault
script_of text = read_lines (lines text) 1 empty
