-- A definition, for the contracts of code: what the reader of scripts answers.
use Rattle.std.specs.Prelude.{◌≡◌, ◌⊎◌, ℕ, Bool, true, ◌&&◌, List, Result, Ok, Err, nat_le}
use Rattle.std.specs.List.{list_all}
use Rattle.std.specs.Borrow.{Bor}
use Rattle.chip_base.specs.Steps.{are_pins, is_pin, is_step}
use Rattle.chip_base.specs.declared.script.Script.{Script}
use Rattle.script_text.specs.ScriptFile.{last_cycle}
use Rattle.script_text.specs.declared.script_fault.ScriptFault.{ScriptFault}
use Rattle.script_text.specs.declared.script_fault.ScriptKind.{ScriptKind}
use Rattle.script_text.specs.declared.script_fault.ScriptKind.TheVariants as kind
use Rattle.script_text.specs.declared.script_item.Found.{Found}
use Rattle.script_text.specs.declared.script_item.Item.{Item}
use Rattle.script_text.specs.declared.script_item.Item.TheVariants as item

-- a number that was read, and the text after it
abbrev pub number_view : Result (ℕ × Bor (List ℕ)) ScriptKind → Result (ℕ × List ℕ) ScriptKind
number_view (Ok p) = Ok (p.0, p.1.now)
number_view (Err k) = Err k

-- the bytes that were read, and the text after them
abbrev pub bytes_view : List ℕ × Bor (List ℕ) → List ℕ × List ℕ
bytes_view p = (p.0, p.1.now)

-- an item that may be added after a pin line with this cycle
abbrev pub may_follow : ℕ → Item → Bool
may_follow last (item.Pin p) = is_pin p && nat_le last p.cycle
may_follow last (item.Uart0 u) = is_step u
may_follow last (item.Uart1 u) = is_step u
may_follow last item.Nothing = true

-- the script of what was found
abbrev pub script_found : Found → Script
script_found f = record { pins = f.pins.items; uart0 = f.uart0.items; uart1 = f.uart1.items }

-- pins in order, texts to expect within their length, and the last pin's cycle
pub record IsFound (f : Found) : Type 0 where
  pub pins : are_pins f.pins.items ≡ true
  pub uart0 : list_all is_step f.uart0.items ≡ true
  pub uart1 : list_all is_step f.uart1.items ≡ true
  pub last : f.last ≡ last_cycle f.pins.items

-- the script or the fault that the text means, or want of memory
abbrev pub IsScriptAnswer : Result Script ScriptFault → Result Script ScriptFault → Type 0
IsScriptAnswer means (Ok s) = means ≡ Ok s
IsScriptAnswer means (Err f) = (f.kind ≡ kind.Memory) ⊎ (means ≡ Err f)
