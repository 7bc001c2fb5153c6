-- The chip's units and the parts of its hub, a row each: a definition. What numbers, names or places one of them reads its row.
use Rattle.std.specs.Prelude.{ℕ, ◌+◌, ◌-◌, ◌%◌, ◌==◌, Bool, List, [], ◌∷◌, Option, Some, None, codes, get_or, map}
use Rattle.std.specs.List.{find, list_any, position_from}
use Rattle.std.specs.Str.{bytes_eq}
use Rattle.chip_base.specs.Bits.{bit_if}
use Rattle.chip_base.specs.declared.chip_unit.ChipUnit.{ChipUnit}
use Rattle.chip_base.specs.declared.chip_unit.ChipUnit.TheVariants.{Uart0, Uart1, Spi, Gpio, Pwm, Slink, Wdt}
use Rattle.chip_base.specs.declared.chip_unit.HubPart.{HubPart}
use Rattle.chip_base.specs.declared.chip_unit.HubPart.TheVariants.{Dma, Clint, Sysinfo, Mailbox}

pub record UnitRow : Type 0 where
  -- 1 to 7: the unit in events, and its bit in OPEN
  pub number : ℕ
  -- the unit in a report, among the lanes, and at the key of its delay
  pub name : List ℕ
  -- where its registers begin, and their offsets, in bytes
  pub base : ℕ
  pub offsets : List ℕ
  -- its fast interrupt line, where it has one
  pub fast_line : Option ℕ
  -- the delay of its links in cycles, where the settings give none
  pub delay : ℕ

abbrev pub unit_row : ChipUnit → UnitRow
unit_row Uart0 = record { number = 1; name = codes "uart0"; base = 0xfff50000; offsets = 0 ∷ 4 ∷ []; fast_line = Some 1; delay = 32 }
unit_row Uart1 = record { number = 2; name = codes "uart1"; base = 0xfff60000; offsets = 0 ∷ 4 ∷ []; fast_line = Some 2; delay = 32 }
unit_row Spi = record { number = 3; name = codes "spi"; base = 0xfff80000; offsets = 0 ∷ 4 ∷ 8 ∷ []; fast_line = Some 3; delay = 8 }
unit_row Gpio = record { number = 4; name = codes "gpio"; base = 0xfffc0000; offsets = 0 ∷ 4 ∷ 8 ∷ 12 ∷ []; fast_line = Some 4; delay = 8 }
unit_row Pwm = record { number = 5; name = codes "pwm"; base = 0xfff00000; offsets = 0 ∷ 4 ∷ 8 ∷ 12 ∷ 16 ∷ []; fast_line = None; delay = 32 }
unit_row Slink = record { number = 6; name = codes "slink"; base = 0xffec0000; offsets = 0 ∷ 4 ∷ 8 ∷ []; fast_line = Some 6; delay = 8 }
unit_row Wdt = record { number = 7; name = codes "wdt"; base = 0xfffb0000; offsets = 0 ∷ 4 ∷ 8 ∷ []; fast_line = None; delay = 64 }

-- in the order of their numbers
abbrev pub all_units : List ChipUnit
all_units = Uart0 ∷ Uart1 ∷ Spi ∷ Gpio ∷ Pwm ∷ Slink ∷ Wdt ∷ []

-- a part of the hub that has registers: it has no links, and no number
pub record PartRow : Type 0 where
  pub base : ℕ
  -- how many bytes of the map it has; its base is a multiple of them
  pub size : ℕ
  pub offsets : List ℕ
  pub fast_line : Option ℕ

abbrev pub part_row : HubPart → PartRow
part_row Dma = record { base = 0xffed0000; size = 0x100; offsets = 0 ∷ 4 ∷ 8 ∷ 12 ∷ 16 ∷ []; fast_line = Some 0 }
part_row Clint = record { base = 0xfff40000; size = 0x10000; offsets = 0 ∷ 4 ∷ 0x4000 ∷ 0x4004 ∷ 0x4008 ∷ 0x400c ∷ 0xbff8 ∷ 0xbffc ∷ []; fast_line = None }
part_row Sysinfo = record { base = 0xfffe0000; size = 0x100; offsets = 0 ∷ 4 ∷ 8 ∷ 12 ∷ []; fast_line = None }
part_row Mailbox = record { base = 0xfffe0100; size = 0x100; offsets = 0 ∷ 4 ∷ []; fast_line = None }

abbrev pub all_parts : List HubPart
all_parts = Dma ∷ Clint ∷ Sysinfo ∷ Mailbox ∷ []

-- an offset is one of these
abbrev pub is_among : List ℕ → ℕ → Bool
is_among offsets offset = list_any (λ o. o == offset) offsets

-- the unit has a register at this offset
abbrev pub unit_has : ChipUnit → ℕ → Bool
unit_has unit offset = is_among (unit_row unit).offsets offset

-- the part has a register at this offset
abbrev pub part_has : HubPart → ℕ → Bool
part_has part offset = is_among (part_row part).offsets offset

-- the offset of an address in the part that has it
abbrev pub part_offset : HubPart → ℕ → ℕ
part_offset part address = address % (part_row part).size

-- the unit's place among the seven links, from 0
abbrev pub link_place : ChipUnit → ℕ
link_place unit = (unit_row unit).number - 1

-- the unit of this name
abbrev pub unit_named : List ℕ → Option ChipUnit
unit_named name = find (λ unit. bytes_eq name (unit_row unit).name) all_units

-- the unit of this number
abbrev pub unit_numbered : ℕ → Option ChipUnit
unit_numbered number = find (λ unit. (unit_row unit).number == number) all_units

-- the names of the lanes: lane 0 is the hub, and each unit has the lane of its number
abbrev pub lane_names : List (List ℕ)
lane_names = codes "hub" ∷ map (λ unit. (unit_row unit).name) all_units

-- the name of a lane; a number above the lanes' is the hub's
abbrev pub lane_name : ℕ → List ℕ
lane_name number = get_or lane_names number (codes "hub")

-- the lane of this name
abbrev pub lane_named : List ℕ → Option ℕ
lane_named name = position_from (bytes_eq name) 0 lane_names

-- the bit of mip of a fast line, where the line is high
abbrev pub fast_bit : Option ℕ → Bool → ℕ
fast_bit None is_high = 0
fast_bit (Some number) is_high = bit_if (16 + number) is_high

-- the delays of the links, where the settings give none
abbrev pub standard_delays : List ℕ
standard_delays = map (λ unit. (unit_row unit).delay) all_units
