-- A definition: an access that was granted.
use Rattle.std.specs.Prelude.{◌==◌, ℕ, ◌+◌, Bool, List, length, Option, Some, None, Result, Ok, Err, if◌then◌else◌}
use Rattle.chip_base.specs.Bits.{bit_if}
use Rattle.chip_base.specs.UnitTable.{unit_numbered, unit_row}
use Rattle.chip_base.specs.declared.chip_unit.ChipUnit.{ChipUnit}
use Rattle.chip_base.specs.declared.chip_unit.ChipUnit.TheVariants.{Uart0, Uart1, Spi, Gpio, Pwm, Slink, Wdt}
use Rattle.chip_base.specs.declared.chip_unit.HubPart.TheVariants as part
use Rattle.chip_base.specs.declared.message.Down.{Down}
use Rattle.core_pair.specs.Clint.{clint_word, clint_stored}
use Rattle.core_pair.specs.Mailbox.{mailbox_word, mailbox_stored}
use Rattle.soc_bus.specs.Map.{admitted}
use Rattle.soc_bus.specs.Memory.{MemoryState, load_of, store_of}
use Rattle.soc_bus.specs.declared.access.BusFault.{BusFault}
use Rattle.soc_bus.specs.declared.access.BusFault.TheVariants.{Unmapped}
use Rattle.soc_bus.specs.declared.access.Region.{Region}
use Rattle.soc_bus.specs.declared.access.Region.TheVariants.{Imem, Dmem, Clint, Mailbox, Sysinfo, Dma, Device}
use Rattle.soc_bus.specs.declared.access.Request.{Request}
use Rattle.dma_unit.specs.DmaRegisters.{dma_word, dma_stored}
use Rattle.unit_fronts.specs.Owed.{is_open_at}
use Rattle.chip_hub.specs.Parts.{offset_in, part_of_word}
use Rattle.chip_hub.specs.State.{HubState, Fronts}
use Rattle.chip_hub.specs.Units.{fronts_after, only_to, silent, unit_answer, unit_down}

-- what an access gives: the hub after it, the answer to its master, and the messages that go down
pub record Accessed : Type 0 where
  pub hub : HubState
  pub answer : Result ℕ BusFault
  pub downs : List (Option Down)

-- an access that changes nothing but its master
abbrev pub unchanged : HubState → Result ℕ BusFault → Accessed
unchanged s answer = record { hub = s; answer = answer; downs = silent }

-- a store that is done
abbrev pub done : HubState → Accessed
done s = record { hub = s; answer = Ok 0; downs = silent }

abbrev pub memory_stored : HubState → Result MemoryState BusFault → Accessed
memory_stored s (Ok m) = done (record s { memory = m })
memory_stored s (Err fault) = unchanged s (Err fault)

abbrev pub in_memory : HubState → Request → Option ℕ → Accessed
in_memory s r None = unchanged s (load_of s.memory r.addr r.width)
in_memory s r (Some value) = memory_stored s (store_of s.memory r.addr r.width value)

abbrev pub in_clint : HubState → Request → Option ℕ → Accessed
in_clint s r None = unchanged s (Ok (part_of_word r (clint_word s.clint (offset_in part.Clint r))))
in_clint s r (Some value) = done (record s { clint = clint_stored s.clint (offset_in part.Clint r) value })

abbrev pub in_dma : HubState → Request → Option ℕ → Accessed
in_dma s r None = unchanged s (Ok (part_of_word r (dma_word s.dma (offset_in part.Dma r))))
in_dma s r (Some value) = done (record s { dma = dma_stored s.dma (offset_in part.Dma r) value })

abbrev pub in_mailbox : HubState → Request → Option ℕ → Accessed
in_mailbox s r None = unchanged s (Ok (part_of_word r (mailbox_word s.mailbox (offset_in part.Mailbox r))))
in_mailbox s r (Some value) = done (record s { mailbox = mailbox_stored s.mailbox (offset_in part.Mailbox r) value })

-- a unit's bit in OPEN, where its front is open
abbrev pub open_bit : ChipUnit → Bool → ℕ
open_bit unit is_open = bit_if (unit_row unit).number is_open

-- OPEN
abbrev pub open_word : Fronts → ℕ
open_word f =
    open_bit Uart0 (is_open_at f.uart0.owed) + open_bit Uart1 (is_open_at f.uart1.owed) + open_bit Spi (is_open_at f.spi.owed) + open_bit Gpio (is_open_at f.gpio.owed)
    + open_bit Pwm (is_open_at f.pwm.owed) + open_bit Slink (is_open_at f.slink.owed) + open_bit Wdt (is_open_at f.wdt.owed)

-- the registers that tell the settings: CLK, IMEM, DMEM and OPEN
abbrev pub sysinfo_word : HubState → ℕ → ℕ
sysinfo_word s offset =
    if offset == 0 then s.clock
    else if offset == 4 then length s.memory.imem
    else if offset == 8 then length s.memory.dmem
    else open_word s.fronts

-- a store to them is ignored
abbrev pub in_sysinfo : HubState → Request → Option ℕ → Accessed
in_sysinfo s r None = unchanged s (Ok (part_of_word r (sysinfo_word s (offset_in part.Sysinfo r))))
in_sysinfo s r (Some value) = done s

-- the registers of a unit
abbrev pub in_device : HubState → Request → ChipUnit → ℕ → Accessed
in_device s r unit reg = record {
  hub = record s { fronts = fronts_after s.fronts r unit reg };
  answer = unit_answer s.fronts r unit reg;
  downs = only_to unit (unit_down s.fronts r unit reg);
}

-- the same by the unit of a number; no unit has another number
abbrev pub in_numbered : HubState → Request → Option ChipUnit → ℕ → Accessed
in_numbered s r None reg = unchanged s (Err Unmapped)
in_numbered s r (Some unit) reg = in_device s r unit reg

abbrev pub in_region : HubState → Request → Region → Accessed
in_region s r Imem = in_memory s r r.store
in_region s r Dmem = in_memory s r r.store
in_region s r Clint = in_clint s r r.store
in_region s r Mailbox = in_mailbox s r r.store
in_region s r Sysinfo = in_sysinfo s r r.store
in_region s r Dma = in_dma s r r.store
in_region s r (Device number reg) = in_numbered s r (unit_numbered number) reg

abbrev pub accessed_by : HubState → Request → Result Region BusFault → Accessed
accessed_by s r (Err fault) = unchanged s (Err fault)
accessed_by s r (Ok region) = in_region s r region

-- the access of a request
unfoldable pub accessed : HubState → Request → Accessed
accessed s r = accessed_by s r (admitted r (length s.memory.imem) (length s.memory.dmem))
