-- A definition: the interrupt lines that a hart sees.
use Rattle.std.specs.Prelude.{ℕ, ◌+◌}
use Rattle.core_pair.specs.Clint.{clint_mip}
use Rattle.dma_unit.specs.DmaRegisters.{dma_line}
use Rattle.unit_fronts.specs.GpioFront.{gpio_line}
use Rattle.unit_fronts.specs.SerialRegisters.{serial_line}
use Rattle.chip_base.specs.UnitTable.{fast_bit, part_row, unit_row}
use Rattle.chip_base.specs.declared.chip_unit.ChipUnit.TheVariants.{Uart0, Uart1, Spi, Gpio, Slink}
use Rattle.chip_base.specs.declared.chip_unit.HubPart.TheVariants.{Dma}
use Rattle.chip_hub.specs.State.{HubState}

-- the fast lines, which both harts see alike: those of the DMA and of the units
abbrev pub fast_lines : HubState → ℕ
fast_lines s =
    fast_bit (part_row Dma).fast_line (dma_line s.dma) + fast_bit (unit_row Uart0).fast_line (serial_line s.fronts.uart0)
    + fast_bit (unit_row Uart1).fast_line (serial_line s.fronts.uart1) + fast_bit (unit_row Spi).fast_line (serial_line s.fronts.spi)
    + fast_bit (unit_row Gpio).fast_line (gpio_line s.fronts.gpio) + fast_bit (unit_row Slink).fast_line (serial_line s.fronts.slink)

-- what a read of mip gives: the hart's software and timer interrupts, and the fast lines
abbrev pub mip_of : HubState → ℕ → ℕ
mip_of s hart = clint_mip s.clint hart + fast_lines s
