-- Definition: what stood in the flash when the boot monitor could first reach it.
use Rattle.std.specs.Prelude.{ℕ, zero, suc, Bool, List, Option, Some, None, if◌then◌else◌}
use Rattle.chip_hub.specs.Cycle.{fires}
use Rattle.chip_whole.specs.Chip.{Board, ChipState, after, arrivals}
use Rattle.spi_flash.specs.Flash.{FlashState, settled}
use Rattle.unit_fronts.specs.SerialRegisters.{serial_is_open}

-- the bytes of a flash once the operation that is under way has ended, and none where no flash is fitted
abbrev pub bytes_once_done : FlashState → Option (List ℕ)
bytes_once_done f = if f.fitted then Some (settled f) else None

abbrev pub flash_in : ChipState → Option (List ℕ)
flash_in c = bytes_once_done c.units.spi.unit.flash

-- the hub is reset in the cycle that comes
abbrev pub is_reset_next : ChipState → Bool
is_reset_next c = fires (arrivals c)

-- nothing yet, and SPI's front is open: it is what stands in the flash now
abbrev pub based : Option (Option (List ℕ)) → ChipState → Option (Option (List ℕ))
based None c = if serial_is_open c.hub.fronts.spi then Some (flash_in c) else None
based (Some flash) c = Some flash

-- a reset of the hub forgets it
abbrev pub kept_over : ChipState → Option (Option (List ℕ)) → Option (Option (List ℕ))
kept_over c flash = if is_reset_next c then None else flash

-- what stood in the flash in the first state since the last reset or power-on in which SPI's front was open, after n cycles; none where there was none yet
unfoldable pub base : Board → ChipState → ℕ → Option (Option (List ℕ))
base board first zero = based None first
base board first (suc n) = based (kept_over (after board first n) (base board first n)) (after board first (suc n))
