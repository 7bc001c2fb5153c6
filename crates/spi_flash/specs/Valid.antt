-- Serves the code: what holds of a transfer and of an operation that a flash is in.
use Rattle.std.specs.Prelude.{◌≡◌, ◌≤◌, ◌<◌, ◌⊎◌, ◌*◌, ◌^◌, ℕ, List, Option, Some, None}
use Rattle.spi_flash.specs.Flash.{cells_of}
use Rattle.spi_flash.specs.declared.transfer.Transfer.{Transfer}
use Rattle.spi_flash.specs.declared.transfer.Transfer.TheVariants.{Command, Read, Program}
use Rattle.spi_flash.specs.declared.transfer.Operation.{Operation}
use Rattle.spi_flash.specs.declared.transfer.Operation.TheVariants.{Program as Programs, Erase}
use Rattle.spi_flash.specs.declared.transfer.UnderWay.{UnderWay}

abbrev pub IsTransfer : Transfer → Type 0
IsTransfer (Command code count address) = (count ≤ 3) × (address < 2 ^ (8 * count))
IsTransfer (Read at) = at < 2 ^ 23
IsTransfer (Program address page at filled) = address < 2 ^ 23
IsTransfer _ = Unit {0}

abbrev pub IsOperation : Operation → Type 0
IsOperation (Programs address page) = address < 2 ^ 23
IsOperation (Erase size address) = ((size ≡ 4096) ⊎ (size ≡ 65536)) × (address < 2 ^ 23)

abbrev pub IsWork : UnderWay → Type 0
IsWork w = (1 ≤ w.left) × IsOperation w.operation

-- the bytes of a flash; where there is none, of one that was never programmed
abbrev pub cells_in : Option (List ℕ) → List ℕ
cells_in None = cells_of (λ i. 255)
cells_in (Some cells) = cells
