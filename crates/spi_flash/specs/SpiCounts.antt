-- Law: what a cycle does to the entries in the unit.
use Rattle.std.specs.Prelude.{◌≡◌, ◌==◌, ◌≤◌, ◌+◌, ◌%◌, List, [], ◌∷◌, ◌++◌, drop, Option, None, Some, length, if◌then◌else◌}
use Rattle.chip_base.specs.declared.message.Down.{Down}
use Rattle.chip_base.specs.declared.message.Down.TheVariants.{Reset, Set}
use Rattle.chip_base.specs.declared.message.Up.{Up}
use Rattle.chip_base.specs.Entries.{CountsEntries}
use Rattle.chip_base.specs.Messages.{at_either_data, credit_in, entry_in, reset_in}
use Rattle.spi_flash.specs.declared.transfer.Entry.{Entry}
use Rattle.spi_flash.specs.declared.transfer.Entry.TheVariants.{Byte, Select}
use Rattle.spi_flash.specs.SpiCycle.{SpiState}

-- the entry that a message brings, if it brings one
abbrev pub entries_in : Option Down → List Entry
entries_in None = []
entries_in (Some Reset) = []
entries_in (Some (Set reg word)) = if reg == 4 then Byte (word % 256) ∷ [] else if reg == 8 then Select (word % 2 == 1) ∷ [] else []

-- where an entry finds room, none is lost: those that waited and came wait afterwards in the same order, but for the first one where
-- its credit went up
abbrev pub KeepsEntries : SpiState → Option Down → SpiState → Option Up → Type 0
KeepsEntries old down new up = reset_in down ≡ 0 → length old.queue + entry_in at_either_data down ≤ 16 → new.queue ≡ drop (credit_in up) (old.queue ++ entries_in down)

abbrev pub CountsQueue : SpiState → Option Down → SpiState → Option Up → Type 0
CountsQueue old down new up = CountsEntries at_either_data (length old.queue) down (length new.queue) up
