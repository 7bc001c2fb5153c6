-- What a cycle does to the bytes in the unit: a law over definitions.
use Rattle.std.specs.Prelude.{◌≡◌, ◌==◌, ◌≤◌, ℕ, ◌+◌, ◌%◌, List, [], ◌∷◌, ◌++◌, length, Option, None, Some, if◌then◌else◌}
use Rattle.chip_base.specs.declared.event.Event.{Event}
use Rattle.chip_base.specs.declared.message.Down.{Down}
use Rattle.chip_base.specs.declared.message.Down.TheVariants.{Reset, Set}
use Rattle.chip_base.specs.declared.message.Up.{Up}
use Rattle.chip_base.specs.Entries.{CountsEntries}
use Rattle.chip_base.specs.Messages.{at_data, data_in, reset_in}
use Rattle.uart_lane.specs.State.{UartState}

-- the byte that a message brings, if it brings one
abbrev pub bytes_in : Option Down → List ℕ
bytes_in None = []
bytes_in (Some Reset) = []
bytes_in (Some (Set reg word)) = if reg == 4 then word % 256 ∷ [] else []

-- the byte that an event tells of, if there is one
abbrev pub bytes_out : Option Event → List ℕ
bytes_out None = []
bytes_out (Some e) = e.value ∷ []

-- where a byte finds room, none is lost: those that waited and came are those that left and wait, in the same order
pub record KeepsOrder (old : UartState) (down : Option Down) (new : UartState) (event : Option Event) : Type 0 where
  pub bytes : reset_in down ≡ 0 → length old.fifo + data_in down ≤ 16 → old.fifo ++ bytes_in down ≡ bytes_out event ++ new.fifo
  -- a Reset drops them all, and tells of none
  pub after_reset : reset_in down ≡ 1 → bytes_out event ++ new.fifo ≡ []

-- what a cycle does to the number of bytes in the unit
abbrev pub KeepsCount : UartState → Option Down → UartState → Option Up → Type 0
KeepsCount old down new up = CountsEntries at_data (length old.fifo) down (length new.fifo) up
