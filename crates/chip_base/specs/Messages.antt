-- A definition: what the messages between a front and its unit say, and what they carry as counts: an entry down and a credit up, a Reset down and its
-- answer up, a Fire up.
use Rattle.std.specs.Prelude.{ℕ, ◌==◌, ◌||◌, Bool, true, false, Option, None, Some, if◌then◌else◌}
use Rattle.chip_base.specs.declared.message.Down.{Down}
use Rattle.chip_base.specs.declared.message.Down.TheVariants.{Reset, Set}
use Rattle.chip_base.specs.declared.message.Up.{Up}

-- how many entries a message takes to a unit, by which of its registers take entries
abbrev pub entry_in : (ℕ → Bool) → Option Down → ℕ
entry_in takes None = 0
entry_in takes (Some Reset) = 0
entry_in takes (Some (Set reg word)) = if takes reg then 1 else 0

-- a unit whose entries go to the register at offset 4
abbrev pub at_data : ℕ → Bool
at_data reg = reg == 4

-- a unit whose entries go to its two data registers, at offsets 4 and 8
abbrev pub at_either_data : ℕ → Bool
at_either_data reg = (reg == 4) || (reg == 8)

abbrev pub data_in : Option Down → ℕ
data_in down = entry_in at_data down

-- how many credits a message gives back
abbrev pub credit_in : Option Up → ℕ
credit_in None = 0
credit_in (Some up) = if up.credit then 1 else 0

-- how many Resets a message is
abbrev pub reset_in : Option Down → ℕ
reset_in None = 0
reset_in (Some Reset) = 1
reset_in (Some (Set reg word)) = 0

-- how many Resets a message answers
abbrev pub done_in : Option Up → ℕ
done_in None = 0
done_in (Some up) = if up.done then 1 else 0

-- how many times a message says that the watchdog fired
abbrev pub fire_in : Option Up → ℕ
fire_in None = 0
fire_in (Some up) = if up.fire then 1 else 0

-- says nothing
abbrev pub silent_up : Up
silent_up = record { done = false; fire = false; credit = false; has = false; word = 0 }

-- says that an entry left the unit
abbrev pub credit_up : Up
credit_up = record silent_up { credit = true }

-- says that a Reset was done
abbrev pub done_up : Up
done_up = record silent_up { done = true }

-- says that the watchdog fired
abbrev pub fire_up : Up
fire_up = record silent_up { fire = true }

-- beside what is said, a word goes up
abbrev pub with_word : Up → ℕ → Up
with_word up word = record up { has = true; word = word }
