-- What the units say in a cycle: a definition.
use Rattle.std.specs.Prelude.{◌==◌, ℕ, Option, None, Some, if◌then◌else◌}
use Rattle.chip_base.specs.declared.event.Event.{Event}
use Rattle.chip_base.specs.declared.event.EventKind.TheVariants.{Out}
use Rattle.chip_base.specs.declared.message.Up.{Up}
use Rattle.chip_base.specs.Messages.{done_up, silent_up, with_word}

-- a word goes up
abbrev pub word_up : ℕ → Up
word_up word = with_word silent_up word

-- says that a Reset was done, and carries a word
abbrev pub done_with : ℕ → Up
done_with word = with_word done_up word

-- the event of a unit whose outputs changed in a cycle
abbrev pub change_event : ℕ → ℕ → ℕ → ℕ → Option Event
change_event now unit before after =
    if before == after then None else Some (record { cycle = now; unit = unit; kind = Out; value = after })
