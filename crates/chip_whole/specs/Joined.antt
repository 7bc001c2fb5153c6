-- A definition: a unit and its two links to the hub.
use Rattle.std.specs.Prelude.{ℕ, List, Option}
use Rattle.chip_base.specs.Given.{Given}
use Rattle.chip_base.specs.declared.event.Event.{Event}
use Rattle.chip_base.specs.declared.message.Down.{Down}
use Rattle.chip_base.specs.declared.message.Up.{Up}
use Rattle.delay_line.specs.Queue.{empty_link}
use Rattle.soc_words.specs.Link.{link_first, link_moved}

pub record Joined (S : Type 0) : Type 0 where
  pub unit : S
  -- from the hub to the unit, and from the unit to the hub
  pub down : List (Option Down)
  pub up : List (Option Up)

-- a cycle of a unit, by the cycle that comes and the message that arrives
abbrev pub CycleOf : Type 0 → Type 0
CycleOf S = S → ℕ → Option Down → Given S

-- what the unit gives in a cycle
abbrev pub given_by : {S : Type 0} → CycleOf S → Joined S → ℕ → Given S
given_by cycle j now = cycle j.unit now (link_first j.down)

-- after a cycle in which this was sent down
abbrev pub joined_after : {S : Type 0} → CycleOf S → Joined S → ℕ → Option Down → Joined S
joined_after cycle j now sent = record { unit = (given_by cycle j now).unit; down = link_moved j.down sent; up = link_moved j.up (given_by cycle j now).up }

-- the event of the cycle, if one comes
abbrev pub event_of : {S : Type 0} → CycleOf S → Joined S → ℕ → Option Event
event_of cycle j now = (given_by cycle j now).event

-- nothing is on its way
abbrev pub joined_start : {S : Type 0} → S → ℕ → Joined S
joined_start unit delay = record { unit = unit; down = empty_link delay; up = empty_link delay }
