-- What a unit gives in a cycle: a definition.
use Rattle.std.specs.Prelude.{Option, None}
use Rattle.chip_base.specs.declared.event.Event.{Event}
use Rattle.chip_base.specs.declared.message.Up.{Up}

-- A unit's cycle is a function `unit → now → Option Down → Given unit`. Each unit takes the message first and then works as without one;
-- after a Reset it does nothing more than its definition says. Each wait is a countdown in the unit's state: at 0 nothing is waited for, else
-- it loses one a cycle and acts where 1 becomes 0. The cycle `now` is handed in, and no state keeps it.

-- the unit after the cycle, a message to its front, and an event
pub record Given (S : Type 0) : Type 0 where
  pub unit : S
  pub up : Option Up
  pub event : Option Event

-- a unit that says nothing
abbrev pub quiet : {S : Type 0} → S → Given S
quiet s = record { unit = s; up = None; event = None }
