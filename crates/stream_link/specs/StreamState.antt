-- The state of the stream link's unit: a definition.
use Rattle.std.specs.Prelude.{ℕ, Bool, false, List, []}
use Rattle.bench_parts.specs.declared.event.PartEvent.{PartEvent}
use Rattle.stream_link.specs.declared.word.StreamWord.{StreamWord}

pub record QueueState : Type 0 where
  pub enabled : Bool
  -- how many cycles are to pass before the next word
  pub gap : ℕ
  -- words that weren't passed yet, oldest first
  pub waiting : List StreamWord

pub record StreamState : Type 0 where
  pub queue : QueueState
  -- the words that were passed since power-on, each as the event that a part is called with, oldest first
  pub passed : List PartEvent

-- the reset state: disabled, and nothing waits
abbrev pub queue_reset : QueueState
queue_reset = record { enabled = false; gap = 0; waiting = [] }

-- the unit at power-on
abbrev pub stream_start : StreamState
stream_start = record { queue = queue_reset; passed = [] }
