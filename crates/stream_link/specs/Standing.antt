-- When the unit in code stands for one of the definition: it keeps the part as it is now, and the definition what the part was called with since power-on.
use Rattle.std.specs.Prelude.{◌≡◌, ℕ, List, [], ◌∷◌, ◌++◌, length, drop, Option, Some, None}
use Rattle.bench_parts.specs.Behave.{Behaviour}
use Rattle.bench_parts.specs.declared.event.PartEvent.{PartEvent}
use Rattle.bench_parts.specs.declared.event.PartReply.{PartReply}
use Rattle.chip_base.specs.declared.message.Up.{Up}
use Rattle.stream_link.specs.StreamCycle.{part_event, reply_to, reply_up}
use Rattle.stream_link.specs.StreamState.{QueueState, StreamState}
use Rattle.stream_link.specs.declared.word.StreamWord.{StreamWord}

-- a part that behaves like `now` is one that behaved like `start` and was then called with these events; or there is none
unfoldable pub BehavesAfter : Option Behaviour → Option Behaviour → List PartEvent → Type 0
BehavesAfter None None passed = Unit {0}
BehavesAfter None (Some now) passed = ⊥
BehavesAfter (Some start) None passed = ⊥
BehavesAfter (Some start) (Some now) passed = (later : List PartEvent) → now later ≡ drop (length passed) (start (passed ++ later))

-- the unit in code: its queue is that of the definition, and its part is one that behaves so after the words that were passed
pub record StreamStands (behaves : List PartEvent → Type 0) (queue : QueueState) (s : StreamState) : Type 0 where
  pub of_queue : queue ≡ s.queue
  pub of_part : behaves s.passed

-- Serves the code: after one event more a part behaves so, and this was its reply.
pub record Asked (start : Option Behaviour) (passed : List PartEvent) (event : PartEvent) (now : Option Behaviour) (reply : PartReply) : Type 0 where
  pub behaves : BehavesAfter start now (passed ++ event ∷ [])
  pub replied : reply ≡ reply_to start (passed ++ event ∷ [])

-- Serves the code: after one word more a part behaves so, and this went up.
pub record Passed (start : Option Behaviour) (passed : List PartEvent) (cycle : ℕ) (word : StreamWord) (now : Option Behaviour) (up : Option Up) : Type 0 where
  pub behaves : BehavesAfter start now (passed ++ part_event cycle word ∷ [])
  pub replied : up ≡ Some (reply_up (reply_to start (passed ++ part_event cycle word ∷ [])))
