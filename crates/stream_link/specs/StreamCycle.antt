-- One cycle of the stream link's unit, over the behaviour that its part had at power-on: a definition.
use Rattle.std.specs.Prelude.{◌==◌, ℕ, ◌-◌, ◌%◌, true, false, ◌&&◌, nat_lt, List, [], ◌∷◌, ◌++◌, drop, length, slice_get, Option, None, Some, if◌then◌else◌}
use Rattle.bench_parts.specs.Behave.{Behaviour, last_reply, no_reply}
use Rattle.bench_parts.specs.declared.event.PartEvent.{PartEvent}
use Rattle.bench_parts.specs.declared.event.PartReply.{PartReply}
use Rattle.chip_base.specs.Given.{Given, quiet}
use Rattle.chip_base.specs.Messages.{credit_up, done_up, with_word}
use Rattle.chip_base.specs.UnitTable.{unit_row}
use Rattle.chip_base.specs.declared.chip_unit.ChipUnit.TheVariants.{Slink}
use Rattle.chip_base.specs.declared.event.Event.{Event}
use Rattle.chip_base.specs.declared.event.EventKind.TheVariants.{Last, Word}
use Rattle.chip_base.specs.declared.message.Down.{Down}
use Rattle.chip_base.specs.declared.message.Down.TheVariants.{Reset, Set}
use Rattle.chip_base.specs.declared.message.Up.{Up}
use Rattle.stream_link.specs.declared.word.StreamWord.{StreamWord}
use Rattle.stream_link.specs.StreamState.{QueueState, StreamState, queue_reset}

-- a new control word
abbrev pub configured : QueueState → ℕ → QueueState
configured q control = record q { enabled = control % 2 == 1 }

-- one word more; where sixteen wait it is lost
abbrev pub queued : QueueState → StreamWord → QueueState
queued q word = if nat_lt (length q.waiting) 16 then record q { waiting = q.waiting ++ word ∷ [] } else q

-- after a register was set: the control word at 0, a word at 4, and one that is last at 8
abbrev pub set_in : QueueState → ℕ → ℕ → QueueState
set_in q reg word =
    if reg == 0 then configured q word
    else if reg == 4 then queued q (record { word = word; last = false })
    else if reg == 8 then queued q (record { word = word; last = true })
    else q

-- the word that is passed in a cycle: the first one, where the unit is enabled and no gap is left
abbrev pub next_word : QueueState → Option StreamWord
next_word q = if q.enabled && (q.gap == 0) then slice_get q.waiting 0 else None

-- the queue after it: it has lost the word, and a gap of three cycles begins; else a gap has one cycle less, enabled or not
abbrev pub queue_after : QueueState → Option StreamWord → QueueState
queue_after q None = record q { gap = q.gap - 1 }
queue_after q (Some word) = record q { gap = 3; waiting = drop 1 q.waiting }

-- a word as the event that a part is called with
abbrev pub part_event : ℕ → StreamWord → PartEvent
part_event now word = record { cycle = now; word = word.word; last = word.last }

-- and as an event of the unit
abbrev pub link_event : ℕ → StreamWord → Event
link_event now word = record { cycle = now; unit = (unit_row Slink).number; kind = (if word.last then Last else Word); value = word.word }

-- the reply to the last of the events that a part was called with since power-on; without a part there is none
abbrev pub reply_to : Option Behaviour → List PartEvent → PartReply
reply_to None passed = no_reply
reply_to (Some behave) passed = last_reply (behave passed)

-- what goes up with a reply: a credit, and beside it its word, if it has one
abbrev pub reply_up : PartReply → Up
reply_up reply = if reply.has then with_word credit_up reply.word else credit_up

-- what a cycle gives that passes this word, or none
abbrev pub passing : Option Behaviour → StreamState → ℕ → Option StreamWord → Given StreamState
passing part s now None = quiet (record s { queue = queue_after s.queue None })
passing part s now (Some word) = record {
  unit = record { queue = queue_after s.queue (Some word); passed = s.passed ++ part_event now word ∷ [] };
  up = Some (reply_up (reply_to part (s.passed ++ part_event now word ∷ [])));
  event = Some (link_event now word);
}

-- the work of a cycle
abbrev pub worked : Option Behaviour → StreamState → ℕ → Given StreamState
worked part s now = passing part s now (next_word s.queue)

-- one cycle: the message first, then the work; a Reset loses what waits, and the part isn't told
unfoldable pub stream_cycle : Option Behaviour → StreamState → ℕ → Option Down → Given StreamState
stream_cycle part s now None = worked part s now
stream_cycle part s now (Some Reset) = record { unit = record s { queue = queue_reset }; up = Some done_up; event = None }
stream_cycle part s now (Some (Set reg word)) = worked part (record s { queue = set_in s.queue reg word }) now
