-- What a counter says of packets: a law over definitions. A packet is some events that aren't last, and then one that is.
use Rattle.std.specs.Prelude.{◌≡◌, ◌⊎◌, ◌+◌, ◌%◌, ◌^◌, true, false, List, [], ◌∷◌, ◌++◌, length}
use Rattle.bench_parts.specs.Behave.{Behaviour, last_reply, no_reply, word_reply}
use Rattle.bench_parts.specs.declared.event.PartEvent.{PartEvent}

-- none of these events is last
abbrev pub NoneLast : List PartEvent → Type 0
NoneLast [] = Unit {0}
NoneLast (e ∷ events) = (e.last ≡ false) × NoneLast events

-- these events are whole packets: there are none, or the latest is last
abbrev pub AreWhole : List PartEvent → Type 0
AreWhole events = (events ≡ []) ⊎ ((earlier : List PartEvent) × (e : PartEvent) × (events ≡ earlier ++ e ∷ []) × (e.last ≡ true))

pub record CountsPackets (behave : Behaviour) : Type 0 where
  -- after whole packets, the last event of a packet has the number of the packet's events for its reply
  pub counts : (before packet : List PartEvent) (e : PartEvent) → AreWhole before → NoneLast packet → e.last ≡ true
      → last_reply (behave (before ++ packet ++ e ∷ [])) ≡ word_reply ((length packet + 1) % 2 ^ 32)
  -- no other event has a reply
  pub silent : (before : List PartEvent) (e : PartEvent) → e.last ≡ false → last_reply (behave (before ++ e ∷ [])) ≡ no_reply
