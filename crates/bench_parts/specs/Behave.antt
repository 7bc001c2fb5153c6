-- What a part is: a definition.
use Rattle.std.specs.Prelude.{◌≡◌, ℕ, false, true, List, [], ◌∷◌, ◌++◌, length, take}
use Rattle.bench_parts.specs.declared.event.PartEvent.{PartEvent}
use Rattle.bench_parts.specs.declared.event.PartReply.{PartReply}

-- the replies to each list of events
abbrev pub Behaviour : Type 0
Behaviour = List PartEvent → List PartReply

-- a behaviour of a part: one reply for each event, which doesn't depend on later events
pub record Replies (behave : Behaviour) : Type 0 where
  pub each : (events : List PartEvent) → length (behave events) ≡ length events
  pub begins : (events later : List PartEvent) → take (length events) (behave (events ++ later)) ≡ behave events

-- a call with an event answers the first of the replies, and the others are those of the part after it
pub record Answers {P : Type 0} (behave : P → Behaviour) (before after : P) (event : PartEvent) (reply : PartReply) : Type 0 where
  pub replies : (later : List PartEvent) → behave before (event ∷ later) ≡ reply ∷ behave after later
  -- the part was one, and is one
  pub was : Replies (behave before)
  pub is : Replies (behave after)

-- a reply with a word, and one without
abbrev pub word_reply : ℕ → PartReply
word_reply word = record { has = true; word = word }

abbrev pub no_reply : PartReply
no_reply = record { has = false; word = 0 }

-- the last of some replies: of a part's replies to some events that to the last event
abbrev pub last_reply : List PartReply → PartReply
last_reply [] = no_reply
last_reply (reply ∷ []) = reply
last_reply (reply ∷ next ∷ rest) = last_reply (next ∷ rest)
