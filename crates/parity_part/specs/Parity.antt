-- What the part replies: a definition. And what holds of such replies to packets: a law.
use Rattle.std.specs.Prelude.{◌≡◌, ◌≢◌, ◌==◌, ℕ, true, false, List, [], ◌∷◌, ◌++◌, bit_xor, if◌then◌else◌}
use Rattle.bench_parts.specs.Behave.{Behaviour, last_reply, no_reply, word_reply}
use Rattle.bench_parts.specs.Packets.{AreWhole, NoneLast}
use Rattle.bench_parts.specs.declared.event.PartEvent.{PartEvent}
use Rattle.bench_parts.specs.declared.event.PartReply.{PartReply}

-- the reply to an event, where `parity` is the XOR of the words since the previous last word
abbrev pub parity_reply : ℕ → PartEvent → PartReply
parity_reply parity e = if e.last then word_reply (if bit_xor parity e.word == 0 then 0 else 1) else no_reply

-- that XOR after the event
abbrev pub parity_after : ℕ → PartEvent → ℕ
parity_after parity e = if e.last then 0 else bit_xor parity e.word

-- the replies to events, each by what is remembered of those before it
abbrev pub parity_replies : ℕ → Behaviour
parity_replies parity [] = []
parity_replies parity (e ∷ later) = parity_reply parity e ∷ parity_replies (parity_after parity e) later

-- the XOR of a word and of the words of events
abbrev pub xored : ℕ → List PartEvent → ℕ
xored word [] = word
xored word (e ∷ events) = xored (bit_xor word e.word) events

-- A packet is some events that aren't last, and then one that is. Its last word says whether the packet is whole.
pub record ChecksPackets (behave : Behaviour) : Type 0 where
  -- after whole packets, the reply to it is 0 where it is the XOR of the packet's other words
  pub whole : (before packet : List PartEvent) (e : PartEvent) → AreWhole before → NoneLast packet → e.last ≡ true → e.word ≡ xored 0 packet
      → last_reply (behave (before ++ packet ++ e ∷ [])) ≡ word_reply 0
  -- and 1 where it is any other word
  pub damaged : (before packet : List PartEvent) (e : PartEvent) → AreWhole before → NoneLast packet → e.last ≡ true → e.word ≢ xored 0 packet
      → last_reply (behave (before ++ packet ++ e ∷ [])) ≡ word_reply 1
  -- no other event has a reply, whatever came before it
  pub silent : (before : List PartEvent) (e : PartEvent) → e.last ≡ false → last_reply (behave (before ++ e ∷ [])) ≡ no_reply
