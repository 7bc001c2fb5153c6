-- What the three parts reply: a definition.
use Rattle.std.specs.Prelude.{ℕ, ◌+◌, ◌%◌, ◌^◌, List, [], ◌∷◌, map, bit_xor, if◌then◌else◌}
use Rattle.std.specs.Int.{rotate_left, w32}
use Rattle.bench_parts.specs.Behave.{Behaviour, no_reply, word_reply}
use Rattle.bench_parts.specs.declared.event.PartEvent.{PartEvent}
use Rattle.bench_parts.specs.declared.event.PartReply.{PartReply}

-- the same function of each event
abbrev pub each_event : (PartEvent → PartReply) → Behaviour
each_event reply events = map reply events

-- the word itself
abbrev pub looped : Behaviour
looped = each_event (λ e. word_reply e.word)

-- a word, rotated left by 7 bits and then XORed
abbrev pub scrambled_word : ℕ → ℕ
scrambled_word word = bit_xor (rotate_left w32 word 7) 0x5a5a5a5a

abbrev pub scrambled : Behaviour
scrambled = each_event (λ e. word_reply (scrambled_word e.word))

-- how many events came since the previous last word, where `earlier` came, the latest standing first, and `begun` such events before these
abbrev pub since_last : ℕ → List PartEvent → ℕ
since_last begun [] = begun
since_last begun (e ∷ earlier) = if e.last then 0 else since_last begun earlier + 1

-- the reply of a counter to an event, after these
abbrev pub count_reply : ℕ → List PartEvent → PartEvent → PartReply
count_reply begun earlier e = if e.last then word_reply ((since_last begun earlier + 1) % 2 ^ 32) else no_reply

-- its replies to events that come after these
abbrev pub counted_after : ℕ → List PartEvent → Behaviour
counted_after begun earlier [] = []
counted_after begun earlier (e ∷ later) = count_reply begun earlier e ∷ counted_after begun (e ∷ earlier) later

-- a counter that was told so many events since the previous last word
abbrev pub counted : ℕ → Behaviour
counted begun events = counted_after begun [] events
