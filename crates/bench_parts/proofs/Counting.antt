-- A part that counts events.
use Rattle.std.proofs.Common.{◌≡◌, ℕ, ◌+◌, ◌%◌, ◌^◌, Bool, true, false, List, [], ◌∷◌, ◌++◌, length, take, refl, ap, ap₂, sym, ◌∙◌, arith, add-zero, zero-add, suc, inl, inr}
use Rattle.std.specs.Prelude.{if◌then◌else◌}
use Rattle.bench_parts.specs.Behave.{Answers, Replies, last_reply, no_reply, word_reply}
use Rattle.bench_parts.specs.Packets.{AreWhole, CountsPackets, NoneLast}
use Rattle.bench_parts.proofs.Answering.{take_nothing}
use Rattle.bench_parts.specs.Parts.{count_reply, counted, counted_after, since_last}
use Rattle.bench_parts.specs.declared.event.PartEvent.{PartEvent}
use Rattle.bench_parts.specs.declared.event.PartReply.{PartReply}

each_counted : (begun : ℕ) (earlier events : List PartEvent) → length (counted_after begun earlier events) ≡ length events
each_counted begun earlier [] = refl
each_counted begun earlier (e ∷ events) = ap suc (each_counted begun (e ∷ earlier) events)

begins_counted : (begun : ℕ) (earlier events later : List PartEvent)
    → take (length events) (counted_after begun earlier (events ++ later)) ≡ counted_after begun earlier events
begins_counted begun earlier [] later = take_nothing (counted_after begun earlier later)
begins_counted begun earlier (e ∷ events) later = ap (λ rest. count_reply begun earlier e ∷ rest) (begins_counted begun (e ∷ earlier) events later)

replies_counted : (begun : ℕ) → Replies (counted begun)
replies_counted begun = record { each = each_counted begun []; begins = begins_counted begun [] }

-- two counts that agree modulo 2^32 go on doing so
one_more : (a b : ℕ) → a % 2 ^ 32 ≡ b % 2 ^ 32 → (a + 1) % 2 ^ 32 ≡ (b + 1) % 2 ^ 32
one_more a b h = omega (arith, h)

-- two beginnings that agree modulo 2^32: one with an event before the others, and one without
abbrev Agree : ℕ → PartEvent → ℕ → Type 0
Agree begun event after = since_last begun (event ∷ []) % 2 ^ 32 ≡ after % 2 ^ 32

since_agrees : (begun : ℕ) (event : PartEvent) (after : ℕ) (earlier : List PartEvent) → Agree begun event after
    → since_last begun (earlier ++ event ∷ []) % 2 ^ 32 ≡ since_last after earlier % 2 ^ 32
since_agrees begun event after [] h = h
since_agrees begun event after (e ∷ earlier) h = by_last e.last (since_agrees begun event after earlier h)
  where
    by_last : (last : Bool) → since_last begun (earlier ++ event ∷ []) % 2 ^ 32 ≡ since_last after earlier % 2 ^ 32
        → (if last then 0 else since_last begun (earlier ++ event ∷ []) + 1) % 2 ^ 32 ≡ (if last then 0 else since_last after earlier + 1) % 2 ^ 32
    by_last true h = refl
    by_last false h = one_more (since_last begun (earlier ++ event ∷ [])) (since_last after earlier) h

reply_agrees : (begun : ℕ) (event : PartEvent) (after : ℕ) (earlier : List PartEvent) (e : PartEvent) → Agree begun event after
    → count_reply begun (earlier ++ event ∷ []) e ≡ count_reply after earlier e
reply_agrees begun event after earlier e h =
    ap (λ n. if e.last then word_reply n else no_reply)
    (one_more (since_last begun (earlier ++ event ∷ [])) (since_last after earlier) (since_agrees begun event after earlier h))

-- so their replies are the same
counted_agrees : (begun : ℕ) (event : PartEvent) (after : ℕ) (earlier later : List PartEvent) → Agree begun event after
    → counted_after begun (earlier ++ event ∷ []) later ≡ counted_after after earlier later
counted_agrees begun event after earlier [] h = refl
counted_agrees begun event after earlier (e ∷ later) h =
    ap₂ (λ r rest. r ∷ rest) (reply_agrees begun event after earlier e h) (counted_agrees begun event after (e ∷ earlier) later h)

answers_counted : {P : Type 0} (begun : P → ℕ) (before after : P) (event : PartEvent) (answer : PartReply) → answer ≡ count_reply (begun before) [] event
    → Agree (begun before) event (begun after) → Answers (λ (part : P). counted (begun part)) before after event answer
answers_counted begun before after event answer r h = record {
  replies = λ later. ap₂ (λ r rest. r ∷ rest) (sym r) (counted_agrees (begun before) event (begun after) [] later h);
  was = replies_counted (begun before);
  is = replies_counted (begun after);
}

-- an event that is last is counted, and the next one begins anew
pub answers_last : {P : Type 0} (begun : P → ℕ) (before after : P) (event : PartEvent) (answer : PartReply) → event.last ≡ true
    → answer ≡ word_reply ((begun before + 1) % 2 ^ 32) → begun after ≡ 0 → Answers (λ (part : P). counted (begun part)) before after event answer
answers_last begun before after event answer l r n = answers_counted begun before after event answer (rw l r) (rw (l, n) refl)

-- another one is counted alone
pub answers_others : {P : Type 0} (begun : P → ℕ) (before after : P) (event : PartEvent) (answer : PartReply) → event.last ≡ false
    → answer ≡ no_reply → begun after ≡ (begun before + 1) % 2 ^ 32 → Answers (λ (part : P). counted (begun part)) before after event answer
answers_others begun before after event answer l r n = answers_counted begun before after event answer (rw l r) (rw (l, n) (omega arith))

-- events before others, the latest first
onto : List PartEvent → List PartEvent → List PartEvent
onto earlier [] = earlier
onto earlier (e ∷ events) = onto (e ∷ earlier) events

onto_append : (earlier events later : List PartEvent) → onto earlier (events ++ later) ≡ onto (onto earlier events) later
unfolding onto
onto_append earlier [] later = refl
onto_append earlier (e ∷ events) later = onto_append (e ∷ earlier) events later

-- the last reply is that to the last event
reply_last : (begun : ℕ) (earlier events : List PartEvent) (e : PartEvent)
    → last_reply (counted_after begun earlier (events ++ e ∷ [])) ≡ count_reply begun (onto earlier events) e
unfolding onto
reply_last begun earlier [] e = refl
reply_last begun earlier (x ∷ []) e = refl
reply_last begun earlier (x ∷ y ∷ events) e = reply_last begun (x ∷ earlier) (y ∷ events) e

since_packet : (earlier packet : List PartEvent) → NoneLast packet → since_last 0 (onto earlier packet) ≡ since_last 0 earlier + length packet
unfolding onto
since_packet earlier [] h = sym (add-zero (since_last 0 earlier))
since_packet earlier (e ∷ packet) h =
    let more : since_last 0 (e ∷ earlier) ≡ since_last 0 earlier + 1 = rw (h.0) refl in
    let rest = since_packet (e ∷ earlier) packet h.1 in
    omega (arith, more, rest)

since_whole : (events : List PartEvent) → AreWhole events → since_last 0 (onto [] events) ≡ 0
unfolding onto
since_whole events (inl none) = rw none refl
since_whole events (inr h) =
    ap (λ x. since_last 0 (onto [] x)) h.2 ∙ ap (since_last 0) (onto_append [] h.0 (h.1 ∷ []))
    ∙ ap (λ (last : Bool). if last then 0 else since_last 0 (onto [] h.0) + 1) h.3

-- the number of a packet's events
pub counts_packets : CountsPackets (counted 0)
counts_packets = record {
  counts = λ before packet e whole none last.
      let first : last_reply (counted 0 (before ++ packet ++ e ∷ [])) ≡ count_reply 0 (onto [] (before ++ packet)) e
      = reply_last 0 [] (before ++ packet) e in
      let since : since_last 0 (onto [] (before ++ packet)) ≡ length packet
      = ap (since_last 0) (onto_append [] before packet) ∙ since_packet (onto [] before) packet none ∙ ap (λ n. n + length packet) (since_whole before whole)
      ∙ zero-add (length packet) in
      first ∙ ap₂ (λ (is : Bool) n. if is then word_reply ((n + 1) % 2 ^ 32) else no_reply) last since;
  silent = λ before e last. reply_last 0 [] before e
      ∙ ap (λ (is : Bool). if is then word_reply ((since_last 0 (onto [] before) + 1) % 2 ^ 32) else no_reply) last;
}
