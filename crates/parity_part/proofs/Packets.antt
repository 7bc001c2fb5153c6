-- What the part replies to packets.
use Rattle.std.proofs.Common.{◌≡◌, ◌≢◌, ◌==◌, ℕ, Bool, true, false, List, [], ◌∷◌, ◌++◌, inl, inr, refl, ap, ap₂, sym, ◌∙◌, arith}
use Rattle.std.specs.Prelude.{bit_xor, if◌then◌else◌}
use Rattle.std.specs.Int.Bits.{xor_add_and, xor_self}
use Rattle.std.proofs.lemmas.Bool.{eqb-true}
use Rattle.std.proofs.lemmas.Nat.{and_le_l, and_le_r}
use Rattle.bench_parts.specs.Behave.{last_reply, no_reply, word_reply}
use Rattle.bench_parts.specs.Packets.{AreWhole, NoneLast}
use Rattle.bench_parts.specs.declared.event.PartEvent.{PartEvent}
use Rattle.parity_part.specs.Parity.{ChecksPackets, parity_after, parity_replies, parity_reply, xored}

-- what is remembered after some events
onto : ℕ → List PartEvent → ℕ
onto parity [] = parity
onto parity (e ∷ events) = onto (parity_after parity e) events

onto_append : (parity : ℕ) (events later : List PartEvent) → onto parity (events ++ later) ≡ onto (onto parity events) later
unfolding onto
onto_append parity [] later = refl
onto_append parity (e ∷ events) later = onto_append (parity_after parity e) events later

-- the last reply is that to the last event
reply_last : (parity : ℕ) (events : List PartEvent) (e : PartEvent)
    → last_reply (parity_replies parity (events ++ e ∷ [])) ≡ parity_reply (onto parity events) e
unfolding onto
reply_last parity [] e = refl
reply_last parity (x ∷ []) e = refl
reply_last parity (x ∷ y ∷ events) e = reply_last (parity_after parity x) (y ∷ events) e

-- over a packet it is the XOR of the words
onto_packet : (parity : ℕ) (packet : List PartEvent) → NoneLast packet → onto parity packet ≡ xored parity packet
unfolding onto
onto_packet parity [] h = refl
onto_packet parity (e ∷ packet) h =
    ap (λ (last : Bool). onto (if last then 0 else bit_xor parity e.word) packet) h.0 ∙ onto_packet (bit_xor parity e.word) packet h.1

-- and after whole packets 0
onto_whole : (events : List PartEvent) → AreWhole events → onto 0 events ≡ 0
unfolding onto
onto_whole events (inl none) = rw none refl
onto_whole events (inr h) =
    ap (onto 0) h.2 ∙ onto_append 0 h.0 (h.1 ∷ []) ∙ ap (λ (last : Bool). if last then 0 else bit_xor (onto 0 h.0) h.1.word) h.3

-- the reply to the last event of a packet
reply_packet : (before packet : List PartEvent) (e : PartEvent) → AreWhole before → NoneLast packet → e.last ≡ true
    → last_reply (parity_replies 0 (before ++ packet ++ e ∷ [])) ≡ word_reply (if bit_xor (xored 0 packet) e.word == 0 then 0 else 1)
reply_packet before packet e w none last =
    let remembered : onto 0 (before ++ packet) ≡ xored 0 packet
    = onto_append 0 before packet ∙ ap (λ p. onto p packet) (onto_whole before w) ∙ onto_packet 0 packet none in
    reply_last 0 (before ++ packet) e
    ∙ ap₂ (λ (is : Bool) p. if is then word_reply (if bit_xor p e.word == 0 then 0 else 1) else no_reply) last remembered

-- words with the XOR 0 are the same
same_of_xor : (a b : ℕ) → bit_xor a b ≡ 0 → a ≡ b
same_of_xor a b h =
    let sum = xor_add_and a b in
    let left = and_le_l a b in
    let right = and_le_r a b in
    omega (arith, h, sum, left, right)

other_by : (a b : ℕ) (zero : Bool) → (bit_xor a b == 0) ≡ zero → b ≢ a → word_reply (if zero then 0 else 1) ≡ word_reply 1
other_by a b true t other = absurd (other (sym (same_of_xor a b (eqb-true (bit_xor a b) 0 t))))
other_by a b false t other = refl

pub checks_packets : ChecksPackets (parity_replies 0)
checks_packets = record {
  whole = λ before packet e w none last same.
      reply_packet before packet e w none last
      ∙ ap (λ x. word_reply (if x == 0 then 0 else 1)) (ap (bit_xor (xored 0 packet)) same ∙ xor_self (xored 0 packet));
  damaged = λ before packet e w none last other.
      reply_packet before packet e w none last ∙ other_by (xored 0 packet) e.word (bit_xor (xored 0 packet) e.word == 0) refl other;
  silent = λ before e last.
      reply_last 0 before e
      ∙ ap (λ (is : Bool). if is then word_reply (if bit_xor (onto 0 before) e.word == 0 then 0 else 1) else no_reply) last;
}
