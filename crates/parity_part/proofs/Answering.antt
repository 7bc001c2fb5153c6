-- A call of the part answers as the definition says.
use Rattle.std.proofs.Common.{◌≡◌, ℕ, suc, List, [], ◌∷◌, ◌++◌, length, take, refl, ap, ap₂, sym}
use Rattle.bench_parts.proofs.Answering.{take_nothing}
use Rattle.bench_parts.specs.Behave.{Answers}
use Rattle.bench_parts.specs.declared.event.PartEvent.{PartEvent}
use Rattle.bench_parts.specs.declared.event.PartReply.{PartReply}
use Rattle.parity_part.specs.declared.Parity.{Parity}
use Rattle.parity_part.specs.Parity.{parity_after, parity_replies, parity_reply}

-- one reply for each event
each : (parity : ℕ) (events : List PartEvent) → length (parity_replies parity events) ≡ length events
each parity [] = refl
each parity (e ∷ events) = ap suc (each (parity_after parity e) events)

-- which doesn't depend on later events
begins : (parity : ℕ) (events later : List PartEvent) → take (length events) (parity_replies parity (events ++ later)) ≡ parity_replies parity events
begins parity [] later = take_nothing (parity_replies parity later)
begins parity (e ∷ events) later = ap (λ rest. parity_reply parity e ∷ rest) (begins (parity_after parity e) events later)

-- a call that gives the definition's reply, and remembers what it says
pub answers : (before after : Parity) (event : PartEvent) (answer : PartReply) → answer ≡ parity_reply before.parity event
    → after.parity ≡ parity_after before.parity event → Answers (λ (part : Parity). parity_replies part.parity) before after event answer
answers before after event answer r p = record {
  replies = λ later. ap₂ (λ reply parity. reply ∷ parity_replies parity later) (sym r) (sym p);
  was = record { each = each before.parity; begins = begins before.parity };
  is = record { each = each after.parity; begins = begins after.parity };
}
