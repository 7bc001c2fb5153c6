-- Parts whose reply is a function of the event alone.
use Rattle.std.proofs.Common.{◌≡◌, List, [], ◌∷◌, ◌++◌, length, map, take, refl, ap, sym}
use Rattle.std.proofs.lemmas.List.{length-map}
use Rattle.bench_parts.specs.Behave.{Answers, Replies}
use Rattle.bench_parts.specs.Parts.{each_event}
use Rattle.bench_parts.specs.declared.event.PartEvent.{PartEvent}
use Rattle.bench_parts.specs.declared.event.PartReply.{PartReply}

pub take_nothing : (replies : List PartReply) → take 0 replies ≡ []
take_nothing [] = refl
take_nothing (r ∷ rest) = refl

begins_each : (reply : PartEvent → PartReply) (events later : List PartEvent) → take (length events) (map reply (events ++ later)) ≡ map reply events
begins_each reply [] later = take_nothing (map reply later)
begins_each reply (e ∷ events) later = ap (λ rest. reply e ∷ rest) (begins_each reply events later)

replies_each : (reply : PartEvent → PartReply) → Replies (each_event reply)
replies_each reply = record { each = λ events. length-map events reply; begins = begins_each reply }

-- such a part answers what its function gives
pub answers_each : {P : Type 0} (reply : PartEvent → PartReply) (before after : P) (event : PartEvent) (answer : PartReply) → answer ≡ reply event
    → Answers (λ (part : P). each_event reply) before after event answer
answers_each reply before after event answer e = record {
  replies = λ later. ap (λ r. r ∷ map reply later) (sym e);
  was = replies_each reply;
  is = replies_each reply;
}
