-- A part that was called with one event more.
use Rattle.std.proofs.Common.{◌≡◌, ℕ, zero, suc, ◌+◌, List, [], ◌∷◌, ◌++◌, length, drop, Option, None, Some, refl, sym, ap, ◌∙◌, arith, append_assoc, length-append}
use Rattle.bench_parts.specs.Behave.{Behaviour, last_reply, no_reply}
use Rattle.bench_parts.specs.declared.event.PartEvent.{PartEvent}
use Rattle.bench_parts.specs.declared.event.PartReply.{PartReply}
use Rattle.stream_link.specs.Standing.{Asked, BehavesAfter}

drop_nothing : (n : ℕ) → (let none : List PartReply = [] in drop n none ≡ none)
drop_nothing zero = refl
drop_nothing (suc n) = refl

last_of_drop : (n : ℕ) (replies : List PartReply) (r : PartReply) → drop n replies ≡ r ∷ [] → last_reply replies ≡ r
last_of_drop zero replies r e = ap last_reply e
last_of_drop (suc n) [] r e = cc
last_of_drop (suc n) (x ∷ []) r e = let none = drop_nothing n in cc
last_of_drop (suc n) (x ∷ y ∷ rest) r e = last_of_drop n (y ∷ rest) r e

drop_one_more : (n : ℕ) (replies rest : List PartReply) (r : PartReply) → drop n replies ≡ r ∷ rest → drop (n + 1) replies ≡ rest
drop_one_more zero replies rest r e = ap (drop 1) e
drop_one_more (suc n) [] rest r e = cc
drop_one_more (suc n) (x ∷ replies) rest r e =
    let more : suc n + 1 ≡ suc (n + 1) = omega arith in ap (λ k. drop k (x ∷ replies)) more ∙ drop_one_more n replies rest r e

empty_of_length : (replies : List PartReply) → length replies ≡ 0 → replies ≡ []
empty_of_length [] h = refl
empty_of_length (x ∷ replies) h = absurd (omega (arith, h))

-- what is left of the behaviour after a call, and the reply
pub asked_some : (start : Option Behaviour) (passed : List PartEvent) (event : PartEvent) (before after : Behaviour) (answer : PartReply) → length (after []) ≡ 0
    → ((later : List PartEvent) → before (event ∷ later) ≡ answer ∷ after later) → BehavesAfter start (Some before) passed → Asked start passed event (Some after) answer
unfolding BehavesAfter
asked_some None passed event before after answer none replies h = absurd h
asked_some (Some start) passed event before after answer none replies h = record {
  behaves = λ later.
      let here : drop (length passed) (start ((passed ++ event ∷ []) ++ later)) ≡ answer ∷ after later
      = ap (λ all. drop (length passed) (start all)) (append_assoc passed (event ∷ []) later) ∙ sym (h (event ∷ later)) ∙ replies later in
      sym (drop_one_more (length passed) (start ((passed ++ event ∷ []) ++ later)) (after later) answer here)
      ∙ ap (λ n. drop n (start ((passed ++ event ∷ []) ++ later))) (sym (length-append passed (event ∷ [])));
  replied = sym (last_of_drop (length passed) (start (passed ++ event ∷ [])) answer
      (sym (h (event ∷ [])) ∙ replies [] ∙ ap (λ rest. answer ∷ rest) (empty_of_length (after []) none)));
}

-- without a part
pub asked_none : (start : Option Behaviour) (passed : List PartEvent) (event : PartEvent) → BehavesAfter start None passed → Asked start passed event None no_reply
unfolding BehavesAfter
asked_none None passed event h = record { behaves = tt; replied = refl }
asked_none (Some start) passed event h = absurd h
