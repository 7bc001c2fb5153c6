-- What is sent arrives a delay later.
use Rattle.std.proofs.Common.{◌≡◌, ℕ, zero, suc, ◌+◌, List, [], ◌∷◌, ◌++◌, length, Option, refl, ap, sym, ◌∙◌, arith, append-nil, append_assoc, length-append}
use Rattle.soc_words.specs.Link.{link_first, link_moved}
use Rattle.delay_line.specs.Arrival.{after_sends, ArrivesOnTime}
use Rattle.delay_line.specs.Queue.{Flow, empty_link, flowed, places_of}
use Rattle.delay_line.proofs.Places.{places_of_nothing}

-- a link keeps its number of places
pub same_places : {M : Type 0} (link : List (Option M)) (sent : Option M) → length (link_moved link sent) ≡ length link
same_places [] sent = refl
same_places (x ∷ rest) sent = length-append rest (sent ∷ []) ∙ omega arith

-- a link has a place for each cycle of its delay
empty_places : (M : Type 0) (delay : ℕ) → length (empty_link {M = M} delay) ≡ delay
unfolding empty_link
empty_places M zero = refl
empty_places M (suc delay) = ap suc (empty_places M delay)

pub first_places : (M : Type 0) (now delay : ℕ) → length (places_of {M = M} [] now delay) ≡ delay
first_places M now delay = ap length (places_of_nothing {M = M} now delay) ∙ empty_places M delay

-- as many places as cycles have passed are taken off, and what was sent in the cycles stands last
sends_reach : {M : Type 0} (f : Flow M) (ms gone rest : List (Option M)) → f.places ≡ gone ++ rest → length gone ≡ length ms
    → (after_sends f ms).places ≡ rest ++ ms
unfolding after_sends
sends_reach f [] [] rest e l = e ∙ sym (append-nil rest)
sends_reach f [] (x ∷ gone) rest e l = absurd (omega (arith, l))
sends_reach f (m ∷ ms) [] rest e l = absurd (omega (arith, l))
sends_reach f (m ∷ ms) (x ∷ gone) rest e l =
    sends_reach (flowed f m) ms gone (rest ++ m ∷ []) (ap (λ link. link_moved link m) e ∙ append_assoc gone rest (m ∷ [])) (omega (arith, l))
    ∙ append_assoc rest (m ∷ []) ms

arrives_by : {M : Type 0} (f : Flow M) (sent : Option M) (ms link : List (Option M)) → f.places ≡ link → length ms + 1 ≡ length link
    → link_first (after_sends (flowed f sent) ms).places ≡ sent
arrives_by f sent ms [] e l = absurd (omega (arith, l))
arrives_by f sent ms (x ∷ rest) e l =
    ap link_first (sends_reach (flowed f sent) ms rest (sent ∷ []) (ap (λ link. link_moved link sent) e) (omega (arith, l)))

pub arrives_on_time : {M : Type 0} (f : Flow M) (sent : Option M) → ArrivesOnTime f sent
arrives_on_time f sent ms l = arrives_by f sent ms f.places refl l
