-- A definition, and what serves the code alone: a link by its places, and the queue of messages that keeps them.
use Rattle.std.specs.Prelude.{◌==◌, ℕ, zero, suc, ◌<◌, ◌≤◌, List, [], ◌∷◌, Option, Some, None, if◌then◌else◌, replicate}
use Rattle.soc_words.specs.Link.{link_moved}
use Rattle.delay_line.specs.declared.link.Timed.{Timed}

-- the places of the cycles from `now` on, `count` of them, of a queue in the order of arrival
unfoldable pub places_of : {M : Type 0} → List (Timed M) → ℕ → ℕ → List (Option M)
places_of queue now zero = []
places_of [] now (suc count) = None ∷ places_of [] (suc now) count
places_of (t ∷ rest) now (suc count) =
    if t.at == now then Some t.msg ∷ places_of rest (suc now) count else None ∷ places_of (t ∷ rest) (suc now) count

-- the messages arrive one a cycle at most, in order, from one cycle on and before another
abbrev pub ArriveIn : {M : Type 0} → ℕ → ℕ → List (Timed M) → Type 0
ArriveIn from to [] = from ≤ to
ArriveIn from to (t ∷ rest) = (from ≤ t.at) × (t.at < to) × ArriveIn (suc t.at) to rest

-- what arrives in the cycle `now`
abbrev pub arriving_of : {M : Type 0} → List (Timed M) → ℕ → Option M
arriving_of [] now = None
arriving_of (t ∷ rest) now = if t.at == now then Some t.msg else None

-- the queue after what arrives in the cycle `now` was taken
abbrev pub left_after : {M : Type 0} → List (Timed M) → ℕ → List (Timed M)
left_after [] now = []
left_after (t ∷ rest) now = if t.at == now then rest else t ∷ rest

-- a link: the cycle that is next to come, and a place for each cycle of the delay
pub record Flow (M : Type 0) : Type 0 where
  pub cycle : ℕ
  pub places : List (Option M)

-- the link after a cycle in which `sent` was sent
abbrev pub flowed : {M : Type 0} → Flow M → Option M → Flow M
flowed f sent = record { cycle = suc f.cycle; places = link_moved f.places sent }

-- a link with nothing on its way
unfoldable pub empty_link : {M : Type 0} → ℕ → List (Option M)
empty_link delay = replicate delay None
