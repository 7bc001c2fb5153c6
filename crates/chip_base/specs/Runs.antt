-- What is done in cycles, over many of them: a definition.
use Rattle.std.specs.Prelude.{ℕ, zero, suc, ◌+◌, List, [], ◌++◌, Option, None, map, option_to_list}
use Rattle.chip_base.specs.Given.{Given}
use Rattle.chip_base.specs.declared.event.Event.{Event}
use Rattle.chip_base.specs.declared.message.Down.{Down}
use Rattle.chip_base.specs.declared.message.Up.{Up}

-- what one cycle gives, or several: the state after them, and the messages that were sent and the events that were told in them, in their order
pub record Transcript (S X Y : Type 0) : Type 0 where
  pub state : S
  pub sent : List X
  pub told : List Y

-- a state, with nothing sent and nothing told
abbrev pub quiet_transcript : {S X Y : Type 0} → S → Transcript S X Y
quiet_transcript s = record { state = s; sent = []; told = [] }

-- what cycles give, and the later ones after them
abbrev pub transcript_then : {S X Y : Type 0} → Transcript S X Y → Transcript S X Y → Transcript S X Y
transcript_then first later = record { state = later.state; sent = first.sent ++ later.sent; told = first.told ++ later.told }

-- what n cycles give from the cycle `start` on, where `arrives t` arrives in the cycle t
unfoldable pub ran : {S A X Y : Type 0} → (S → ℕ → A → Transcript S X Y) → S → ℕ → (ℕ → A) → ℕ → Transcript S X Y
ran step s start arrives zero = quiet_transcript s
ran step s start arrives (suc n) =
    transcript_then (ran step s start arrives n) (step (ran step s start arrives n).state (start + n) (arrives (start + n)))

-- nothing arrives in any cycle
abbrev pub never : {A : Type 0} → ℕ → Option A
never t = None

-- what a unit gives in the cycle `now`, its message with this cycle
abbrev pub transcript_in : {S : Type 0} → ℕ → Given S → Transcript S (ℕ × Up) Event
transcript_in now g = record { state = g.unit; sent = map (λ up. (now, up)) (option_to_list g.up); told = option_to_list g.event }

-- a unit's cycle as one of those that are repeated
abbrev pub unit_step : {S : Type 0} → (S → ℕ → Option Down → Given S) → S → ℕ → Option Down → Transcript S (ℕ × Up) Event
unit_step cycle s now down = transcript_in now (cycle s now down)

-- the unit after n cycles from the cycle `start` on, where `downs t` arrives in the cycle t
unfoldable pub unit_after : {S : Type 0} → (S → ℕ → Option Down → Given S) → S → ℕ → (ℕ → Option Down) → ℕ → S
unit_after cycle s start downs n = (ran (unit_step cycle) s start downs n).state

-- what the unit gives in the cycle after these n
abbrev pub given_after : {S : Type 0} → (S → ℕ → Option Down → Given S) → S → ℕ → (ℕ → Option Down) → ℕ → Given S
given_after cycle s start downs n = cycle (unit_after cycle s start downs n) (start + n) (downs (start + n))
