-- A definition: the arbiter, which serves the masters in rotation.
use Rattle.std.specs.Prelude.{ℕ, ◌/◌, ◌%◌, ◌==◌, Bool, List, [], ◌∷◌, Option}
use Rattle.std.specs.Option.{unwrap_or}
use Rattle.std.specs.List.{find}
use Rattle.soc_bus.specs.declared.arbiter.Master.{Master}
use Rattle.soc_bus.specs.declared.arbiter.Master.TheVariants.{Core0, Core1, Dma}

-- the master that was served last
pub record ArbiterState : Type 0 where
  pub last : Master

-- whose turn comes after a master's
abbrev pub next_of : Master → Master
next_of Core0 = Core1
next_of Core1 = Dma
next_of Dma = Core0

-- a master's bit is set: bit 0 for core 0, bit 1 for core 1, bit 2 for the DMA
abbrev pub wants_it : ℕ → Master → Bool
wants_it wants Core0 = wants % 2 == 1
wants_it wants Core1 = wants / 2 % 2 == 1
wants_it wants Dma = wants / 4 % 2 == 1

-- the order in which the masters are asked
abbrev pub order_after : Master → List Master
order_after last = next_of last ∷ next_of (next_of last) ∷ last ∷ []

-- who is served
abbrev pub granted : ArbiterState → ℕ → Option Master
granted turns wants = find (wants_it wants) (order_after turns.last)

-- the last served master after a grant
abbrev pub after_grant : ArbiterState → ℕ → ArbiterState
after_grant turns wants = record { last = unwrap_or (granted turns wants) turns.last }

-- who is served, one grant after another, where these are the wants of each
abbrev pub served_in_turn : ArbiterState → List ℕ → List (Option Master)
served_in_turn turns [] = []
served_in_turn turns (wants ∷ rest) = granted turns wants ∷ served_in_turn (after_grant turns wants) rest
