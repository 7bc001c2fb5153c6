-- For the contracts of code: a chip in code within a session, and the commands that let a run of it stop.
use Rattle.std.specs.Prelude.{ℕ, Bool, true, false}
use Rattle.chip_whole.specs.Chip.{Board, ChipState, after}
use Rattle.command_text.specs.declared.command.Command.{Command}
use Rattle.command_text.specs.declared.command.Command.TheVariants as command

-- a fact of each chip, and of each number of cycles after which a chip in code stands for it
abbrev pub InSession : {C : Type 0} → (Board → C → ChipState → Type 0) → C → (Board → ChipState → ℕ → Type 0) → Type 0
InSession stands chip P = (board : Board) (s : ChipState) (n : ℕ) → stands board chip (after board s n) → P board s n

-- a command that adds a break or a watch
abbrev pub adds_stop : Command → Bool
adds_stop (command.Break hart at) = true
adds_stop (command.Watch at) = true
adds_stop other = false
