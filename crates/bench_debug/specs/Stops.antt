-- A definition: where a session of the debugger stops.
use Rattle.std.specs.Prelude.{◌==◌, ℕ, zero, suc, ◌+◌, ◌/◌, ◌%◌, ◌^◌, Bool, true, false, ◌&&◌, List, [], ◌∷◌, Option, Some, None, if◌then◌else◌, option_map}
use Rattle.std.specs.List.{list_any, range_with_len}
use Rattle.std.specs.Option.{option_or}
use Rattle.chip_base.specs.declared.hart.HartView.{HartView}
use Rattle.chip_base.specs.declared.hart.PhaseWord.{PhaseWord}
use Rattle.chip_base.specs.declared.hart.PhaseWord.TheVariants.{Ready}
use Rattle.chip_hub.specs.Views.{hart_view}
use Rattle.chip_whole.specs.Chip.{Board, ChipState, after}
use Rattle.command_text.specs.declared.command.Command.{Command}
use Rattle.command_text.specs.declared.command.Command.TheVariants as command
use Rattle.bench_debug.specs.declared.stop.Stop.{Stop}
use Rattle.bench_debug.specs.declared.stop.Stop.TheVariants as stop

-- a command that adds a break of this hart at this address
abbrev pub is_break_at : ℕ → ℕ → Command → Bool
is_break_at hart pc (command.Break h at) = h == hart && at == pc
is_break_at hart pc other = false

-- a hart that is ready
abbrev pub is_ready : PhaseWord → Bool
is_ready Ready = true
is_ready other = false

-- a hart is ready with its pc at a break of it
abbrev pub is_at_break : List Command → ℕ → HartView → Bool
is_at_break earlier hart view = is_ready view.phase && list_any (is_break_at hart view.pc) earlier

-- the stop at a break of a hart
abbrev pub stop_at_break : List Command → ℕ → HartView → Option Stop
stop_at_break earlier hart view = if is_at_break earlier hart view then Some (stop.Break hart view.pc) else None

-- one of the bytes of a store, whose addresses wrap, lies in the word at an address that is a multiple of four
abbrev pub meets : ℕ × ℕ → ℕ → Bool
meets store address = list_any (λ k. (store.0 + k) % 2 ^ 32 / 4 == address / 4) (range_with_len 0 store.1)

-- the watched word, where a command adds a watch that a store meets
abbrev pub met_by : ℕ × ℕ → Command → Option ℕ
met_by store (command.Watch at) = if meets store at then Some at else None
met_by store other = None

-- the watch that was added first of those that a store meets
unfoldable pub first_met : List Command → ℕ × ℕ → Option ℕ
first_met [] store = None
first_met (c ∷ rest) store = option_or (met_by store c) (first_met rest store)

-- the stop at a watch that the store of the last cycle meets, where there was one
abbrev pub stop_at_watch : List Command → Option (ℕ × ℕ) → Option Stop
stop_at_watch earlier None = None
stop_at_watch earlier (Some store) = option_map stop.Watch (first_met earlier store)

-- the stop that holds, where these commands were read: hart 0's break goes before hart 1's, and a break before a watch
unfoldable pub stop_in : List Command → ChipState → Option Stop
stop_in earlier s =
    option_or (stop_at_break earlier 0 (hart_view s.hub 0))
    (option_or (stop_at_break earlier 1 (hart_view s.hub 1)) (stop_at_watch earlier s.stored))

-- a count of cycles since the session began, and why a run ends there
pub record Found : Type 0 where
  pub cycles : ℕ
  pub stop : Stop

-- a stop that holds at a count, or else what is found later
abbrev pub found_or : ℕ → Option Stop → Found → Found
found_or cycles (Some stop) later = record { cycles = cycles; stop = stop }
found_or cycles None later = later

-- the least count above n, and at most so many above it, at which a stop holds, or else the last of them
unfoldable pub search : Board → ChipState → List Command → ℕ → ℕ → Found
search board s earlier n zero = record { cycles = n; stop = stop.Bound }
search board s earlier n (suc left) = found_or (n + 1) (stop_in earlier (after board s (n + 1))) (search board s earlier (n + 1) left)
