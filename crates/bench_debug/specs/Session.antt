-- A definition: what a session of the debugger prints.
use Rattle.std.specs.Prelude.{ℕ, ◌+◌, ◌-◌, ◌*◌, ◌%◌, ◌^◌, List, [], ◌∷◌, ◌++◌, Option, Some, None, codes, decimal, min}
use Rattle.chip_hub.specs.State.{HubState}
use Rattle.chip_hub.specs.Views.{csr_view, hart_view, word_view}
use Rattle.chip_whole.specs.Chip.{Board, ChipState, after}
use Rattle.soc_words.specs.Text.{hex_word, joined_below, line}
use Rattle.text_fields.specs.Fields.{Text}
use Rattle.trace_text.specs.Instruction.{last_digits}
use Rattle.trace_text.specs.Lines.{end_text, hart_lines_text}
use Rattle.bench_debug.specs.Stops.{Found, search}
use Rattle.command_text.specs.declared.command.Command.{Command}
use Rattle.command_text.specs.declared.command.Command.TheVariants as command
use Rattle.bench_debug.specs.declared.stop.Stop.{Stop}
use Rattle.bench_debug.specs.declared.stop.Stop.TheVariants as stop

-- the line of a step
unfoldable pub at_text : ℕ → Text
at_text cycle = line (codes "at " ++ decimal cycle)

-- why a run ends
unfoldable pub reason_text : Stop → Text
reason_text stop.Bound = codes "bound"
reason_text (stop.Break hart at) = codes "break " ++ decimal hart ++ codes " " ++ hex_word at
reason_text (stop.Watch at) = codes "watch " ++ hex_word at

-- the line of a run to a stop
unfoldable pub stop_text : ℕ → Stop → Text
stop_text cycle why = line (codes "stop " ++ decimal cycle ++ codes " " ++ reason_text why)

-- a word, if there is one
abbrev pub word_or_none : Option ℕ → Text
word_or_none None = codes "none"
word_or_none (Some word) = hex_word word

-- the line of a CSR of a hart
unfoldable pub csr_text : ℕ → ℕ → Option ℕ → Text
csr_text hart addr value = line (codes "csr " ++ decimal hart ++ codes " " ++ last_digits 3 addr ++ codes " " ++ word_or_none value)

-- the line of the word at an address
unfoldable pub mem_text : ℕ → Option ℕ → Text
mem_text address value = line (codes "word " ++ hex_word address ++ codes " " ++ word_or_none value)

-- the line of the word that lies so many words behind an address; addresses wrap
abbrev pub mem_text_in : HubState → ℕ → ℕ → Text
mem_text_in hub at k = mem_text ((at + 4 * k) % 2 ^ 32) (word_view hub ((at + 4 * k) % 2 ^ 32))

-- what a command does: how many cycles have been run since the session began, once the command is done, and what it prints
pub record Obeyed : Type 0 where
  pub cycles : ℕ
  pub text : Text

-- the count to which a step of this many cycles goes, which isn't past the bound
abbrev pub stepped_to : ChipState → ℕ → ℕ → ℕ → ℕ
stepped_to s bound n cycles = n + min cycles (bound - (s.cycle + n))

-- where a run ends that goes on for the next stop, or for the bound
abbrev pub first_stop : Board → ChipState → ℕ → List Command → ℕ → Found
first_stop board s bound earlier n = search board s earlier n (bound - (s.cycle + n))

-- a run that ends at a stop
abbrev pub stopped : ChipState → Found → Obeyed
stopped s found = record { cycles = found.cycles; text = stop_text (s.cycle + found.cycles) found.stop }

-- what a command does on a chip, after n cycles from its state at the session's beginning, and where these commands were read
unfoldable pub done_by : Board → ChipState → ℕ → List Command → ℕ → Command → Obeyed
done_by board s bound earlier n (command.Break hart at) = record { cycles = n; text = [] }
done_by board s bound earlier n (command.Watch at) = record { cycles = n; text = [] }
done_by board s bound earlier n (command.Step cycles) = record { cycles = stepped_to s bound n cycles; text = at_text (s.cycle + stepped_to s bound n cycles) }
done_by board s bound earlier n command.Cont = stopped s (first_stop board s bound earlier n)
done_by board s bound earlier n (command.Regs hart) = record { cycles = n; text = hart_lines_text hart (hart_view (after board s n).hub hart) }
done_by board s bound earlier n (command.Csr hart addr) = record { cycles = n; text = csr_text hart addr (csr_view (after board s n).hub hart addr) }
done_by board s bound earlier n (command.Mem at count) = record { cycles = n; text = joined_below (mem_text_in (after board s n).hub at) count }

-- the count of cycles after commands
unfoldable pub cycles_by : Board → ChipState → ℕ → List Command → ℕ → List Command → ℕ
cycles_by board s bound earlier n [] = n
cycles_by board s bound earlier n (c ∷ rest) = cycles_by board s bound (earlier ++ c ∷ []) (done_by board s bound earlier n c).cycles rest

-- what commands print
unfoldable pub text_by : Board → ChipState → ℕ → List Command → ℕ → List Command → Text
text_by board s bound earlier n [] = []
text_by board s bound earlier n (c ∷ rest) =
    (done_by board s bound earlier n c).text ++ text_by board s bound (earlier ++ c ∷ []) (done_by board s bound earlier n c).cycles rest

-- what a session prints: over a chip, up to a bound, by its commands
unfoldable pub debug_text : Board → ChipState → ℕ → List Command → Text
debug_text board s bound commands = text_by board s bound [] 0 commands ++ end_text

-- the cycles of a session: up to the last cycle count that its text speaks of, and none where no line speaks of one
abbrev pub cycles_told : Board → ChipState → ℕ → List Command → ℕ
cycles_told board s bound commands = cycles_by board s bound [] 0 commands
