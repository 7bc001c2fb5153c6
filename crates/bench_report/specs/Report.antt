-- The text of a report (definitions).
use Rattle.std.specs.Prelude.{◌==◌, ℕ, ◌+◌, ◌*◌, ◌/◌, min, List, [], ◌∷◌, ◌++◌, Option, None, Some, option_to_list, length, map, slice_range, codes, decimal, if◌then◌else◌}
use Rattle.std.specs.List.{flat_map, list_all}
use Rattle.circular_buffer.specs.Buffer.{keep_last}
use Rattle.soc_words.specs.Text.{line, joined_below}
use Rattle.spi_flash.specs.Flash.{FlashState, byte_of, flash_size}
use Rattle.chip_hub.specs.Views.{boot_view, hart_view, issue_view}
use Rattle.chip_whole.specs.Chip.{ChipState}
use Rattle.chip_base.specs.declared.boot.BootView.{BootView}
use Rattle.chip_base.specs.declared.event.Event.{Event}
use Rattle.chip_base.specs.declared.hart.HartView.{HartView}
use Rattle.chip_base.specs.declared.hart.IssueRecord.{IssueRecord}
use Rattle.chip_base.specs.declared.hart.PhaseWord.{PhaseWord}
use Rattle.chip_base.specs.declared.hart.PhaseWord.TheVariants.{Parked}
use Rattle.trace_text.specs.Lines.{boot_text, end_text, event_text, hart_lines_text, row_text, trace_text}
use Rattle.trace_text.specs.declared.lines.RowKind.TheVariants.{Mem, Flash}

-- what a report shows: the number of cycles that were run, the events in their order, how core 0 began, both harts, the bytes of both
-- memories and, where one is fitted, of the flash, and the latest issues, the oldest of them first
pub record Shown : Type 0 where
  pub cycles : ℕ
  pub events : List Event
  pub boot : BootView
  pub hart0 : HartView
  pub hart1 : HartView
  pub imem : List ℕ
  pub dmem : List ℕ
  pub flash : Option (List ℕ)
  pub trace : List IssueRecord

unfoldable pub cycles_text : ℕ → List ℕ
cycles_text cycles = line (codes "cycles " ++ decimal cycles)

-- the lines of events, in their order
abbrev pub events_text : List Event → List ℕ
events_text events = flat_map event_text events

-- nothing for a hart that is parked
abbrev pub unless_parked : PhaseWord → List ℕ → List ℕ
unless_parked Parked text = []
unless_parked phase text = text

-- nothing for a row of a memory that is all zero
unfoldable pub memory_row_text : ℕ → List ℕ → List ℕ
memory_row_text address row = if list_all (λ b. b == 0) row then [] else row_text Mem address row

-- the row of sixteen bytes of this number, of a memory that begins at `base`
abbrev pub memory_row_in : ℕ → List ℕ → ℕ → List ℕ
memory_row_in base memory number = memory_row_text (base + 16 * number) (slice_range memory (16 * number) (16 * number + 16))

abbrev pub memory_text : ℕ → List ℕ → List ℕ
memory_text base memory = joined_below (memory_row_in base memory) (length memory / 16)

-- the number of rows of sixteen bytes of a flash
unfoldable pub flash_rows : ℕ
flash_rows = flash_size / 16

-- the row of sixteen bytes of this number
abbrev pub flash_row : List ℕ → ℕ → List ℕ
flash_row cells number = map (λ k. byte_of cells (16 * number + k)) (0 ∷ 1 ∷ 2 ∷ 3 ∷ 4 ∷ 5 ∷ 6 ∷ 7 ∷ 8 ∷ 9 ∷ 10 ∷ 11 ∷ 12 ∷ 13 ∷ 14 ∷ 15 ∷ [])

-- nothing for a row of the flash that is all ff
unfoldable pub flash_row_text : ℕ → List ℕ → List ℕ
flash_row_text address row = if list_all (λ b. b == 255) row then [] else row_text Flash address row

abbrev pub flash_row_in : List ℕ → ℕ → List ℕ
flash_row_in cells number = flash_row_text (16 * number) (flash_row cells number)

-- nothing where none is fitted
abbrev pub flash_text : Option (List ℕ) → List ℕ
flash_text None = []
flash_text (Some cells) = joined_below (flash_row_in cells) flash_rows

-- the lines of issues, in their order
abbrev pub trace_lines_text : List IssueRecord → List ℕ
trace_lines_text issues = flat_map trace_text issues

-- the line of the issue that lies so many issues before the latest one, where it is shown
abbrev pub issue_text_at : List IssueRecord → ℕ → List ℕ
issue_text_at issues back = trace_lines_text (option_to_list (issue_view issues back))

abbrev pub head_text : Shown → List ℕ
head_text s = cycles_text s.cycles ++ events_text s.events ++ boot_text s.boot

abbrev pub harts_text : Shown → List ℕ
harts_text s = hart_lines_text 0 s.hart0 ++ unless_parked s.hart1.phase (hart_lines_text 1 s.hart1)

-- DMEM begins at 2 ^ 31
abbrev pub tail_text : Shown → List ℕ
tail_text s = memory_text 0 s.imem ++ memory_text 2147483648 s.dmem ++ flash_text s.flash ++ trace_lines_text s.trace ++ end_text

abbrev pub report : Shown → List ℕ
report s = head_text s ++ harts_text s ++ tail_text s

-- the bytes of a flash, where it is fitted
abbrev pub shown_flash : FlashState → Option (List ℕ)
shown_flash f = if f.fitted then Some f.cells else None

-- the latest issues: so many, or all where there are fewer, and never more than the 1,000 that a chip shows
abbrev pub latest : ℕ → List IssueRecord → List IssueRecord
latest trace issues = keep_last (min trace 1000) issues

-- what a report shows of a chip after this many cycles, with the latest `trace` issues
abbrev pub shown : ChipState → ℕ → ℕ → Shown
shown chip cycles trace = record {
  cycles = cycles;
  events = chip.events;
  boot = boot_view chip.seat;
  hart0 = hart_view chip.hub 0;
  hart1 = hart_view chip.hub 1;
  imem = chip.hub.memory.imem;
  dmem = chip.hub.memory.dmem;
  flash = shown_flash chip.units.spi.unit.flash;
  trace = latest trace chip.issues;
}
