-- The lines of a report and of a trace (definitions).
use Rattle.std.specs.Prelude.{◌==◌, ℕ, ◌%◌, List, [], ◌∷◌, ◌++◌, slice_index, codes, decimal, if◌then◌else◌}
use Rattle.hex.specs.Hex.{encode_lower}
use Rattle.soc_words.specs.Text.{hex_word, line, joined_below}
use Rattle.chip_base.specs.UnitTable.{lane_name, unit_row}
use Rattle.chip_base.specs.declared.boot.BootView.{BootView}
use Rattle.chip_base.specs.declared.boot.BootView.TheVariants.{Raw, Direct, Monitor as ByMonitor, Handed}
use Rattle.chip_base.specs.declared.chip_unit.ChipUnit.TheVariants.{Uart0, Uart1}
use Rattle.chip_base.specs.declared.event.Event.{Event}
use Rattle.chip_base.specs.declared.event.EventKind.{EventKind}
use Rattle.chip_base.specs.declared.event.EventKind.TheVariants.{Tx, Out, Word, Last, Fire}
use Rattle.chip_base.specs.declared.hart.HartView.{HartView}
use Rattle.chip_base.specs.declared.hart.IssueRecord.{IssueRecord}
use Rattle.chip_base.specs.declared.hart.PhaseWord.{PhaseWord}
use Rattle.chip_base.specs.declared.hart.PhaseWord.TheVariants.{Ready, Run, Want, Sleep, Parked, Monitor}
use Rattle.trace_text.specs.Instruction.{Text, issued_text, word_text}
use Rattle.trace_text.specs.declared.lines.RowKind.{RowKind}
use Rattle.trace_text.specs.declared.lines.RowKind.TheVariants.{Mem, Flash}

-- the kind of an event
abbrev pub event_kind_name : EventKind → Text
event_kind_name Tx = codes "tx"
event_kind_name Out = codes "out"
event_kind_name Word = codes "word"
event_kind_name Last = codes "last"
event_kind_name Fire = codes "fire"

-- a UART's value is a byte, in two digits; all else is a word, in eight
abbrev pub value_text : ℕ → ℕ → Text
value_text unit value =
    if unit == (unit_row Uart0).number then encode_lower (value % 256 ∷ []) else if unit == (unit_row Uart1).number then encode_lower (value % 256 ∷ [])
    else hex_word value

-- the line of an event
unfoldable pub event_text : Event → Text
event_text e =
    line (decimal e.cycle ++ codes " " ++ lane_name e.unit ++ codes " " ++ event_kind_name e.kind ++ codes " "
    ++ value_text e.unit e.value)

-- the line that tells how core 0 began
unfoldable pub boot_text : BootView → Text
boot_text Raw = line (codes "boot raw")
boot_text Direct = line (codes "boot direct")
boot_text ByMonitor = line (codes "boot monitor")
boot_text (Handed cycle) = line (codes "boot handover " ++ decimal cycle)

-- the phase of a hart
abbrev pub phase_text : PhaseWord → Text
phase_text Ready = codes "ready"
phase_text Run = codes "run"
phase_text Want = codes "want"
phase_text Sleep = codes "sleep"
phase_text Parked = codes "parked"
phase_text Monitor = codes "monitor"

-- the first line of a hart that isn't parked
unfoldable pub hart_text : ℕ → HartView → Text
hart_text number view =
    line (codes "hart " ++ decimal number ++ codes " " ++ phase_text view.phase ++ codes " pc " ++ hex_word view.pc
    ++ codes " retired " ++ decimal view.retired)

-- the line of a hart that is parked
unfoldable pub parked_text : ℕ → Text
parked_text number = line (codes "hart " ++ decimal number ++ codes " parked")

-- nothing for a register that is zero
unfoldable pub register_text : ℕ → ℕ → Text
register_text number value =
    if value == 0 then [] else line (codes "x" ++ decimal number ++ codes " " ++ hex_word value)

-- the line of the register of this number
abbrev pub register_text_in : List ℕ → ℕ → Text
register_text_in regs number = register_text number (slice_index regs number)

-- one text for a hart that is parked, and another for any other
abbrev pub by_parked : PhaseWord → Text → Text → Text
by_parked Parked parked other = parked
by_parked phase parked other = other

-- the lines of a hart: with its registers, rising, where it isn't parked
abbrev pub hart_lines_text : ℕ → HartView → Text
hart_lines_text number view =
    by_parked view.phase (parked_text number) (hart_text number view ++ joined_below (register_text_in view.regs) 32)

-- what a row of bytes stands in
abbrev pub row_kind_name : RowKind → Text
row_kind_name Mem = codes "mem"
row_kind_name Flash = codes "flash"

-- the line of a row of bytes from an address on
unfoldable pub row_text : RowKind → ℕ → List ℕ → Text
row_text kind address row = line (row_kind_name kind ++ codes " " ++ hex_word address ++ codes " " ++ encode_lower row)

-- the line of an issued instruction
unfoldable pub trace_text : IssueRecord → Text
trace_text r =
    line (codes "trace " ++ decimal r.cycle ++ codes " " ++ decimal r.hart ++ codes " " ++ hex_word r.pc ++ codes " "
    ++ word_text r.word ++ codes " " ++ issued_text r.pc r.word)

-- the last line of a text of several lines
unfoldable pub end_text : Text
end_text = line (codes "end")
