-- What a hub shows of its memories, its harts, its boot and its issues: a definition.
use Rattle.std.specs.Prelude.{◌==◌, ℕ, List, reverse, slice_get, nat_lt, Option, Some, None, Result, Ok, Err, if◌then◌else◌}
use Rattle.chip_base.specs.declared.boot.Boot.{Boot}
use Rattle.chip_base.specs.declared.boot.Boot.TheVariants.{Raw, Direct, Monitor}
use Rattle.chip_base.specs.declared.boot.BootView.{BootView}
use Rattle.chip_base.specs.declared.boot.BootView.TheVariants as shown
use Rattle.chip_base.specs.declared.hart.HartView.{HartView}
use Rattle.chip_base.specs.declared.hart.IssueRecord.{IssueRecord}
use Rattle.core_pair.specs.Core.{view_of}
use Rattle.csr_file.specs.Table.{read_at}
use Rattle.soc_bus.specs.Memory.{load_of}
use Rattle.soc_bus.specs.declared.access.BusFault.{BusFault}
use Rattle.soc_bus.specs.declared.access.Width.TheVariants.{Word}
use Rattle.chip_hub.specs.Lines.{mip_of}
use Rattle.chip_hub.specs.Seat.{Seat}
use Rattle.chip_hub.specs.State.{HubState}

abbrev pub loaded_word : Result ℕ BusFault → Option ℕ
loaded_word (Ok word) = Some word
loaded_word (Err fault) = None

-- the word at an address, if it is that of a word of the memories
abbrev pub word_view : HubState → ℕ → Option ℕ
word_view s address = loaded_word (load_of s.memory address Word)

-- a hart as a report shows it
abbrev pub hart_view : HubState → ℕ → HartView
hart_view s hart = if hart == 0 then view_of s.core0 else view_of s.core1

-- a CSR of a hart, mip as the lines stand
abbrev pub csr_view : HubState → ℕ → ℕ → Option ℕ
csr_view s hart number = if hart == 0 then read_at s.core0.csrs number (mip_of s 0) else read_at s.core1.csrs number (mip_of s 1)

-- how core 0 began since the last reset: the monitor hands over in some cycle, or is still there
abbrev pub monitor_view : Option ℕ → BootView
monitor_view None = shown.Monitor
monitor_view (Some cycle) = shown.Handed cycle

abbrev pub view_by : Boot → Option ℕ → BootView
view_by Raw handed = shown.Raw
view_by Direct handed = shown.Direct
view_by Monitor handed = monitor_view handed

abbrev pub boot_view : Seat → BootView
boot_view seat = view_by seat.boot seat.handed

-- the issue that lies so many issues before the latest one, by all issues: only the latest 1,000 are shown
abbrev pub issue_view : List IssueRecord → ℕ → Option IssueRecord
issue_view issues back = if nat_lt back 1000 then slice_get (reverse issues) back else None
