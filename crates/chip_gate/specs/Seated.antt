-- Definition: what a chip shows of the boot monitor in core 0's seat: whether it is there, the bytes that it took and sent since the last
-- reset or power-on, and what it has left to do.
use Rattle.std.specs.Prelude.{ℕ, Bool, true, false, List}
use Rattle.boot_monitor.specs.Actions.{Action, after_replies as answered_by}
use Rattle.boot_gate.specs.Gate.{Shown}
use Rattle.boot_gate.specs.Replies as reply
use Rattle.chip_base.specs.Settings.{Values}
use Rattle.chip_base.specs.declared.boot.BootView.{BootView}
use Rattle.chip_base.specs.declared.boot.BootView.TheVariants as shown
use Rattle.chip_whole.specs.Chip.{ChipState}
use Rattle.core_pair.specs.declared.phase.Phase.{Phase}
use Rattle.core_pair.specs.declared.phase.Phase.TheVariants.{Monitor}

abbrev pub is_monitor : Phase → Bool
is_monitor Monitor = true
is_monitor other = false

-- core 0 is in the monitor
abbrev pub in_monitor : ChipState → Bool
in_monitor c = is_monitor c.hub.core0.phase

-- a report shows that the monitor hasn't handed over
abbrev pub shows_monitor : BootView → Bool
shows_monitor shown.Monitor = true
shows_monitor other = false

-- the low bytes that answered its loads of UART0's DATA, the first one first
abbrev pub taken : ChipState → List ℕ
taken c = reply.taken c.seat.room c.seat.ctrl c.seat.replies

-- the bytes that it stored to UART0's DATA
abbrev pub sent : ChipState → List ℕ
sent c = reply.sent c.seat.room c.seat.ctrl c.seat.replies

-- it sent the flash an entry since the last reset or power-on
abbrev pub flash_used : ChipState → Bool
flash_used c = reply.flash_used c.seat.room c.seat.ctrl c.seat.replies

abbrev pub todo : ChipState → List Action
todo c = (answered_by c.seat.room c.seat.ctrl c.seat.replies).todo

-- the words that it prints, by the settings
abbrev pub shown_by : Values → Shown
shown_by v = record { imem = v.imem; dmem = v.dmem; clock = v.clock }
