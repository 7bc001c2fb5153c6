-- For the contracts of code: what the code of a hub keeps of core 0's seat and of the issues, and the seats and issues of the definition that it stands for.
use Rattle.std.specs.Prelude.{◌≡◌, ℕ, List, Option, Some}
use Rattle.boot_monitor.specs.Standing.{Stands}
use Rattle.boot_monitor.specs.declared.exchange.MonitorOut.{MonitorOut}
use Rattle.boot_monitor.specs.declared.phases.MonitorState.{MonitorState}
use Rattle.chip_base.specs.declared.boot.Boot.{Boot}
use Rattle.chip_base.specs.declared.hart.IssueRecord.{IssueRecord}
use Rattle.chip_base.specs.declared.message.Down.{Down}
use Rattle.circular_buffer.specs.Buffer.{keep_last}
use Rattle.chip_hub.specs.Seat.{Seat, asked}
use Rattle.chip_hub.specs.State.{HubState, HubStep}

pub record SeatKept : Type 0 where
  pub boot : Boot
  -- what the monitor is made with, as in the definition
  pub room : ℕ
  pub ctrl : ℕ
  -- the monitor, and what it asks
  pub monitor : MonitorState
  pub asks : MonitorOut
  pub handed : Option ℕ
  pub pause : ℕ

pub record HubKept : Type 0 where
  pub hub : HubState
  pub seat : SeatKept
  -- the latest issues, the oldest of them first
  pub issues : List IssueRecord
  -- the store that was granted in the last cycle: its address, and the number of its bytes
  pub stored : Option (ℕ × ℕ)

-- of all issues the latest 1,000 are kept
abbrev pub IssuesStand : List IssueRecord → List IssueRecord → Type 0
IssuesStand kept all = kept ≡ keep_last 1000 all

-- the replies aren't kept, but the monitor that they lead to
pub record SeatStands (kept : SeatKept) (seat : Seat) : Type 0 where
  pub boot : kept.boot ≡ seat.boot
  pub room : kept.room ≡ seat.room
  pub ctrl : kept.ctrl ≡ seat.ctrl
  pub monitor : Stands kept.monitor seat.room seat.ctrl (Some seat.replies)
  pub asks : kept.asks ≡ asked seat
  pub handed : kept.handed ≡ seat.handed
  pub pause : kept.pause ≡ seat.pause

-- after a step: the same hub, a seat that is stood for, and the same messages
pub record StepStands (kept : HubKept) (sent : List (Option Down)) (step : HubStep) : Type 0 where
  pub hub : kept.hub ≡ step.hub
  pub seat : SeatStands kept.seat step.seat
  pub downs : sent ≡ step.downs
