-- Definition: core 0's seat: how core 0 begins, and the boot monitor, which acts in core 0's place until it hands over.
use Rattle.std.specs.Prelude.{◌==◌, ℕ, ◌-◌, ◌&&◌, Bool, true, false, List, [], ◌∷◌, Option, Some, None, Result, Ok, Err, if◌then◌else◌}
use Rattle.boot_monitor.specs.Actions.{next}
use Rattle.boot_monitor.specs.declared.exchange.MonitorOut.{MonitorOut}
use Rattle.boot_monitor.specs.declared.exchange.MonitorOut.TheVariants.{Bus, HandOver}
use Rattle.chip_base.specs.declared.boot.Boot.{Boot}
use Rattle.soc_bus.specs.declared.access.BusFault.{BusFault}
use Rattle.soc_bus.specs.declared.access.Request.{Request}

pub record Seat : Type 0 where
  pub boot : Boot
  -- what the monitor was made with: the size of IMEM in bytes, and the word that it stores to UART0's CTRL
  pub room : ℕ
  pub ctrl : ℕ
  -- the cycle of the hand-over since the last reset
  pub handed : Option ℕ
  -- what the monitor's requests were answered since the last reset, the latest first
  pub replies : List ℕ
  -- the turns until the monitor acts: it acts in the turn that finds 1, and at 0 its request stands
  pub pause : ℕ

-- what the monitor asks next, by what it was answered
unfoldable pub asked : Seat → MonitorOut
asked seat = next seat.room seat.ctrl seat.replies

abbrev pub request_in : MonitorOut → Option Request
request_in (Bus request) = Some request
request_in HandOver = None

abbrev pub is_hand_over : MonitorOut → Bool
is_hand_over HandOver = true
is_hand_over (Bus request) = false

-- the monitor's request, where it stands: it wants the bus
abbrev pub standing : Seat → Option Request
standing seat = if seat.pause == 0 then request_in (asked seat) else None

-- a seat in which the monitor begins, in the cycle that comes
abbrev pub seat_begun : Boot → ℕ → ℕ → Seat
seat_begun boot room ctrl = record { boot = boot; room = room; ctrl = ctrl; handed = None; replies = []; pause = 1 }

-- after a reset: the monitor begins anew
abbrev pub seat_reset : Seat → Seat
seat_reset seat = seat_begun seat.boot seat.room seat.ctrl

-- in this turn the monitor acts, and hands over
abbrev pub hands_over : Seat → Bool
hands_over seat = seat.pause == 1 && is_hand_over (asked seat)

-- after the monitor's turn in the cycle `now`
abbrev pub seat_turned : Seat → ℕ → Seat
seat_turned seat now = record seat { pause = seat.pause - 1; handed = if hands_over seat then Some now else seat.handed }

-- the word that answers a request; the monitor's requests are never refused, and a refusal would count as 0
abbrev pub reply_in : Result ℕ BusFault → ℕ
reply_in (Ok word) = word
reply_in (Err fault) = 0

-- after a grant of the monitor's request in the cycle t: it acts again in the cycle t + 8
abbrev pub seat_answered : Seat → ℕ → Seat
seat_answered seat reply = record seat { replies = reply ∷ seat.replies; pause = 8 }
