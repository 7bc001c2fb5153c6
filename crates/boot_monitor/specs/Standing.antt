-- For the contracts of code: which replies a monitor was given, which it is due, and which requests it may make.
use Rattle.std.specs.Prelude.{◌≡◌, ◌<◌, ℕ, ◌%◌, List, [], ◌∷◌, Option, Some, None, ◌⊎◌}
use Rattle.soc_bus.specs.declared.access.Request.{Request}
use Rattle.soc_bus.specs.declared.access.Width.TheVariants as width
use Rattle.boot_monitor.specs.Actions.{after_replies, info_clock, info_dmem, info_imem, info_open, spi_ctrl, spi_data, spi_select, uart_ctrl, uart_data}
use Rattle.boot_monitor.specs.Phases.{IsIn, IsStarted, IsUnderWay}
use Rattle.boot_monitor.specs.declared.exchange.MonitorIn.{MonitorIn}
use Rattle.boot_monitor.specs.declared.exchange.MonitorIn.TheVariants.{Start, Word}
use Rattle.boot_monitor.specs.declared.phases.MonitorState.{MonitorState}
use Rattle.boot_monitor.specs.declared.phases.Phase.TheVariants.{Unstarted}

-- the replies after one more, the latest first; none is given before the start
abbrev pub given_by : Option (List ℕ) → MonitorIn → List ℕ
given_by given Start = []
given_by None (Word word) = word ∷ []
given_by (Some replies) (Word word) = word ∷ replies

-- a monitor's state is one that these replies lead to, the latest first; None: it wasn't started yet
unfoldable pub Stands : MonitorState → ℕ → ℕ → Option (List ℕ) → Type 0
Stands m room ctrl None = (m.room ≡ room) × (m.ctrl ≡ ctrl) × (m.phase ≡ Unstarted)
Stands m room ctrl (Some replies) = (m.room ≡ room) × (m.ctrl ≡ ctrl) × IsStarted m.phase × IsIn m (after_replies room ctrl replies)

-- what it is to be given next: first the start, then words until it hands over
abbrev pub IsDue : MonitorState → MonitorIn → Type 0
IsDue m Start = m.phase ≡ Unstarted
IsDue m (Word word) = IsUnderWay m.phase

-- the addresses that it loads from: registers of UART0, SYSINFO and SPI, and the words of IMEM, which has this many bytes
abbrev pub IsLoaded : ℕ → ℕ → Type 0
IsLoaded room address =
    (address ≡ uart_ctrl) ⊎ (address ≡ uart_data) ⊎ (address ≡ info_clock) ⊎ (address ≡ info_imem) ⊎ (address ≡ info_dmem) ⊎ (address ≡ info_open)
    ⊎ (address ≡ spi_ctrl) ⊎ (address ≡ spi_data) ⊎ ((address < room) × (address % 4 ≡ 0))

-- the addresses that it stores to: registers of UART0 and SPI, and the words of IMEM
abbrev pub IsStored : ℕ → ℕ → Type 0
IsStored room address =
    (address ≡ uart_ctrl) ⊎ (address ≡ uart_data) ⊎ (address ≡ spi_ctrl) ⊎ (address ≡ spi_data) ⊎ (address ≡ spi_select) ⊎ ((address < room) × (address % 4 ≡ 0))

abbrev pub IsPlace : ℕ → ℕ → Option ℕ → Type 0
IsPlace room address None = IsLoaded room address
IsPlace room address (Some value) = IsStored room address

-- a request that it may make
pub record IsMine (room : ℕ) (request : Request) : Type 0 where
  pub width : request.width ≡ width.Word
  pub place : IsPlace room request.addr request.store
