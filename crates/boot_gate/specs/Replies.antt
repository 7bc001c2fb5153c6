-- Definition: what the replies that the boot monitor was given make of the bytes taken, of the bytes sent, of memory and of the flash.
use Rattle.std.specs.Prelude.{◌≡◌, ◌==◌, ℕ, ◌+◌, ◌≤◌, ◌%◌, Bool, true, false, List, [], ◌∷◌, ◌++◌, length, nat_le, if◌then◌else◌, Option, Some, None}
use Rattle.flash_seen.specs.Seen.{Seen}
use Rattle.flash_seen.specs.World.{Datum, IsTold, Place, Selection, World, effect, place_at, world_start}
use Rattle.image_tool.specs.Image.{word_at}
use Rattle.soc_bus.specs.Memory.{low_bytes, with_bytes}
use Rattle.soc_bus.specs.declared.access.Width.TheVariants.{Word}
use Rattle.boot_monitor.specs.Actions.{info_clock, info_dmem, info_imem, load, next, uart_data}
use Rattle.boot_monitor.specs.declared.exchange.MonitorOut.{MonitorOut}
use Rattle.boot_monitor.specs.declared.exchange.MonitorOut.TheVariants.{Bus, HandOver}
use Rattle.boot_gate.specs.Gate.{Shown}

-- bytes with the one more that a request and its reply take: the low eight bits of a load of UART0's DATA
abbrev pub taken_at : List ℕ → ℕ → Option ℕ → ℕ → List ℕ
taken_at bytes address None reply = if address == uart_data then bytes ++ reply % 256 ∷ [] else bytes
taken_at bytes address (Some value) reply = bytes

abbrev pub taken_by : List ℕ → MonitorOut → ℕ → List ℕ
taken_by bytes (Bus request) reply = taken_at bytes request.addr request.store reply
taken_by bytes HandOver reply = bytes

-- bytes with the one more that a request sends: a store to UART0's DATA
abbrev pub sent_at : List ℕ → ℕ → Option ℕ → List ℕ
sent_at bytes address None = bytes
sent_at bytes address (Some value) = if address == uart_data then bytes ++ value ∷ [] else bytes

abbrev pub sent_by : List ℕ → MonitorOut → List ℕ
sent_by bytes (Bus request) = sent_at bytes request.addr request.store
sent_by bytes HandOver = bytes

-- IMEM's bytes after a request: a word that is stored into it
abbrev pub word_stored : List ℕ → ℕ → Option ℕ → List ℕ
word_stored memory address None = memory
word_stored memory address (Some value) = if nat_le (address + 4) (length memory) then with_bytes memory address (low_bytes Word value) else memory

abbrev pub stored_by : List ℕ → MonitorOut → List ℕ
stored_by memory (Bus request) = word_stored memory request.addr request.store
stored_by memory HandOver = memory

-- what is known of the flash after a request and its reply
abbrev pub world_by : World → MonitorOut → ℕ → World
world_by w (Bus request) reply = effect w (place_at request.addr) request.store reply
world_by w HandOver reply = w

-- a request sends the flash an entry: a store to SPI's DATA or CS
abbrev pub sends_at : Place → Option ℕ → Bool
sends_at Datum (Some word) = true
sends_at Selection (Some word) = true
sends_at place store = false

abbrev pub sends_entry : MonitorOut → Bool
sends_entry (Bus request) = sends_at (place_at request.addr) request.store
sends_entry HandOver = false

-- a reply to a load of one of SYSINFO's words is that word
pub record IsToldShown (shown : Shown) (request : MonitorOut) (reply : ℕ) : Type 0 where
  pub imem : request ≡ load info_imem → reply ≡ shown.imem
  pub dmem : request ≡ load info_dmem → reply ≡ shown.dmem
  pub clock : request ≡ load info_clock → reply ≡ shown.clock

-- a reply to a load is such as the flash gives, and of a word of IMEM it is that word
pub record IsGivenAt (w : World) (memory : List ℕ) (address : ℕ) (store : Option ℕ) (reply : ℕ) : Type 0 where
  pub flash : IsTold w (place_at address) store reply
  pub word : store ≡ None → address + 4 ≤ length memory → reply ≡ word_at memory address

abbrev pub IsGiven : World → List ℕ → MonitorOut → ℕ → Type 0
IsGiven w memory (Bus request) reply = IsGivenAt w memory request.addr request.store reply
IsGiven w memory HandOver reply = Unit {0}

-- the bytes of a flash, and none where it isn't fitted
abbrev pub base_of : Seen → Option (List ℕ)
base_of first = if first.fitted then Some first.cells else None

-- of the replies, the latest first
module _ (room ctrl : ℕ) where
  -- the bytes that were taken, the first one first
  abbrev pub taken : List ℕ → List ℕ
  taken [] = []
  taken (reply ∷ replies) = taken_by (taken replies) (next room ctrl replies) reply

  -- the bytes that were sent
  abbrev pub sent : List ℕ → List ℕ
  sent [] = []
  sent (reply ∷ replies) = sent_by (sent replies) (next room ctrl replies)

  -- IMEM's bytes, where these were in it before
  abbrev pub memory_after : List ℕ → List ℕ → List ℕ
  memory_after before [] = before
  memory_after before (reply ∷ replies) = stored_by (memory_after before replies) (next room ctrl replies)

  -- what is known of the flash, which was seen so before
  abbrev pub world_after : Seen → List ℕ → World
  world_after first [] = world_start first
  world_after first (reply ∷ replies) = world_by (world_after first replies) (next room ctrl replies) reply

  -- the flash was sent an entry
  abbrev pub flash_used : List ℕ → Bool
  flash_used [] = false
  flash_used (reply ∷ replies) = if sends_entry (next room ctrl replies) then true else flash_used replies

  abbrev pub AreTold : Shown → List ℕ → Type 0
  AreTold shown [] = Unit {0}
  AreTold shown (reply ∷ replies) = IsToldShown shown (next room ctrl replies) reply × AreTold shown replies

  -- the flash was seen so before, and IMEM had these bytes
  abbrev pub AreGiven : Seen → List ℕ → List ℕ → Type 0
  AreGiven first before [] = Unit {0}
  AreGiven first before (reply ∷ replies) =
      IsGiven (world_after first replies) (memory_after before replies) (next room ctrl replies) reply × AreGiven first before replies
