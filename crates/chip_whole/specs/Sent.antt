-- A law over definitions: what a UART is given to send over a run, and what it sends.
use Rattle.std.specs.Prelude.{◌≡◌, ◌==◌, ℕ, zero, suc, List, [], ◌∷◌, ◌++◌, Option, None, get_or, map, if◌then◌else◌}
use Rattle.chip_base.specs.UnitTable.{link_place, unit_row}
use Rattle.chip_base.specs.declared.chip_unit.ChipUnit.TheVariants.{Uart0, Uart1}
use Rattle.chip_base.specs.Messages.{reset_in}
use Rattle.chip_base.specs.declared.event.Event.{Event}
use Rattle.chip_base.specs.declared.message.Down.{Down}
use Rattle.chip_hub.specs.Cycle.{hub_cycle}
use Rattle.soc_words.specs.Link.{all_on, link_first}
use Rattle.uart_lane.specs.Counts.{bytes_in, bytes_out}
use Rattle.uart_lane.specs.Cycle.{uart_cycle}
use Rattle.chip_whole.specs.Asked.{events_at}
use Rattle.chip_whole.specs.Chip.{Board, ChipState, Units, after, arrivals}
use Rattle.chip_whole.specs.Joined.{Joined, event_of}
use Rattle.uart_lane.specs.State.{UartState}

-- the bytes on a line, the one that arrives next first
abbrev pub bytes_on : List (Option Down) → List ℕ
bytes_on = all_on bytes_in

-- the values of a unit's events, in their order
abbrev pub told_by : ℕ → List Event → List ℕ
told_by unit events = map (λ (e : Event). e.value) (events_at unit events)

-- what the hub sends down to a unit in the next cycle, by the unit's place
abbrev pub sent_down : ChipState → ℕ → Option Down
sent_down c place = get_or (hub_cycle c.hub c.seat c.cycle (arrivals c)).downs place None

-- the bytes that were sent down to a unit in n cycles
unfoldable pub bytes_down : Board → ChipState → ℕ → ℕ → List ℕ
bytes_down board c place zero = []
bytes_down board c place (suc n) = bytes_down board c place n ++ bytes_in (sent_down (after board c n) place)

-- what became of a byte: the unit sent it, or a Reset lost it
pub data Fate : Type 0 where
  Went Lost : (byte : ℕ) → Fate

abbrev pub byte_in : Fate → ℕ
byte_in (Went byte) = byte
byte_in (Lost byte) = byte

-- the bytes that were sent
abbrev pub went : List Fate → List ℕ
went [] = []
went (Went byte ∷ rest) = byte ∷ went rest
went (Lost byte ∷ rest) = went rest

-- a Reset that arrives loses all that wait in the unit
abbrev pub lost_by : ℕ → List ℕ → List Fate
lost_by resets waiting = if resets == 0 then [] else map (λ byte. Lost byte) waiting

-- what becomes of bytes in a cycle of a UART
abbrev pub fates_in : Joined UartState → ℕ → List Fate
fates_in j now = map (λ byte. Went byte) (bytes_out (event_of uart_cycle j now)) ++ lost_by (reset_in (link_first j.down)) j.unit.fifo

-- what became of bytes in n cycles of UART0, or of UART1, by what each chip is made of
unfoldable pub fates : Board → ChipState → (Units → Joined UartState) → ℕ → List Fate
fates board c uart zero = []
fates board c uart (suc n) = fates board c uart n ++ fates_in (uart (after board c n).units) (after board c n).cycle

-- in n cycles the bytes that were sent down to the UART of this place are, in their order, those that it sent or that a Reset lost, those that wait in it and
-- those on the line; and it sent no other
pub record SendsBytes (board : Board) (c : ChipState) (n place unit : ℕ) (uart : Units → Joined UartState) : Type 0 where
  pub all : bytes_down board c place n ≡ map byte_in (fates board c uart n) ++ (uart (after board c n).units).unit.fifo ++ bytes_on (uart (after board c n).units).down
  pub told : told_by unit (after board c n).events ≡ told_by unit c.events ++ went (fates board c uart n)

pub record SendsInOrder (board : Board) (c : ChipState) (n : ℕ) : Type 0 where
  pub uart0 : SendsBytes board c n (link_place Uart0) (unit_row Uart0).number (λ units. units.uart0)
  pub uart1 : SendsBytes board c n (link_place Uart1) (unit_row Uart1).number (λ units. units.uart1)
