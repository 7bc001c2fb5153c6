-- What is kept of a chip goes on as the chip does.
use Rattle.std.proofs.Common.{◌≡◌, ℕ, suc, ◌++◌, List, [], Option, None, get_or, refl, ap, ◌∙◌}
use Rattle.chip_base.specs.Settings.{Values}
use Rattle.chip_base.specs.UnitTable.{link_place}
use Rattle.chip_base.specs.declared.chip_unit.ChipUnit.TheVariants.{Slink}
use Rattle.chip_base.specs.declared.boot.Boot.{Boot}
use Rattle.chip_base.specs.declared.script.Script.{Script}
use Rattle.chip_base.specs.declared.event.Event.{Event}
use Rattle.chip_base.specs.declared.hart.IssueRecord.{IssueRecord}
use Rattle.chip_base.specs.declared.message.Down.{Down}
use Rattle.chip_base.specs.declared.message.Up.{Up}
use Rattle.chip_hub.specs.Cycle.{hub_cycle}
use Rattle.chip_hub.specs.Kept.{HubKept, IssuesStand, SeatStands, StepStands}
use Rattle.chip_hub.specs.Observed.{hub_issues, hub_stored}
use Rattle.chip_hub.specs.Seat.{Seat}
use Rattle.chip_hub.specs.Start.{hub_start, seat_start}
use Rattle.delay_line.specs.Queue.{empty_link}
use Rattle.soc_words.specs.Link.{link_first, link_moved}
use Rattle.stream_link.specs.StreamCycle.{stream_cycle}
use Rattle.stream_link.specs.StreamState.{StreamState, stream_start}
use Rattle.chip_whole.specs.Chip.{Board, ChipState, Units, arrivals, arriving, delay_of, events_of, start, tick, told_by_units, units_after, units_start}
use Rattle.chip_whole.specs.Standing.{ChipStands, JoinedStands, Kept}

-- what the code of the stream link gives in a cycle that it begins standing so: it stands for the unit after it, and gives what the unit gives
abbrev pub StreamSteps : Board → (StreamState → Type 0) → (StreamState → Type 0) → ℕ → Option Down → Option Up → Option Event → Type 0
StreamSteps board slink next now down up event =
    (s : StreamState) → slink s → next (stream_cycle board.part s now down).unit × (up ≡ (stream_cycle board.part s now down).up) × (event ≡ (stream_cycle board.part s now down).event)

-- what a chip keeps, by what its hub and its units keep
abbrev pub kept_of : HubKept → Units → List (Option Down) → List (Option Up) → ℕ → Kept
kept_of hub units down up cycle = record { hub = hub.hub; seat = hub.seat; units = units; down = down; up = up; cycle = cycle; issues = hub.issues; stored = hub.stored }

-- what the code of the hub and of the units gives in a cycle makes one of the chip
pub step_stands : (board : Board) (slink next : StreamState → Type 0) (k : Kept) (s : ChipState) (ups : List (Option Up)) (now : ℕ) (hub : HubKept) (downs : List (Option Down))
    → (units : Units) (down : List (Option Down)) (up : List (Option Up)) (cycle : ℕ) (sent : Option Up) (event : Option Event)
    → ups ≡ arriving k.units (link_first k.up) → now ≡ k.cycle → ((seat : Seat) → SeatStands k.seat seat → StepStands hub downs (hub_cycle k.hub seat now ups))
    → ((all : List IssueRecord) → IssuesStand k.issues all → IssuesStand hub.issues (all ++ hub_issues k.hub now ups))
    → ((seat : Seat) → SeatStands k.seat seat → hub.stored ≡ hub_stored k.hub seat now ups)
    → StreamSteps board slink next now (link_first k.down) sent event
    → units ≡ units_after k.units k.cycle downs → down ≡ link_moved k.down (get_or downs (link_place Slink) None) → up ≡ link_moved k.up sent → cycle ≡ suc k.cycle
    → ChipStands slink k s → ChipStands next (kept_of hub units down up cycle) (tick board s)
unfolding ChipStands tick
step_stands board slink next k s ups now hub downs units down up cycle sent event a b step issues stored stream d e f g h =
    let here : StepStands hub downs (hub_cycle s.hub s.seat s.cycle (arrivals s)) = rw (b, a, h.0, h.1, h.2.of_up, h.3) at step s.seat h.4 in
    let issued : IssuesStand hub.issues (s.issues ++ hub_issues s.hub s.cycle (arrivals s)) = rw (b, a, h.0, h.1, h.2.of_up, h.3) at issues s.issues h.5 in
    let granted : hub.stored ≡ hub_stored s.hub s.seat s.cycle (arrivals s) = rw (b, a, h.0, h.1, h.2.of_up, h.3) at stored s.seat h.4 in
    let there : next (stream_cycle board.part s.slink.unit s.cycle (link_first s.slink.down)).unit × (sent ≡ (stream_cycle board.part s.slink.unit s.cycle (link_first s.slink.down)).up)
    × (event ≡ (stream_cycle board.part s.slink.unit s.cycle (link_first s.slink.down)).event)
    = rw (b, h.2.of_down, h.3) at stream s.slink.unit h.2.of_unit in
    let joined : JoinedStands next down up (tick board s).slink
    = record { of_unit = there.0; of_down = rw (h.2.of_down, here.downs) at e; of_up = rw (h.2.of_up, there.1) at f } in
    (here.hub, rw (h.1, h.3, here.downs) at d, joined, g ∙ ap suc h.3, here.seat, issued, granted)

-- and its events are those of the cycle
pub step_told : (board : Board) (slink : StreamState → Type 0) (k : Kept) (s : ChipState) (now : ℕ) (event : Option Event) (told : List (Option Event))
    → now ≡ k.cycle → ((s : StreamState) → slink s → event ≡ (stream_cycle board.part s now (link_first k.down)).event) → told ≡ told_by_units k.units k.cycle event
    → ChipStands slink k s → (tick board s).events ≡ s.events ++ events_of told
unfolding ChipStands tick
step_told board slink k s now event told b stream a h =
    let there : event ≡ (stream_cycle board.part s.slink.unit s.cycle (link_first s.slink.down)).event = rw (b, h.2.of_down, h.3) at stream s.slink.unit h.2.of_unit in
    rw (a, h.1, h.3, there) refl

-- what they give at power-on makes a chip
pub start_stands : (slink : StreamState → Type 0) (v : Values) (boot : Boot) (image : List ℕ) (script : Script) (hub : HubKept) (units : Units)
    → (down : List (Option Down)) (up : List (Option Up)) (cycle : ℕ)
    → hub.hub ≡ hub_start v boot image → SeatStands hub.seat (seat_start v boot) → hub.issues ≡ [] → hub.stored ≡ None → units ≡ units_start v image script
    → slink stream_start → down ≡ empty_link (delay_of v (link_place Slink)) → up ≡ empty_link (delay_of v (link_place Slink)) → cycle ≡ 0
    → ChipStands slink (kept_of hub units down up cycle) (start v boot image script)
unfolding ChipStands start
start_stands slink v boot image script hub units down up cycle a b i o c d e f g =
    (a, c, record { of_unit = d; of_down = e; of_up = f }, g, b, i, o)
