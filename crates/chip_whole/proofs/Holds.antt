-- What holds in every state that the chip reaches.
use Rattle.std.proofs.Common.{◌≡◌, ◌≤◌, ◌<◌, ℕ, zero, suc, ◌+◌, List, [], ◌∷◌, ◌++◌, drop, length, map, Option, refl, subst, ap, sym, ◌∙◌, arith, append-nil}
use Rattle.std.specs.Prelude.{Bool, true, get_or, option_to_list}
use Rattle.std.specs.List.{list_all}
use Rattle.std.proofs.lemmas.Bool.Decides.{nat_tests}
use Rattle.std.proofs.lemmas.List.{map-append}
use Rattle.chip_base.specs.Messages.{at_data, at_either_data, credit_in, entry_in}
use Rattle.chip_base.specs.Ranges.{is_delay}
use Rattle.chip_base.specs.Settings.{Values, values_of}
use Rattle.chip_base.specs.declared.boot.Boot.{Boot}
use Rattle.chip_base.specs.declared.event.Event.{Event}
use Rattle.chip_base.specs.declared.message.Down.{Down}
use Rattle.chip_base.specs.declared.message.Up.{Up}
use Rattle.chip_base.specs.declared.script.Script.{Script}
use Rattle.chip_base.specs.declared.setup.Setup.{Setup}
use Rattle.board_units.specs.GpioCycle.{gpio_cycle}
use Rattle.board_units.specs.PwmCycle.{pwm_cycle}
use Rattle.board_units.specs.WatchdogCycle.{watchdog_cycle}
use Rattle.chip_hub.specs.Start.{hub_start}
use Rattle.chip_hub.proofs.Fronts.{gpio_hears, pwm_hears, serves_gpio, serves_pwm, serves_slink, serves_spi, serves_uart0, serves_uart1, serves_wdt, wdt_hears}
use Rattle.spi_flash.specs.SpiCycle.{SpiState, spi_cycle}
use Rattle.spi_flash.proofs.SpiCounts.{counts_queue, keeps_entries}
use Rattle.soc_words.specs.Link.{count_on, link_first}
use Rattle.stream_link.specs.Laws.{asked_by}
use Rattle.stream_link.specs.StreamCycle.{stream_cycle}
use Rattle.stream_link.specs.StreamState.{StreamState}
use Rattle.stream_link.proofs.Order.{counts_waiting, passes_in_order}
use Rattle.uart_lane.specs.Counts.{bytes_out}
use Rattle.uart_lane.specs.Cycle.{uart_cycle}
use Rattle.uart_lane.specs.State.{UartState}
use Rattle.uart_lane.proofs.Counts.{keeps_count}
use Rattle.uart_lane.proofs.Order.{keeps_order}
use Rattle.unit_fronts.specs.SerialRegisters.{SerialRegisters}
use Rattle.chip_whole.specs.Asked.{AsksOnce, events_at}
use Rattle.chip_whole.specs.Chip.{Board, ChipState, after, arrivals, arriving, delay_of, events_of, start, tick, told_by_units}
use Rattle.chip_whole.specs.Credits.{CreditsHold, HasSixteen, LosesNone, ServesUnit, SpiLosesNone, StreamLosesNone, UartLosesNone, queued_in, waiting_in, words_waiting}
use Rattle.chip_whole.specs.Joined.{Joined, event_of}
use Rattle.chip_whole.specs.Order.{AreOrderedEvents, AreOrderedIssues}
use Rattle.chip_whole.specs.Sent.{SendsInOrder, bytes_down, fates, sent_down, told_by}
use Rattle.chip_whole.proofs.Answers.{gpio_answers, pwm_answers, wdt_answers}
use Rattle.chip_whole.proofs.Issues.{issues_next}
use Rattle.chip_whole.proofs.Orders.{EndBefore, are_past}
use Rattle.chip_hub.proofs.Numbers.{AreNumbered, cycle_numbers, start_numbered}
use Rattle.chip_base.specs.declared.hart.IssueRecord.{IssueRecord}
use Rattle.chip_whole.proofs.Events.{AllTold, TellBefore, ToldAt, at_each, at_more, gpio_tells, pwm_tells, stream_tells, told_all, told_among, uart_tells, wdt_tells}
use Rattle.chip_whole.proofs.Joins.{awaits_after, awaits_start, serves_after, serves_start}
use Rattle.chip_whole.proofs.Runs.{cycle_after, kept_after}
use Rattle.chip_whole.proofs.Sent.{bytes_empty, sends_more, told_more, told_so_far}
use Rattle.chip_whole.proofs.Words.{all_wait, cycle_asks}

-- credits

credits_tick : (board : Board) (c : ChipState) → CreditsHold c → CreditsHold (tick board c)
unfolding tick
credits_tick board c h =
    let ups : List (Option Up) = arriving c.units (link_first c.slink.up) in
    record {
      uart0 = serves_after at_data waiting_in uart_cycle _ _ c.units.uart0 c.cycle _ _ (serves_uart0 c.hub c.seat c.cycle ups) (λ s. keeps_count s c.cycle) h.uart0;
      uart1 = serves_after at_data waiting_in uart_cycle _ _ c.units.uart1 c.cycle _ _ (serves_uart1 c.hub c.seat c.cycle ups) (λ s. keeps_count s c.cycle) h.uart1;
      spi = serves_after at_either_data queued_in spi_cycle _ _ c.units.spi c.cycle _ _ (serves_spi c.hub c.seat c.cycle ups) (λ s. counts_queue s c.cycle) h.spi;
      gpio = awaits_after gpio_cycle _ _ _ c.units.gpio c.cycle _ _ (gpio_hears c.hub.fronts.gpio _) (serves_gpio c.hub c.seat c.cycle ups) (λ s. gpio_answers s c.cycle) h.gpio;
      pwm = awaits_after pwm_cycle _ _ _ c.units.pwm c.cycle _ _ (pwm_hears c.hub.fronts.pwm _) (serves_pwm c.hub c.seat c.cycle ups) (λ s. pwm_answers s c.cycle) h.pwm;
      slink = serves_after at_either_data words_waiting (stream_cycle board.part) _ _ c.slink c.cycle _ _ (serves_slink c.hub c.seat c.cycle ups)
          (λ s. counts_waiting board.part s c.cycle) h.slink;
      wdt = awaits_after watchdog_cycle _ _ _ c.units.wdt c.cycle _ _ (wdt_hears c.hub.fronts.wdt _) (serves_wdt c.hub c.seat c.cycle ups) (λ s. wdt_answers s c.cycle) h.wdt;
    }

delay_at : (delays : List ℕ) (place : ℕ) → list_all is_delay delays ≡ true → suc place ≤ length delays → (1 ≤ get_or delays place 0) × (get_or delays place 0 ≤ 4096)
delay_at [] place d l = absurd (omega (arith, l))
delay_at (d ∷ rest) zero h l = (grind (arith, nat_tests), grind (arith, nat_tests))
delay_at (d ∷ rest) (suc place) h l = delay_at rest place (grind (arith)) (omega (arith, l))

-- the delays of the seven units are within their range
pub record DelaysFit (v : Values) : Type 0 where
  pub lanes : length v.delay ≡ 7
  pub each : list_all is_delay v.delay ≡ true

delay_fits : (v : Values) (place : ℕ) → DelaysFit v → place < 7 → (1 ≤ delay_of v place) × (delay_of v place ≤ 4096)
delay_fits v place d l = delay_at v.delay place d.each (omega (arith, d.lanes, l))

start_credits : (v : Values) (boot : Boot) (image : List ℕ) (script : Script) → DelaysFit v → CreditsHold (start v boot image script)
unfolding start hub_start
start_credits v boot image script d =
    let fits : (place : ℕ) → place < 7 → (1 ≤ delay_of v place) × (delay_of v place ≤ 4096) = λ place l. delay_fits v place d l in
    record {
      uart0 = serves_start at_data waiting_in _ _ (fits 0 (omega arith)).0 (fits 0 (omega arith)).1 refl;
      uart1 = serves_start at_data waiting_in _ _ (fits 1 (omega arith)).0 (fits 1 (omega arith)).1 refl;
      spi = serves_start at_either_data queued_in _ _ (fits 2 (omega arith)).0 (fits 2 (omega arith)).1 refl;
      gpio = awaits_start _ _ (fits 3 (omega arith)).0 (fits 3 (omega arith)).1;
      pwm = awaits_start _ _ (fits 4 (omega arith)).0 (fits 4 (omega arith)).1;
      slink = serves_start at_either_data words_waiting _ _ (fits 5 (omega arith)).0 (fits 5 (omega arith)).1 refl;
      wdt = awaits_start _ _ (fits 6 (omega arith)).0 (fits 6 (omega arith)).1;
    }

credits_after : (board : Board) (c : ChipState) (n : ℕ) → CreditsHold c → CreditsHold (after board c n)
credits_after board c n = kept_after board CreditsHold (credits_tick board) c n

-- a unit has room for the entry that comes
room_in : (takes : ℕ → Bool) (p : SerialRegisters) (downs : List (Option Down)) (entries : ℕ) (ups : List (Option Up)) → HasSixteen takes p downs entries ups
    → entries + entry_in takes (link_first downs) ≤ 16
room_in takes p [] entries ups h = let small : 0 + entries + count_on credit_in ups ≤ 16 = h.room in omega (arith, small)
room_in takes p (d ∷ downs) entries ups h =
    let small : entry_in takes d + count_on (entry_in takes) downs + entries + count_on credit_in ups ≤ 16 = h.room in
    omega (arith, small)

-- so none is lost
uart_loses_none : (p : SerialRegisters) (j : Joined UartState) (now : ℕ) → ServesUnit at_data p waiting_in j → UartLosesNone j.unit now (link_first j.down)
uart_loses_none p j now h r = (keeps_order j.unit now (link_first j.down)).bytes r (room_in at_data p j.down (length j.unit.fifo) j.up h.sixteen)

spi_loses_none : (p : SerialRegisters) (j : Joined SpiState) (now : ℕ) → ServesUnit at_either_data p queued_in j → SpiLosesNone j.unit now (link_first j.down)
spi_loses_none p j now h r = keeps_entries j.unit now (link_first j.down) r (room_in at_either_data p j.down (length j.unit.queue) j.up h.sixteen)

stream_loses_none : (board : Board) (p : SerialRegisters) (j : Joined StreamState) (now : ℕ) → ServesUnit at_either_data p words_waiting j
    → StreamLosesNone board j.unit now (link_first j.down)
stream_loses_none board p j now h r =
    (passes_in_order board.part j.unit now (link_first j.down)).order
    ∙ ap (drop (credit_in (stream_cycle board.part j.unit now (link_first j.down)).up))
    (all_wait j.unit.queue.waiting (link_first j.down) r (room_in at_either_data p j.down (length j.unit.queue.waiting) j.up h.sixteen))

none_lost : (board : Board) (c : ChipState) → CreditsHold c → LosesNone board c
none_lost board c h = record {
  uart0 = uart_loses_none c.hub.fronts.uart0 c.units.uart0 c.cycle h.uart0;
  uart1 = uart_loses_none c.hub.fronts.uart1 c.units.uart1 c.cycle h.uart1;
  spi = spi_loses_none c.hub.fronts.spi c.units.spi c.cycle h.spi;
  slink = stream_loses_none board c.hub.fronts.slink c.slink c.cycle h.slink;
}

-- events

-- each unit keeps its number
record NumbersStay (c : ChipState) : Type 0 where
  uart0 : c.units.uart0.unit.number ≡ 1
  uart1 : c.units.uart1.unit.number ≡ 2

uart_number : (j : Joined UartState) (now number : ℕ) → j.unit.number ≡ number → (uart_cycle j.unit now (link_first j.down)).unit.number ≡ number
uart_number j now number e = (uart_tells j.unit now (link_first j.down)).number ∙ e

uart_event : (j : Joined UartState) (now number : ℕ) → j.unit.number ≡ number → ToldAt number now (event_of uart_cycle j now)
uart_event j now number e = subst (λ unit. ToldAt unit now (event_of uart_cycle j now)) e (uart_tells j.unit now (link_first j.down)).event

numbers_tick : (board : Board) (c : ChipState) → NumbersStay c → NumbersStay (tick board c)
unfolding tick
numbers_tick board c h = record { uart0 = uart_number c.units.uart0 c.cycle 1 h.uart0; uart1 = uart_number c.units.uart1 c.cycle 2 h.uart1 }

numbers_after : (board : Board) (c : ChipState) (n : ℕ) → NumbersStay c → NumbersStay (after board c n)
numbers_after board c n = kept_after board NumbersStay (numbers_tick board) c n

start_numbers : (v : Values) (boot : Boot) (image : List ℕ) (script : Script) → NumbersStay (start v boot image script)
unfolding start
start_numbers v boot image script = record { uart0 = refl; uart1 = refl }

-- the numbers of the units that tell of events
abbrev built : List ℕ
built = 1 ∷ 2 ∷ 4 ∷ 5 ∷ 6 ∷ 7 ∷ []

-- what the stream link tells in the next cycle
abbrev stream_event : Board → ChipState → Option Event
stream_event board c = event_of (stream_cycle board.part) c.slink c.cycle

-- what the units tell in the next cycle
abbrev told_in : Board → ChipState → List (Option Event)
told_in board c = told_by_units c.units c.cycle (stream_event board c)

-- each unit tells of itself
units_tell : (board : Board) (c : ChipState) → NumbersStay c → AllTold c.cycle built (told_in board c)
units_tell board c n = (
  uart_event c.units.uart0 c.cycle 1 n.uart0,
  (
    uart_event c.units.uart1 c.cycle 2 n.uart1,
    (
      gpio_tells c.units.gpio.unit c.cycle _,
      (pwm_tells c.units.pwm.unit c.cycle _, (stream_tells board.part c.slink.unit c.cycle _, (wdt_tells c.units.wdt.unit c.cycle _, tt))),
    ),
  ),
)

-- the events of a cycle that are those of one unit
told_here : (board : Board) (c : ChipState) (unit : ℕ) → NumbersStay c → events_at unit (events_of (told_in board c)) ≡ told_among unit built (told_in board c)
told_here board c unit h = at_each unit c.cycle built (told_in board c) (units_tell board c h)

-- the units keep their numbers, and the events are in order
record EventsStand (c : ChipState) : Type 0 where
  numbers : NumbersStay c
  events : TellBefore c.cycle 0 c.events

events_tick : (board : Board) (c : ChipState) → EventsStand c → EventsStand (tick board c)
unfolding tick
events_tick board c h = record {
  numbers = numbers_tick board c h.numbers;
  events = told_all c.cycle 0 built (told_in board c) c.events (omega arith, (omega arith, (omega arith, (omega arith, (omega arith, (omega arith, tt))))))
      (units_tell board c h.numbers) h.events;
}

start_events : (v : Values) (boot : Boot) (image : List ℕ) (script : Script) → EventsStand (start v boot image script)
unfolding start
start_events v boot image script = record { numbers = start_numbers v boot image script; events = record { order = tt; before = tt } }

-- n cycles after power-on
time_of : (board : Board) (v : Values) (boot : Boot) (image : List ℕ) (script : Script) (n : ℕ) → (after board (start v boot image script) n).cycle ≡ n
unfolding start
time_of board v boot image script n = cycle_after board (start v boot image script) n ∙ omega arith

-- in every state that the chip reaches, its events are in order
pub events_ordered : (board : Board) (v : Values) (boot : Boot) (image : List ℕ) (script : Script) (n : ℕ) → AreOrderedEvents n (after board (start v boot image script) n).events
events_ordered board v boot image script n =
    let all : EventsStand (after board (start v boot image script) n) = kept_after board EventsStand (events_tick board) (start v boot image script) n (start_events v boot image script) in
    subst (λ cycle. AreOrderedEvents cycle (after board (start v boot image script) n).events) (time_of board v boot image script n) (are_past _ _ _ _ all.events)

-- issues

-- the harts keep their numbers, and the issues are in order
record IssuesOrdered (c : ChipState) : Type 0 where
  numbers : AreNumbered c.hub
  issues : EndBefore (λ (r : IssueRecord). r.cycle) (λ (r : IssueRecord). r.hart) c.cycle 0 c.issues

issues_tick : (board : Board) (c : ChipState) → IssuesOrdered c → IssuesOrdered (tick board c)
unfolding tick
issues_tick board c h = record {
  numbers = cycle_numbers c.hub c.seat c.cycle (arrivals c) h.numbers;
  issues = issues_next c.hub c.cycle (arrivals c) c.issues h.numbers h.issues;
}

start_issues : (v : Values) (boot : Boot) (image : List ℕ) (script : Script) → IssuesOrdered (start v boot image script)
unfolding start
start_issues v boot image script = record { numbers = start_numbered v boot image; issues = record { order = tt; before = tt } }

-- in every state that the chip reaches, its issues are in order
pub issues_ordered : (board : Board) (v : Values) (boot : Boot) (image : List ℕ) (script : Script) (n : ℕ) → AreOrderedIssues n (after board (start v boot image script) n).issues
issues_ordered board v boot image script n =
    let c : ChipState = start v boot image script in
    let all : IssuesOrdered (after board c n) = kept_after board IssuesOrdered (issues_tick board) c n (start_issues v boot image script) in
    subst (λ cycle. AreOrderedIssues cycle (after board c n).issues) (time_of board v boot image script n) (are_past _ _ _ _ all.issues)

-- bytes

told_by_uart0 : (board : Board) (c : ChipState) → NumbersStay c → told_by 1 (tick board c).events ≡ told_by 1 c.events ++ bytes_out (event_of uart_cycle c.units.uart0 c.cycle)
unfolding tick
told_by_uart0 board c h = told_more 1 c.events _ (event_of uart_cycle c.units.uart0 c.cycle) (told_here board c 1 h ∙ append-nil _)

told_by_uart1 : (board : Board) (c : ChipState) → NumbersStay c → told_by 2 (tick board c).events ≡ told_by 2 c.events ++ bytes_out (event_of uart_cycle c.units.uart1 c.cycle)
unfolding tick
told_by_uart1 board c h = told_more 2 c.events _ (event_of uart_cycle c.units.uart1 c.cycle) (told_here board c 2 h ∙ append-nil _)

sends_next : (board : Board) (c : ChipState) (n : ℕ) → CreditsHold (after board c n) → NumbersStay (after board c n) → SendsInOrder board c n → SendsInOrder board c (suc n)
unfolding after tick bytes_down fates
sends_next board c n credits numbers h =
    let s : ChipState = after board c n in
    let loses : LosesNone board s = none_lost board s credits in
    record {
      uart0 = record {
        all = sends_more _ _ s.units.uart0 s.cycle (sent_down s 0) credits.uart0.places.down.0 loses.uart0 h.uart0.all;
        told = told_so_far (told_by 1 c.events) _ _ (fates board c (λ units. units.uart0) n) s.units.uart0 s.cycle (told_by_uart0 board s numbers) h.uart0.told;
      };
      uart1 = record {
        all = sends_more _ _ s.units.uart1 s.cycle (sent_down s 1) credits.uart1.places.down.0 loses.uart1 h.uart1.all;
        told = told_so_far (told_by 2 c.events) _ _ (fates board c (λ units. units.uart1) n) s.units.uart1 s.cycle (told_by_uart1 board s numbers) h.uart1.told;
      };
    }

sends_after : (board : Board) (c : ChipState) (n : ℕ) → CreditsHold c → NumbersStay c → SendsInOrder board c 0 → SendsInOrder board c n
sends_after board c zero h m k = k
sends_after board c (suc n) h m k = sends_next board c n (credits_after board c n h) (numbers_after board c n m) (sends_after board c n h m k)

start_sends : (board : Board) (v : Values) (boot : Boot) (image : List ℕ) (script : Script) → SendsInOrder board (start v boot image script) 0
unfolding start after bytes_down fates
start_sends board v boot image script = record {
  uart0 = record { all = sym (bytes_empty (delay_of v 0)); told = refl };
  uart1 = record { all = sym (bytes_empty (delay_of v 1)); told = refl };
}

-- words

-- the units keep their numbers, and the part was called with what the stream link told
record CallsStand (c : ChipState) : Type 0 where
  numbers : NumbersStay c
  calls : AsksOnce c

-- the stream link's event comes behind its events before
stream_events : (board : Board) (c : ChipState) → NumbersStay c
    → events_at 6 (tick board c).events ≡ events_at 6 c.events ++ option_to_list (stream_event board c)
unfolding tick
stream_events board c h = at_more 6 c.events _ ∙ ap (λ later. events_at 6 c.events ++ later) (told_here board c 6 h ∙ append-nil _)

-- the part is called with the word that is told, and with no other
calls_more : (board : Board) (c : ChipState) → AsksOnce c
    → (tick board c).slink.unit.passed ≡ map asked_by (events_at 6 c.events ++ option_to_list (stream_event board c))
unfolding tick
calls_more board c h =
    cycle_asks board.part c.slink.unit c.cycle (link_first c.slink.down) ∙ ap (λ passed. passed ++ map asked_by (option_to_list (stream_event board c))) h
    ∙ sym (map-append asked_by (events_at 6 c.events) (option_to_list (stream_event board c)))

calls_tick : (board : Board) (c : ChipState) → CallsStand c → CallsStand (tick board c)
calls_tick board c h = record {
  numbers = numbers_tick board c h.numbers;
  calls = calls_more board c h.calls ∙ ap (map asked_by) (sym (stream_events board c h.numbers));
}

start_calls : (v : Values) (boot : Boot) (image : List ℕ) (script : Script) → CallsStand (start v boot image script)
unfolding start
start_calls v boot image script = record { numbers = start_numbers v boot image script; calls = refl }

-- in every state that the chip reaches, the part was called once with each word that the stream link told
pub asked_once : (board : Board) (v : Values) (boot : Boot) (image : List ℕ) (script : Script) (n : ℕ) → AsksOnce (after board (start v boot image script) n)
asked_once board v boot image script n =
    let c : ChipState = start v boot image script in
    let all : CallsStand (after board c n) = kept_after board CallsStand (calls_tick board) c n (start_calls v boot image script) in
    all.calls

-- for the settings of a chip

setup_fits : (s : Setup) → DelaysFit (values_of s)
setup_fits s = record { lanes = s.lanes; each = s.delays }

pub credits_of_setup : (board : Board) (s : Setup) (boot : Boot) (image : List ℕ) (script : Script) (n : ℕ) → CreditsHold (after board (start (values_of s) boot image script) n)
credits_of_setup board s boot image script n =
    credits_after board (start (values_of s) boot image script) n (start_credits (values_of s) boot image script (setup_fits s))

pub none_lost_of_setup : (board : Board) (s : Setup) (boot : Boot) (image : List ℕ) (script : Script) (n : ℕ) → LosesNone board (after board (start (values_of s) boot image script) n)
none_lost_of_setup board s boot image script n =
    none_lost board (after board (start (values_of s) boot image script) n) (credits_of_setup board s boot image script n)

-- as long as a chip runs, each UART sends what it was given, in order, but for what a Reset loses
pub sent_of_setup : (board : Board) (s : Setup) (boot : Boot) (image : List ℕ) (script : Script) (n : ℕ) → SendsInOrder board (start (values_of s) boot image script) n
sent_of_setup board s boot image script n =
    let v : Values = values_of s in
    sends_after board (start v boot image script) n (start_credits v boot image script (setup_fits s)) (start_numbers v boot image script) (start_sends board v boot image script)
