-- The bytes that UART0 sends in a run.
use Rattle.std.proofs.Common.{◌≡◌, ◌<◌, ◌≤◌, ℕ, zero, suc, ◌+◌, ◌-◌, ◌*◌, ◌^◌, min, Bool, true, false, List, [], ◌∷◌, ◌++◌, length, take, get_or, Option, None, Some, refl, ap, sym, ◌∙◌, arith}
use Rattle.std.specs.Prelude.{◌==◌, if◌then◌else◌, option_to_list}
use Rattle.std.proofs.lemmas.List.{length-append, take_more}
use Rattle.chip_base.specs.declared.event.Event.{Event}
use Rattle.chip_whole.specs.Asked.{events_at}
use Rattle.chip_whole.specs.Chip.{Board, ChipState, after, events_of, tick, told_by_units}
use Rattle.chip_whole.specs.Joined.{event_of}
use Rattle.chip_whole.specs.Next.{next_events}
use Rattle.chip_whole.proofs.Events.{at_more}
use Rattle.chip_whole.proofs.Next.{next_is, next_sum, next_zero}
use Rattle.stream_link.specs.StreamCycle.{stream_cycle}
use Rattle.bench_demo.specs.Demo.{serial_count}

min_first : (a b : ℕ) → a ≤ b → min a b ≡ a
min_first a b le = grind arith

pub serial_more : (a b : List Event) → serial_count (a ++ b) ≡ serial_count a + serial_count b
unfolding serial_count
serial_more a b = ap length (at_more 1 a b) ∙ length-append (events_at 1 a) (events_at 1 b)

-- one more event was counted
pub serial_step : (events : List Event) (i count more : ℕ) (d : Event) → i < length events → count ≡ serial_count (take i events)
    → more ≡ serial_count (get_or events i d ∷ []) → count + more ≡ serial_count (take (i + 1) events)
serial_step events i count more d lt so_far here =
    rw (so_far, here) (sym (serial_more (take i events) (get_or events i d ∷ [])) ∙ ap serial_count (sym (take_more events i d lt)))

one_at_most : (test : Bool) (e : Event) → length (if test then e ∷ [] else []) ≤ 1
one_at_most true e = omega arith
one_at_most false e = omega arith

at_few : (unit : ℕ) (events : List Event) → length (events_at unit events) ≤ length events
at_few unit [] = omega arith
at_few unit (e ∷ rest) =
    omega (arith, length-append (if e.unit == unit then e ∷ [] else []) (events_at unit rest), one_at_most (e.unit == unit) e, at_few unit rest)

option_few : (e : Option Event) → length (option_to_list e) ≤ 1
option_few None = omega arith
option_few (Some e) = omega arith

events_few : (told : List (Option Event)) → length (events_of told) ≤ length told
events_few [] = omega arith
events_few (e ∷ rest) = omega (arith, length-append (option_to_list e) (events_of rest), option_few e, events_few rest)

serial_few : (events : List Event) → serial_count events ≤ length events
unfolding serial_count
serial_few events = at_few 1 events

-- in one cycle
next_few : (board : Board) (c : ChipState) → serial_count (next_events board c 1) ≤ 6
unfolding after tick
next_few board c =
    let told : List (Option Event) = told_by_units c.units c.cycle (event_of (stream_cycle board.part) c.slink c.cycle) in
    let same : next_events board c 1 ≡ events_of told = next_is board c 1 (events_of told) refl in
    rw same (omega (arith, serial_few (events_of told), events_few told))

-- the bytes of m cycles and of the next n
pub serial_on : (board : Board) (s : ChipState) (m n : ℕ)
    → serial_count (next_events board s (m + n)) ≡ serial_count (next_events board s m) + serial_count (next_events board (after board s m) n)
serial_on board s m n = ap serial_count (next_sum board s m n) ∙ serial_more (next_events board s m) (next_events board (after board s m) n)

pub serial_none : (board : Board) (s : ChipState) → serial_count (next_events board s 0) ≡ 0
unfolding serial_count
serial_none board s = rw (next_zero board s) refl

-- a cycle has six events at most
pub serial_below : (board : Board) (s : ChipState) (n : ℕ) → serial_count (next_events board s n) ≤ 6 * n
serial_below board s zero = omega (arith, serial_none board s)
serial_below board s (suc n) =
    let more : suc n ≡ n + 1 = omega arith in
    rw more (omega (arith, serial_on board s n 1, serial_below board s n, next_few board (after board s n)))

pub serial_zero : serial_count [] ≡ 0
unfolding serial_count
serial_zero = refl

-- the bytes of one more stretch were counted
pub count_more : (board : Board) (s : ChipState) (stretches count more sum : ℕ) → stretches < 2 ^ 32
    → count ≡ serial_count (next_events board s (4000 * stretches)) → more ≡ serial_count (next_events board (after board s (4000 * stretches)) 4000)
    → sum ≡ min (count + more) (2 ^ 64 - 1) → sum ≡ serial_count (next_events board s (4000 * (stretches + 1)))
count_more board s stretches count more sum few so_far here is_sum =
    let whole : 4000 * (stretches + 1) ≡ 4000 * stretches + 4000 = omega arith in
    let all = serial_on board s (4000 * stretches) 4000 in
    let below = serial_below board s (4000 * stretches + 4000) in
    rw whole (is_sum ∙ (min_first (count + more) (2 ^ 64 - 1) (omega (arith, so_far, here, all, below, few)) ∙ omega (arith, so_far, here, all)))
