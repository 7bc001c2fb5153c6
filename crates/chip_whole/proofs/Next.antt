-- What happens in the cycles that come.
use Rattle.std.proofs.Common.{◌≡◌, ℕ, zero, suc, ◌+◌, List, [], ◌++◌, length, drop, sym, ap, ◌∙◌, append_assoc, append-nil}
use Rattle.std.proofs.Math.Seq.{drop-append_seam}
use Rattle.chip_base.specs.declared.event.Event.{Event}
use Rattle.stream_link.specs.StreamCycle.{stream_cycle}
use Rattle.chip_whole.specs.Chip.{Board, ChipState, after, events_of, tick, told_by_units}
use Rattle.chip_whole.specs.Joined.{event_of}
use Rattle.chip_whole.specs.Next.{next_events}
use Rattle.chip_whole.proofs.Runs.{after_sum}

-- no event is lost
goes_on : (board : Board) (s : ChipState) (n : ℕ) → (told : List Event) × ((after board s n).events ≡ s.events ++ told)
unfolding after tick
goes_on board s zero = ([], sym (append-nil s.events))
goes_on board s (suc n) =
    let so_far = goes_on board s n in
    let c = after board s n in
    let here : List Event = events_of (told_by_units c.units c.cycle (event_of (stream_cycle board.part) c.slink c.cycle)) in
    (so_far.0 ++ here, ap (λ e. e ++ here) so_far.1 ∙ append_assoc s.events so_far.0 here)

-- what stands behind the events before
pub next_is : (board : Board) (s : ChipState) (n : ℕ) (told : List Event) → (after board s n).events ≡ s.events ++ told → next_events board s n ≡ told
unfolding next_events
next_is board s n told e = ap (drop (length s.events)) e ∙ drop-append_seam s.events told

pub events_next : (board : Board) (s : ChipState) (n : ℕ) → (after board s n).events ≡ s.events ++ next_events board s n
events_next board s n =
    let whole = goes_on board s n in
    whole.1 ∙ ap (λ e. s.events ++ e) (sym (next_is board s n whole.0 whole.1))

pub next_zero : (board : Board) (s : ChipState) → next_events board s 0 ≡ []
unfolding after
next_zero board s = next_is board s 0 [] (sym (append-nil s.events))

-- of m cycles and then of n
pub next_sum : (board : Board) (s : ChipState) (m n : ℕ) → next_events board s (m + n) ≡ next_events board s m ++ next_events board (after board s m) n
next_sum board s m n =
    next_is board s (m + n) (next_events board s m ++ next_events board (after board s m) n)
    (ap (λ (t : ChipState). t.events) (after_sum board s m n) ∙ events_next board (after board s m) n ∙ ap (λ e. e ++ next_events board (after board s m) n) (events_next board s m)
    ∙ append_assoc s.events (next_events board s m) (next_events board (after board s m) n))

-- all events, where none came before
pub next_all : (board : Board) (s : ChipState) (n : ℕ) → s.events ≡ [] → next_events board s n ≡ (after board s n).events
next_all board s n none = sym (events_next board s n ∙ ap (λ e. e ++ next_events board s n) none)
