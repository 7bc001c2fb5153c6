-- A search finds the first stop.
use Rattle.std.proofs.Common.{◌≡◌, ℕ, zero, suc, ◌+◌, ◌-◌, ◌<◌, ◌≤◌, Bool, true, false, List, Option, Some, None, if◌then◌else◌, nat_lt, option_map, refl, arith}
use Rattle.std.proofs.lemmas.Bool.Decides.{nat_tests}
use Rattle.std.specs.Option.{option_or}
use Rattle.chip_base.specs.declared.hart.HartView.{HartView}
use Rattle.chip_hub.specs.Views.{hart_view}
use Rattle.chip_whole.specs.Chip.{Board, ChipState, after}
use Rattle.bench_debug.specs.FirstStop.{EndsBy, IsFirstStop}
use Rattle.bench_debug.specs.Session.{first_stop}
use Rattle.bench_debug.specs.Stops.{Found, first_met, found_or, is_at_break, search, stop_at_break, stop_at_watch, stop_in}
use Rattle.command_text.specs.declared.command.Command.{Command}
use Rattle.bench_debug.specs.declared.stop.Stop.{Stop}
use Rattle.bench_debug.specs.declared.stop.Stop.TheVariants as stop
use Rattle.bench_debug.proofs.Searches.{search_more, search_zero}

-- the bound is no stop that holds in a chip
not_bound : (earlier : List Command) (s : ChipState) → stop_in earlier s ≡ Some stop.Bound → ⊥
unfolding stop_in
not_bound earlier s h =
    either (stop_at_break earlier 0 (hart_view s.hub 0)) (option_or (stop_at_break earlier 1 (hart_view s.hub 1)) (stop_at_watch earlier s.stored))
    (of_hart 0 (hart_view s.hub 0))
    (either (stop_at_break earlier 1 (hart_view s.hub 1)) (stop_at_watch earlier s.stored) (of_hart 1 (hart_view s.hub 1)) (of_store s.stored)) h
  where
    either : (o p : Option Stop) → (o ≡ Some stop.Bound → ⊥) → (p ≡ Some stop.Bound → ⊥) → option_or o p ≡ Some stop.Bound → ⊥
    either (Some why) p no_first no_second e = no_first e
    either None p no_first no_second e = no_second e

    of_break : (b : Bool) (hart pc : ℕ) → (if b then Some (stop.Break hart pc) else None) ≡ Some stop.Bound → ⊥
    of_break true hart pc e = absurd (cc)
    of_break false hart pc e = absurd (cc)

    of_hart : (hart : ℕ) (view : HartView) → stop_at_break earlier hart view ≡ Some stop.Bound → ⊥
    of_hart hart view = of_break (is_at_break earlier hart view) hart view.pc

    of_watch : (o : Option ℕ) → option_map stop.Watch o ≡ Some stop.Bound → ⊥
    of_watch None e = absurd (cc)
    of_watch (Some at) e = absurd (cc)

    of_store : (stored : Option (ℕ × ℕ)) → stop_at_watch earlier stored ≡ Some stop.Bound → ⊥
    of_store None e = absurd (cc)
    of_store (Some store) e = of_watch (first_met earlier store) e

-- no stop holds at a count above n, if none does at the next one nor above that
from_next : (board : Board) (s : ChipState) (earlier : List Command) (n count : ℕ) → stop_in earlier (after board s (n + 1)) ≡ None
    → (n + 1 < count → stop_in earlier (after board s count) ≡ None) → n < count → stop_in earlier (after board s count) ≡ None
from_next board s earlier n count none later lt = at (nat_lt (n + 1) count) refl
  where
    at : (b : Bool) → nat_lt (n + 1) count ≡ b → stop_in earlier (after board s count) ≡ None
    at true e = later (grind (arith, nat_tests))
    at false e = let same : count ≡ n + 1 = grind (arith, nat_tests) in rw same none

-- a run that ends at a stop above the next count, where none holds at that
ends_later : (board : Board) (s : ChipState) (earlier : List Command) (n last at : ℕ) (why : Stop) → stop_in earlier (after board s (n + 1)) ≡ None
    → EndsBy board s earlier (n + 1) last at why → EndsBy board s earlier n last at why
ends_later board s earlier n last at stop.Bound none ends = (ends.0, from_next board s earlier n last none ends.1)
ends_later board s earlier n last at (stop.Break hart pc) none ends = (omega (arith, ends.0), ends.1)
ends_later board s earlier n last at (stop.Watch address) none ends = (omega (arith, ends.0), ends.1)

-- a run that ends at the next count
ends_here : (board : Board) (s : ChipState) (earlier : List Command) (n last : ℕ) (why : Stop) → stop_in earlier (after board s (n + 1)) ≡ Some why
    → EndsBy board s earlier n last (n + 1) why
ends_here board s earlier n last stop.Bound h = elim (not_bound earlier (after board s (n + 1)) h) [ ]
ends_here board s earlier n last (stop.Break hart pc) h = (omega arith, h)
ends_here board s earlier n last (stop.Watch address) h = (omega arith, h)

first_by : (board : Board) (s : ChipState) (earlier : List Command) (n last : ℕ) (later : Found) (o : Option Stop) → n + 1 ≤ last
    → stop_in earlier (after board s (n + 1)) ≡ o → IsFirstStop board s earlier (n + 1) last later
    → IsFirstStop board s earlier n last (found_or (n + 1) o later)
first_by board s earlier n last later None le h first = record {
  within = first.within;
  ends = ends_later board s earlier n last later.cycles later.stop h first.ends;
  none_between = λ count above below. from_next board s earlier n count h (λ more. first.none_between count more below) above;
}
first_by board s earlier n last later (Some why) le h first = record {
  within = le;
  ends = ends_here board s earlier n last why h;
  none_between = λ count above below. absurd (grind arith);
}

search_first : (board : Board) (s : ChipState) (earlier : List Command) (n left last : ℕ) → n + left ≡ last
    → IsFirstStop board s earlier n last (search board s earlier n left)
search_first board s earlier n zero last e =
    let same : last ≡ n = omega arith in
    rw (search_zero board s earlier n, same) (record {
      within = omega arith;
      ends = (refl, λ lt. absurd (grind arith));
      none_between = λ count above below. absurd (grind arith);
    })
search_first board s earlier n (suc left) last e =
    rw (search_more board s earlier n left)
    (first_by board s earlier n last (search board s earlier (n + 1) left) (stop_in earlier (after board s (n + 1))) (omega arith) refl
    (search_first board s earlier (n + 1) left last (omega arith)))

-- a run ends at the first stop above the count from which it goes on
pub first_is : (board : Board) (s : ChipState) (bound : ℕ) (earlier : List Command) (n : ℕ) → s.cycle + n ≤ bound
    → IsFirstStop board s earlier n (bound - s.cycle) (first_stop board s bound earlier n)
first_is board s bound earlier n le = search_first board s earlier n (bound - (s.cycle + n)) (bound - s.cycle) (omega arith)
