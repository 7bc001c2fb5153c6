-- Searches for a stop.
use Rattle.std.proofs.Common.{◌≡◌, ℕ, zero, suc, ◌+◌, ◌-◌, ◌<◌, Bool, true, false, ◌&&◌, List, [], ◌∷◌, Option, Some, None, if◌then◌else◌, refl, ap, sym, ◌∙◌, arith, add-zero}
use Rattle.std.specs.List.{list_any}
use Rattle.chip_base.specs.declared.hart.HartView.{HartView}
use Rattle.chip_hub.specs.Views.{hart_view}
use Rattle.chip_whole.specs.Chip.{Board, ChipState, after}
use Rattle.bench_debug.specs.Running.{adds_stop}
use Rattle.bench_debug.specs.Session.{first_stop}
use Rattle.bench_debug.specs.Stops.{first_met, found_or, is_break_at, is_ready, search, stop_at_break, stop_at_watch, stop_in}
use Rattle.command_text.specs.declared.command.Command.{Command}
use Rattle.command_text.specs.declared.command.Command.TheVariants as command
use Rattle.bench_debug.specs.declared.stop.Stop.{Stop}
use Rattle.bench_debug.specs.declared.stop.Stop.TheVariants as stop

-- the stop of hart 0 goes first
pub stop_of_hart0 : (earlier : List Command) (s : ChipState) (why : Stop) → stop_at_break earlier 0 (hart_view s.hub 0) ≡ Some why
    → Some why ≡ stop_in earlier s
unfolding stop_in
stop_of_hart0 earlier s why h = rw h refl

-- then that of hart 1
pub stop_of_hart1 : (earlier : List Command) (s : ChipState) (why : Stop) → stop_at_break earlier 0 (hart_view s.hub 0) ≡ None
    → stop_at_break earlier 1 (hart_view s.hub 1) ≡ Some why → Some why ≡ stop_in earlier s
unfolding stop_in
stop_of_hart1 earlier s why none h = rw (none, h) refl

-- and then a watch
pub stop_of_watch : (earlier : List Command) (s : ChipState) → stop_at_break earlier 0 (hart_view s.hub 0) ≡ None
    → stop_at_break earlier 1 (hart_view s.hub 1) ≡ None → stop_at_watch earlier s.stored ≡ stop_in earlier s
unfolding stop_in
stop_of_watch earlier s none0 none1 = rw (none0, none1) refl

pub search_zero : (board : Board) (s : ChipState) (earlier : List Command) (n : ℕ) → search board s earlier n 0 ≡ record { cycles = n; stop = stop.Bound }
unfolding search
search_zero board s earlier n = refl

pub search_more : (board : Board) (s : ChipState) (earlier : List Command) (n left : ℕ)
    → search board s earlier n (suc left) ≡ found_or (n + 1) (stop_in earlier (after board s (n + 1))) (search board s earlier (n + 1) left)
unfolding search
search_more board s earlier n left = refl

-- a stop that holds after i cycles of a run, where none held before
pub found_here : (board : Board) (s : ChipState) (bound : ℕ) (earlier : List Command) (n i left : ℕ) (why : Stop) → left ≡ bound - (s.cycle + n) → i < left
    → first_stop board s bound earlier n ≡ first_stop board s bound earlier (n + i) → stop_in earlier (after board s (n + i + 1)) ≡ Some why
    → first_stop board s bound earlier n ≡ record { cycles = n + i + 1; stop = why }
found_here board s bound earlier n i left why e lt so_far h =
    let rest : bound - (s.cycle + (n + i)) ≡ suc (left - i - 1) = omega arith in
    so_far ∙ ap (search board s earlier (n + i)) rest ∙ search_more board s earlier (n + i) (left - i - 1)
    ∙ ap (λ o. found_or (n + i + 1) o (search board s earlier (n + i + 1) (left - i - 1))) h

-- no stop holds after i cycles either
pub found_later : (board : Board) (s : ChipState) (bound : ℕ) (earlier : List Command) (n i left : ℕ) → left ≡ bound - (s.cycle + n) → i < left
    → first_stop board s bound earlier n ≡ first_stop board s bound earlier (n + i) → stop_in earlier (after board s (n + i + 1)) ≡ None
    → first_stop board s bound earlier n ≡ first_stop board s bound earlier (n + (i + 1))
found_later board s bound earlier n i left e lt so_far h =
    let rest : bound - (s.cycle + (n + i)) ≡ suc (left - i - 1) = omega arith in
    let fewer : bound - (s.cycle + (n + (i + 1))) ≡ left - i - 1 = omega arith in
    let next : n + i + 1 ≡ n + (i + 1) = omega arith in
    so_far ∙ ap (search board s earlier (n + i)) rest ∙ search_more board s earlier (n + i) (left - i - 1)
    ∙ ap (λ o. found_or (n + i + 1) o (search board s earlier (n + i + 1) (left - i - 1))) h ∙ ap (λ k. search board s earlier k (left - i - 1)) next
    ∙ ap (search board s earlier (n + (i + 1))) (sym fewer)

-- no stop held up to the bound
pub found_none : (board : Board) (s : ChipState) (bound : ℕ) (earlier : List Command) (n i : ℕ) → i ≡ bound - (s.cycle + n)
    → first_stop board s bound earlier n ≡ first_stop board s bound earlier (n + i)
    → first_stop board s bound earlier n ≡ record { cycles = n + i; stop = stop.Bound }
found_none board s bound earlier n i e so_far =
    let rest : bound - (s.cycle + (n + i)) ≡ 0 = omega arith in
    so_far ∙ ap (search board s earlier (n + i)) rest ∙ search_zero board s earlier (n + i)

-- no command that adds a stop adds a break
no_break : (earlier : List Command) (hart pc : ℕ) → list_any adds_stop earlier ≡ false → list_any (is_break_at hart pc) earlier ≡ false
no_break [] hart pc h = refl
no_break (command.Break k at ∷ rest) hart pc h = absurd (cc)
no_break (command.Watch at ∷ rest) hart pc h = absurd (cc)
no_break (command.Step cycles ∷ rest) hart pc h = no_break rest hart pc h
no_break (command.Cont ∷ rest) hart pc h = no_break rest hart pc h
no_break (command.Regs k ∷ rest) hart pc h = no_break rest hart pc h
no_break (command.Csr k addr ∷ rest) hart pc h = no_break rest hart pc h
no_break (command.Mem at count ∷ rest) hart pc h = no_break rest hart pc h

no_watch : (earlier : List Command) (store : ℕ × ℕ) → list_any adds_stop earlier ≡ false → first_met earlier store ≡ None
unfolding first_met
no_watch [] store h = refl
no_watch (command.Break k at ∷ rest) store h = absurd (cc)
no_watch (command.Watch at ∷ rest) store h = absurd (cc)
no_watch (command.Step cycles ∷ rest) store h = no_watch rest store h
no_watch (command.Cont ∷ rest) store h = no_watch rest store h
no_watch (command.Regs k ∷ rest) store h = no_watch rest store h
no_watch (command.Csr k addr ∷ rest) store h = no_watch rest store h
no_watch (command.Mem at count ∷ rest) store h = no_watch rest store h

no_stop_at_break : (earlier : List Command) (hart : ℕ) (view : HartView) → list_any adds_stop earlier ≡ false → stop_at_break earlier hart view ≡ None
no_stop_at_break earlier hart view h = both (is_ready view.phase) (list_any (is_break_at hart view.pc) earlier) (stop.Break hart view.pc)
    (no_break earlier hart view.pc h)
  where
    both : (a b : Bool) (why : Stop) → b ≡ false → (if a && b then Some why else None) ≡ None
    both true false why e = refl
    both false b why e = refl
    both true true why e = absurd (cc)

no_stop_at_watch : (earlier : List Command) (stored : Option (ℕ × ℕ)) → list_any adds_stop earlier ≡ false → stop_at_watch earlier stored ≡ None
no_stop_at_watch earlier None h = refl
no_stop_at_watch earlier (Some store) h = rw (no_watch earlier store h) refl

-- without a break and a watch no stop holds
pub no_stop : (earlier : List Command) (s : ChipState) → list_any adds_stop earlier ≡ false → stop_in earlier s ≡ None
unfolding stop_in
no_stop earlier s h = rw (no_stop_at_break earlier 0 (hart_view s.hub 0) h, no_stop_at_break earlier 1 (hart_view s.hub 1) h)
    (no_stop_at_watch earlier s.stored h)

search_none : (board : Board) (s : ChipState) (earlier : List Command) (n left : ℕ) → list_any adds_stop earlier ≡ false
    → search board s earlier n left ≡ record { cycles = n + left; stop = stop.Bound }
search_none board s earlier n zero h = rw (add-zero n) (search_zero board s earlier n)
search_none board s earlier n (suc left) h =
    let more : n + 1 + left ≡ n + suc left = omega arith in
    search_more board s earlier n left ∙ ap (λ o. found_or (n + 1) o (search board s earlier (n + 1) left)) (no_stop earlier (after board s (n + 1)) h)
    ∙ search_none board s earlier (n + 1) left h ∙ ap (λ k. record { cycles = k; stop = stop.Bound }) more

-- without a break and a watch a run ends at the bound
pub found_bound : (board : Board) (s : ChipState) (bound : ℕ) (earlier : List Command) (n left : ℕ) → list_any adds_stop earlier ≡ false
    → left ≡ bound - (s.cycle + n) → first_stop board s bound earlier n ≡ record { cycles = n + left; stop = stop.Bound }
found_bound board s bound earlier n left h e = ap (search board s earlier n) (sym e) ∙ search_none board s earlier n left h
