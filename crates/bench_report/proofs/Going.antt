-- Events that are written while a chip goes on.
use Rattle.std.proofs.Common.{◌≡◌, ◌+◌, ℕ, List, ◌++◌, Option, Result, Ok, Err, ap, sym, ◌∙◌, subst}
use Rattle.std.specs.Result.{IsErrAnd, OnOk}
use Rattle.std.proofs.lemmas.Grind.{flat_map-append}
use Rattle.bench_shelf.specs.declared.sink.SinkFault.{SinkFault}
use Rattle.bench_shelf.specs.Sink.{Appending}
use Rattle.bench_shelf.proofs.Writing.{writes_exit, writes_then}
use Rattle.chip_whole.specs.Chip.{Board, ChipState, after}
use Rattle.chip_whole.specs.Next.{next_events}
use Rattle.chip_whole.proofs.Next.{next_sum}
use Rattle.chip_whole.proofs.Runs.{after_sum}
use Rattle.trace_text.specs.Lines.{event_text}
use Rattle.bench_report.specs.Report.{events_text}

text_more : (board : Board) (s : ChipState) (m n total : ℕ) → m + n ≡ total
    → events_text (next_events board s m) ++ events_text (next_events board (after board s m) n) ≡ events_text (next_events board s total)
text_more board s m n total sum =
    sym (flat_map-append event_text (next_events board s m) (next_events board (after board s m) n))
    ∙ ap events_text (sym (next_sum board s m n) ∙ ap (next_events board s) sum)

-- the events of more cycles were written
pub more_written : {a b c : Option (List ℕ)} {f g h : ℕ} {x : Unit {0}} (board : Board) (s : ChipState) (m n total : ℕ) (r : Result (Unit {0}) SinkFault) → m + n ≡ total
    → Appending a b f g (events_text (next_events board s m)) (Ok x) → Appending b c g h (events_text (next_events board (after board s m) n)) r
    → Appending a c f h (events_text (next_events board s total)) r
more_written {a = a} {c = c} {f = f} {h = h} board s m n total r sum p q =
    subst (λ t. Appending a c f h t r) (text_more board s m n total sum) (writes_then r p q)

-- more was to come
pub events_cut : {a c : Option (List ℕ)} {f h : ℕ} {e : SinkFault} (board : Board) (s : ChipState) (m rest total : ℕ) (r : Result (Unit {0}) SinkFault) → m + rest ≡ total
    → IsErrAnd r (λ d. d ≡ e) → Appending a c f h (events_text (next_events board s m)) (Err e) → Appending a c f h (events_text (next_events board s total)) r
events_cut {a = a} {c = c} {f = f} {h = h} board s m rest total r sum at p =
    subst (λ t. Appending a c f h t r) (text_more board s m rest total sum) (writes_exit (events_text (next_events board (after board s m) rest)) r at p)

-- a chip after m cycles that goes on for n more, where the run isn't cut
pub stands_on : {C : Type 0} (stands : Board → C → ChipState → Type 0) (first chip next : C) (m n total : ℕ) (r : Result (Unit {0}) SinkFault)
    → ((board : Board) (s : ChipState) → stands board first s → stands board chip (after board s m))
    → OnOk r ((board : Board) (s : ChipState) → stands board chip s → stands board next (after board s n)) → m + n ≡ total
    → OnOk r ((board : Board) (s : ChipState) → stands board first s → stands board next (after board s total))
stands_on stands first chip next m n total (Ok x) so_far step sum = λ board s h.
    subst (λ t. stands board next t) (sym (after_sum board s m n) ∙ ap (after board s) sum) (step board (after board s m) (so_far board s h))
stands_on stands first chip next m n total (Err e) so_far step sum = tt
