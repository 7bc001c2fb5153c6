-- A part is called with the words that are told.
use Rattle.std.proofs.Common.{◌≡◌, ℕ, zero, suc, ◌+◌, List, ◌++◌, map, Option, None, Some, sym, ap, ◌∙◌, append-nil, append_assoc}
use Rattle.std.specs.Prelude.{option_to_list}
use Rattle.std.proofs.lemmas.List.{map-append}
use Rattle.bench_parts.specs.Behave.{Behaviour}
use Rattle.chip_base.specs.Given.{Given}
use Rattle.chip_base.specs.Runs.{ran, unit_after, unit_step}
use Rattle.chip_base.specs.declared.event.Event.{Event}
use Rattle.chip_base.specs.declared.message.Down.{Down}
use Rattle.chip_base.specs.declared.message.Down.TheVariants.{Reset, Set}
use Rattle.stream_link.proofs.Order.{with_message}
use Rattle.stream_link.proofs.Works.{worked_works}
use Rattle.stream_link.specs.Laws.{AsksInOrder, asked_by}
use Rattle.stream_link.specs.StreamCycle.{stream_cycle}
use Rattle.stream_link.specs.StreamState.{StreamState}

abbrev Tells : StreamState → Given StreamState → Type 0
Tells s g = g.unit.passed ≡ s.passed ++ map asked_by (option_to_list g.event)

cycle_tells : (part : Option Behaviour) (s : StreamState) (now : ℕ) (down : Option Down) → Tells s (stream_cycle part s now down)
unfolding stream_cycle
cycle_tells part s now None = (worked_works part s now).tells
cycle_tells part s now (Some Reset) = sym (append-nil s.passed)
cycle_tells part s now (Some (Set reg word)) = (worked_works part (with_message s (Some (Set reg word))) now).tells

pub asks_in_order : (part : Option Behaviour) → AsksInOrder part
unfolding ran unit_after
asks_in_order part s start downs zero = sym (append-nil s.passed)
asks_in_order part s start downs (suc n) =
    let before : StreamState = (ran (unit_step (stream_cycle part)) s start downs n).state in
    let told : List Event = (ran (unit_step (stream_cycle part)) s start downs n).told in
    let g : Given StreamState = stream_cycle part before (start + n) (downs (start + n)) in
    let earlier : before.passed ≡ s.passed ++ map asked_by told = asks_in_order part s start downs n in
    cycle_tells part before (start + n) (downs (start + n))
    ∙ ap (λ xs. xs ++ map asked_by (option_to_list g.event)) earlier
    ∙ append_assoc s.passed (map asked_by told) (map asked_by (option_to_list g.event))
    ∙ ap (λ xs. s.passed ++ xs) (sym (map-append asked_by told (option_to_list g.event)))
