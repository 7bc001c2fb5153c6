use Rattle.std.proofs.Common.{sym, ◌∙◌}
use Rattle.bench_debug.proofs.Searches.{stop_of_hart0, stop_of_hart1, stop_of_watch}
use Rattle.bench_debug.proofs.stops.stop_in.Goals as goal

pub returns-in-Some : goal.returns-in-Some
returns-in-Some g c board s h =
    stop_of_hart0 c.args.earlier.now s c.in-Some.stop (rw (c.hart.ensures board s h) at (sym c.stop_at_break.ensures ∙ c.in-Some.is))

pub returns-in-Some-stop_at_break : goal.returns-in-Some-stop_at_break
returns-in-Some-stop_at_break g c board s h =
    stop_of_hart1 c.args.earlier.now s c.in-Some-stop_at_break.stop (rw (c.hart.ensures board s h) at (sym c.stop_at_break.ensures ∙ c.in_default.is))
    (rw (c.hart-2.ensures board s h) at (sym c.stop_at_break-2.ensures ∙ c.in-Some-stop_at_break.is))

pub returns : goal.returns
returns g c board s h =
    rw (c.stored.ensures board s h) at c.stop_at_watch.ensures
    ∙ stop_of_watch c.args.earlier.now s (rw (c.hart.ensures board s h) at (sym c.stop_at_break.ensures ∙ c.in_default.is))
    (rw (c.hart-2.ensures board s h) at (sym c.stop_at_break-2.ensures ∙ c.in_default-stop_at_break.is))
