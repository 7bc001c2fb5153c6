use Rattle.std.proofs.Common.{◌≡◌, ◌+◌, ◌-◌, sym, ap, ◌∙◌, subst}
use Rattle.chip_net.specs.contracts.chip.ChipStanding.TheImpl.{ghosts}
use Rattle.chip_whole.specs.Chip.{after}
use Rattle.chip_whole.proofs.Runs.{after_sum, cycle_after}
use Rattle.bench_debug.specs.Stops.{Found}
use Rattle.bench_debug.proofs.Searches.{found_bound}
use Rattle.bench_debug.proofs.session.run_to_stop.Goals as goal

pub returns-clause-state : goal.returns-clause-state
returns-clause-state g c board s n h =
    let left : c.args.bound - c.now.result ≡ c.args.bound - (s.cycle + n)
    = ap (λ m. c.args.bound - m) (c.now.ensures.state board (after board s n) h ∙ cycle_after board s n) in
    let k = rw (← after_sum board s n (c.args.bound - c.now.result)) at (c.in_ok-run_on.ensures.state board (after board s n) h) in
    subst (λ (f : Found). (ghosts (g.dyn-1.0, g.dyn-1.1, g.dyn-1.2)).stands board c.run_on.new.chip (after board s f.cycles))
    (sym (found_bound board s c.args.bound c.args.earlier.now n (c.args.bound - c.now.result) (sym c.has_stop.ensures ∙ c.if-has_stop.false) left)) k

pub returns-clause-stop : goal.returns-clause-stop
returns-clause-stop g c board s n h =
    let left : c.args.bound - c.now.result ≡ c.args.bound - (s.cycle + n)
    = ap (λ m. c.args.bound - m) (c.now.ensures.state board (after board s n) h ∙ cycle_after board s n) in
    ap (λ (f : Found). f.stop) (found_bound board s c.args.bound c.args.earlier.now n (c.args.bound - c.now.result) (sym c.has_stop.ensures
    ∙ c.if-has_stop.false) left)
