use Rattle.std.proofs.Common.{◌≡◌, ◌+◌, ◌-◌, ap, ◌∙◌, subst}
use Rattle.std.specs.Prelude.{min}
use Rattle.chip_net.specs.contracts.chip.ChipStanding.TheImpl.{ghosts}
use Rattle.chip_whole.specs.Chip.{after}
use Rattle.chip_whole.proofs.Runs.{after_sum, cycle_after}
use Rattle.bench_debug.specs.Session.{stepped_to}
use Rattle.bench_debug.proofs.Going.{on_ok}
use Rattle.bench_debug.proofs.session.put_step.Goals as goal

pub returns-in-Ok-clause-text : goal.returns-in-Ok-clause-text
returns-in-Ok-clause-text g c board s n h =
    let far : n + c.min.result ≡ stepped_to s c.args.bound n c.args.cycles
    = ap (λ m. n + m) (c.min.ensures ∙ ap (λ m. min c.args.cycles (c.args.bound - m)) (c.now.ensures.state board (after board s n) h
    ∙ cycle_after board s n)) in
    let k = rw (← after_sum board s n c.min.result) at (c.in-Ok.ensures.state board (after board s n) h) in
    let cycle : c.now-in-Ok.result ≡ s.cycle + stepped_to s c.args.bound n c.args.cycles
    = c.now-in-Ok.ensures.state board (after board s (n + c.min.result)) k ∙ cycle_after board s (n + c.min.result) ∙ ap (λ m. s.cycle + m) far in
    rw (c.at_line.ensures, cycle) at c.put_line.ensures

pub returns-in-Ok-clause-state : goal.returns-in-Ok-clause-state
returns-in-Ok-clause-state g c =
    on_ok c.put_line.result (λ board s n h.
    let far : n + c.min.result ≡ stepped_to s c.args.bound n c.args.cycles
    = ap (λ m. n + m) (c.min.ensures ∙ ap (λ m. min c.args.cycles (c.args.bound - m)) (c.now.ensures.state board (after board s n) h
    ∙ cycle_after board s n)) in
    subst (λ m. (ghosts (g.dyn-1.0, g.dyn-1.1, g.dyn-1.2)).stands board c.run_on.new.chip (after board s m)) far
    (rw (← after_sum board s n c.min.result) at (c.in-Ok.ensures.state board (after board s n) h)))
