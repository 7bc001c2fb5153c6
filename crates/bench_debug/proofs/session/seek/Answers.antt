use Rattle.std.proofs.Common.{◌≡◌, ◌+◌, ◌-◌, ◌<◌, arith, sym, ap, ◌∙◌, subst}
use Rattle.chip_net.specs.contracts.chip.ChipStanding.TheImpl.{ghosts}
use Rattle.chip_whole.specs.Chip.{after}
use Rattle.chip_whole.proofs.Runs.{after_sum, cycle_after}
use Rattle.bench_debug.specs.Stops.{Found}
use Rattle.bench_debug.proofs.Searches.{found_here, found_later, found_none}
use Rattle.bench_debug.proofs.session.seek.Goals as goal

pub returns-in-Some-clause-state : goal.returns-in-Some-clause-state
returns-in-Some-clause-state g c board s n h =
    let i = c.loop.counter in
    let left : c.args.bound - c.now.result ≡ c.args.bound - (s.cycle + n)
    = ap (λ m. c.args.bound - m) (c.now.ensures.state board (after board s n) h ∙ cycle_after board s n) in
    let running : i < c.args.bound - c.now.result = omega (arith, c.loop-test.true, c.from.ensures) in
    let k = rw (← after_sum board s (n + i) 1) at (c.in_ok-run.ensures.state board (after board s (n + i)) (c.loop.invariant.state board s n h)) in
    let found = found_here board s c.args.bound c.args.earlier.now n i (c.args.bound - c.now.result) c.in-Some.stop left running
    (c.loop.invariant.first board s n h)
    (sym (c.stop_in.ensures board (after board s (n + i + 1)) k) ∙ c.in-Some.is) in
    subst (λ (f : Found). (ghosts (g.dyn-1.0, g.dyn-1.1, g.dyn-1.2)).stands board c.run.new.self (after board s f.cycles)) (sym found) k

pub returns-in-Some-clause-stop : goal.returns-in-Some-clause-stop
returns-in-Some-clause-stop g c board s n h =
    let i = c.loop.counter in
    let left : c.args.bound - c.now.result ≡ c.args.bound - (s.cycle + n)
    = ap (λ m. c.args.bound - m) (c.now.ensures.state board (after board s n) h ∙ cycle_after board s n) in
    let running : i < c.args.bound - c.now.result = omega (arith, c.loop-test.true, c.from.ensures) in
    let k = rw (← after_sum board s (n + i) 1) at (c.in_ok-run.ensures.state board (after board s (n + i)) (c.loop.invariant.state board s n h)) in
    ap (λ (f : Found). f.stop) (found_here board s c.args.bound c.args.earlier.now n i (c.args.bound - c.now.result) c.in-Some.stop left running
    (c.loop.invariant.first board s n h)
    (sym (c.stop_in.ensures board (after board s (n + i + 1)) k) ∙ c.in-Some.is))

pub loop-preserved : goal.loop-preserved
loop-preserved g c = record {
  state = λ board s n h.
      let more : n + (c.loop.counter + 1) ≡ n + c.loop.counter + 1 = omega arith in
      rw (more, after_sum board s (n + c.loop.counter) 1) (c.in_ok-run.ensures.state board (after board s (n + c.loop.counter))
      (c.loop.invariant.state board s n h));
  now = let here = c.in_ok-run.ensures.now in omega (arith, here, c.loop.invariant.now);
  first = λ board s n h.
      let i = c.loop.counter in
      let left : c.args.bound - c.now.result ≡ c.args.bound - (s.cycle + n)
      = ap (λ m. c.args.bound - m) (c.now.ensures.state board (after board s n) h ∙ cycle_after board s n) in
      let running : i < c.args.bound - c.now.result = omega (arith, c.loop-test.true, c.from.ensures) in
      let k = rw (← after_sum board s (n + i) 1) at (c.in_ok-run.ensures.state board (after board s (n + i)) (c.loop.invariant.state board s n h)) in
      found_later board s c.args.bound c.args.earlier.now n i (c.args.bound - c.now.result) left running (c.loop.invariant.first board s n h)
      (sym (c.stop_in.ensures board (after board s (n + i + 1)) k) ∙ c.in_default.is);
}

pub returns-clause-state : goal.returns-clause-state
returns-clause-state g c board s n h =
    let left : c.args.bound - c.now.result ≡ c.args.bound - (s.cycle + n)
    = ap (λ m. c.args.bound - m) (c.now.ensures.state board (after board s n) h ∙ cycle_after board s n) in
    let all : c.loop.counter ≡ c.args.bound - c.now.result = omega (arith, c.loop-test.false, c.loop.auto.counter-end) in
    subst (λ (f : Found). (ghosts (g.dyn-1.0, g.dyn-1.1, g.dyn-1.2)).stands board c.loop.chip (after board s f.cycles))
    (sym (found_none board s c.args.bound c.args.earlier.now n c.loop.counter (all
    ∙ left) (c.loop.invariant.first board s n h))) (c.loop.invariant.state board s n h)

pub returns-clause-stop : goal.returns-clause-stop
returns-clause-stop g c board s n h =
    let left : c.args.bound - c.now.result ≡ c.args.bound - (s.cycle + n)
    = ap (λ m. c.args.bound - m) (c.now.ensures.state board (after board s n) h ∙ cycle_after board s n) in
    let all : c.loop.counter ≡ c.args.bound - c.now.result = omega (arith, c.loop-test.false, c.loop.auto.counter-end) in
    ap (λ (f : Found). f.stop) (found_none board s c.args.bound c.args.earlier.now n c.loop.counter (all ∙ left) (c.loop.invariant.first board s n h))
