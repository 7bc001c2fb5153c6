use Rattle.std.proofs.Common.{◌≡◌, ◌+◌, ◌*◌, ◌%◌, arith}
use Rattle.chip_net.specs.contracts.chip.ChipStanding.TheImpl.{ghosts}
use Rattle.chip_whole.proofs.Runs.{after_sum, after_zero}
use Rattle.bench_debug.proofs.Going.{stands_on}
use Rattle.bench_debug.proofs.session.run_on.Goals as goal

pub loop-init : goal.loop-init
loop-init g c = record { state = λ board s h. rw after_zero h; now = omega arith }

pub loop-preserved : goal.loop-preserved
loop-preserved g c = record {
  state = λ board s h.
      let more : 4096 * (c.loop.counter + 1) ≡ 4096 * c.loop.counter + 4096 = omega arith in
      rw (more, after_sum board s (4096 * c.loop.counter) 4096) (c.in_ok-run.ensures.state board _ (c.loop.invariant.state board s h));
  now = let here = c.in_ok-run.ensures.now in omega (arith, here, c.loop.invariant.now);
}

pub returns-clause-state : goal.returns-clause-state
returns-clause-state g c =
    let sum : 4096 * c.loop.counter + c.args.cycles % 4096 ≡ c.args.cycles = omega (arith, c.loop-test.false, c.loop.auto.counter-end) in
    stands_on (ghosts (g.dyn-1.0, g.dyn-1.1, g.dyn-1.2)).stands c.args.chip.now c.loop.chip c.run-2.new.self (4096 * c.loop.counter)
    (c.args.cycles % 4096) c.args.cycles c.run-2.result
    c.loop.invariant.state c.run-2.ensures.state sum
