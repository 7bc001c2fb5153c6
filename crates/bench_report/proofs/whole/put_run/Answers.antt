use Rattle.std.proofs.Common.{◌≡◌, ◌+◌, ◌-◌, ◌*◌, ◌%◌, arith, refl}
use Rattle.bench_shelf.proofs.Writing.{writes_begin}
use Rattle.chip_whole.proofs.Next.{next_zero}
use Rattle.chip_whole.proofs.Runs.{after_sum, after_zero}
use Rattle.chip_net.specs.contracts.chip.ChipStanding.TheImpl.{ghosts}
use Rattle.bench_report.proofs.Going.{events_cut, more_written, stands_on}
use Rattle.bench_report.proofs.whole.put_run.Goals as goal

pub loop-init : goal.loop-init
loop-init g c = record { state = λ board s h. rw after_zero h; now = omega (arith, c.requires.first); writes = λ board s h. rw next_zero (writes_begin _ _ _) }

pub put_stretch-requires-clause-time : goal.put_stretch-requires-clause-time
put_stretch-requires-clause-time g c = omega (arith, c.loop.invariant.now, c.loop-test.true, c.ranges.cycles)

pub put_stretch-requires-2-clause-time : goal.put_stretch-requires-2-clause-time
put_stretch-requires-2-clause-time g c = omega (arith, c.loop.invariant.now, c.loop.auto.counter-end, c.ranges.cycles)

pub loop-preserved : goal.loop-preserved
loop-preserved g c = record {
  state = λ board s h.
      let more : 4096 * (c.loop.counter + 1) ≡ 4096 * c.loop.counter + 4096 = omega arith in
      rw (more, after_sum board s (4096 * c.loop.counter) 4096) (c.in_ok-put_stretch.ensures.state board _ (c.loop.invariant.state board s h));
  now = let here = c.in_ok-put_stretch.ensures.now in omega (arith, here, c.loop.invariant.now);
  writes = λ board s h.
      more_written board s (4096 * c.loop.counter) 4096 _ _ (omega arith) (c.loop.invariant.writes board s h) (c.in_ok-put_stretch.ensures.writes board _ (c.loop.invariant.state board s h));
}

pub returns-in_err-put_stretch-clause-writes : goal.returns-in_err-put_stretch-clause-writes
returns-in_err-put_stretch-clause-writes g c board s h =
    events_cut board s (4096 * c.loop.counter + 4096) (c.args.cycles - (4096 * c.loop.counter + 4096)) c.args.cycles c.from_residual.result
    (omega (arith, c.loop-test.true)) c.from_residual.ensures.1
    (more_written board s (4096 * c.loop.counter) 4096 (4096 * c.loop.counter + 4096) _ refl (c.loop.invariant.writes board s h)
    (c.in_err-put_stretch.ensures.writes board _ (c.loop.invariant.state board s h)))

pub returns-clause-writes : goal.returns-clause-writes
returns-clause-writes g c board s h =
    let sum : 4096 * c.loop.counter + c.args.cycles % 4096 ≡ c.args.cycles = omega (arith, c.loop-test.false, c.loop.auto.counter-end) in
    more_written board s (4096 * c.loop.counter) (c.args.cycles % 4096) c.args.cycles _ sum (c.loop.invariant.writes board s h)
    (c.put_stretch-2.ensures.writes board _ (c.loop.invariant.state board s h))

pub returns-clause-state : goal.returns-clause-state
returns-clause-state g c =
    let sum : 4096 * c.loop.counter + c.args.cycles % 4096 ≡ c.args.cycles = omega (arith, c.loop-test.false, c.loop.auto.counter-end) in
    stands_on (ghosts (g.dyn-1.0, g.dyn-1.1, g.dyn-1.2)).stands c.args.chip.now c.loop.chip c.put_stretch-2.new.chip (4096 * c.loop.counter) (c.args.cycles % 4096) c.args.cycles c.put_stretch-2.result
    c.loop.invariant.state c.put_stretch-2.ensures.state sum
