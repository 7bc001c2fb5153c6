use Rattle.std.proofs.Common.{◌≡◌, ◌+◌, ◌*◌, ◌∙◌, ap, arith, sym}
use Rattle.chip_whole.proofs.Next.{next_is}
use Rattle.chip_whole.proofs.Runs.{after_sum, after_zero}
use Rattle.bench_demo.specs.Demo.{serial_count}
use Rattle.bench_demo.proofs.Serial.{count_more, serial_none}
use Rattle.bench_demo.proofs.run.run.Goals as goal

pub loop-init : goal.loop-init
loop-init g c = record { state = λ board s h. rw after_zero h; now = omega (arith, c.requires.first); count = λ board s h. sym (serial_none board s) }

pub loop-preserved : goal.loop-preserved
loop-preserved g c = record {
  state = λ board s h.
      let more : 4000 * (c.loop.counter + 1) ≡ 4000 * c.loop.counter + 4000 = omega arith in
      rw (more, after_sum board s (4000 * c.loop.counter) 4000) (c.in_ok-run.ensures.state board _ (c.loop.invariant.state board s h));
  now = let here = c.in_ok-run.ensures.now in omega (arith, here, c.loop.invariant.now);
  count = λ board s h.
      count_more board s c.loop.counter c.loop.count c.serial_count.result c.saturating_add-count.result
      (omega (arith, c.loop-test.true, c.ranges.stretches)) (c.loop.invariant.count board s h)
      (c.serial_count.ensures
      ∙ ap serial_count (c.events.ensures ∙ sym (next_is board _ 4000 _ (c.in_ok-run.ensures.events board _ (c.loop.invariant.state board s h)))))
      c.saturating_add-count.ensures;
}
