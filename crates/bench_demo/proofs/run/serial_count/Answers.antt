use Rattle.std.proofs.Common.{arith, sym}
use Rattle.bench_demo.proofs.Serial.{serial_step, serial_zero}
use Rattle.bench_demo.proofs.run.serial_count.Goals as goal

pub loop-event-init : goal.loop-event-init
loop-event-init c = record { value = sym serial_zero; few = omega arith }

pub loop-event-preserved : goal.loop-event-preserved
loop-event-preserved c = record {
  value =
      serial_step c.args.events.now c.loop-event.event-index c.loop-event.count c.serial_byte-count.result _ c.loop-event-test.true
      c.loop-event.invariant.value c.serial_byte-count.ensures.value;
  few = omega (arith, c.loop-event.invariant.few, c.serial_byte-count.ensures.one);
}
