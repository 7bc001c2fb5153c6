use Rattle.std.proofs.Common.{◌≡◌, ◌≤◌, take}
use Rattle.bench_demo.specs.Demo.{serial_count}
use Rattle.bench_demo.proofs.run.serial_count.Given as goal

abbrev pub invariant-loop-event : goal.invariant-loop-event
invariant-loop-event l = record { value : l.count ≡ serial_count (take l.event-index l.events); few : l.count ≤ l.event-index }
