use Rattle.std.proofs.Common.{◌≡◌, drop}
use Rattle.bench_debug.specs.Stops.{first_met}
use Rattle.bench_debug.proofs.stops.first_met.Given as goal

abbrev pub invariant-loop-command : goal.invariant-loop-command
invariant-loop-command l = first_met l.fn.earlier l.fn.store ≡ first_met (drop l.command-index l.fn.earlier) l.fn.store
