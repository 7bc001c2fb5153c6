use Rattle.std.proofs.Common.{◌≡◌, ◌++◌, take}
use Rattle.chip_whole.specs.Chip.{events_of}
use Rattle.chip_net.proofs.chip.keep_all.Given as goal

abbrev pub invariant-loop-event : goal.invariant-loop-event
invariant-loop-event l = l.events.items ≡ l.fn.events.items ++ events_of (take l.event-index l.told)
