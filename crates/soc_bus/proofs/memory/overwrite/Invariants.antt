use Rattle.std.proofs.Common.{◌≡◌, ◌++◌, take, drop, length}
use Rattle.soc_bus.specs.Words.{bytes_of}
use Rattle.soc_bus.proofs.memory.overwrite.Given as goal

abbrev pub invariant-loop-byte : goal.invariant-loop-byte
invariant-loop-byte l =
    (l.at ≡ l.byte-index) × (length l.words ≡ length l.fn.words) × (bytes_of l.words ≡ take l.at l.bytes ++ drop l.at (bytes_of l.fn.words))
