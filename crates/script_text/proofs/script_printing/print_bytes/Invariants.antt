use Rattle.std.proofs.Common.{◌≡◌, ◌++◌, take}
use Rattle.std.specs.List.{flat_map}
use Rattle.script_text.specs.ScriptText.{quoted_byte}
use Rattle.script_text.proofs.script_printing.print_bytes.Given as goal

abbrev pub invariant-loop-byte : goal.invariant-loop-byte
invariant-loop-byte l = l.out.items ≡ l.initial.out.items ++ flat_map quoted_byte (take l.byte-index l.bytes)
