use Rattle.std.proofs.Common.{◌≡◌, ◌+◌, drop}
use Rattle.std.specs.List.{prefix_len}
use Rattle.text_fields.specs.Lines.{is_inside}
use Rattle.text_fields.proofs.lines.line_length.Given as goal

abbrev pub invariant-loop-byte : goal.invariant-loop-byte
invariant-loop-byte l = record { count_is : l.count ≡ l.byte-index; rest : l.count + prefix_len is_inside (drop l.byte-index l.text) ≡ prefix_len is_inside l.text }
