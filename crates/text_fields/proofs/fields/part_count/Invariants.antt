use Rattle.std.proofs.Common.{◌≡◌, ◌+◌, drop}
use Rattle.std.specs.List.{prefix_len}
use Rattle.text_fields.specs.Fields.{is_part}
use Rattle.text_fields.proofs.fields.part_count.Given as goal

abbrev pub invariant-loop-byte : goal.invariant-loop-byte
invariant-loop-byte l = record { count_is : l.count ≡ l.byte-index; rest : l.count + prefix_len is_part (drop l.byte-index l.text) ≡ prefix_len is_part l.text }
