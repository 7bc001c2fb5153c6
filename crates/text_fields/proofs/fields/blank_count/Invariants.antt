use Rattle.std.proofs.Common.{◌≡◌, ◌+◌, drop}
use Rattle.std.specs.List.{prefix_len}
use Rattle.text_fields.specs.Fields.{is_blank}
use Rattle.text_fields.proofs.fields.blank_count.Given as goal

abbrev pub invariant-loop-byte : goal.invariant-loop-byte
invariant-loop-byte l = record { count_is : l.count ≡ l.byte-index; rest : l.count + prefix_len is_blank (drop l.byte-index l.text) ≡ prefix_len is_blank l.text }
