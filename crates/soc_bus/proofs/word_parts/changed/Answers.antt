use Rattle.std.proofs.Common.{rules, arith, ◌≡◌, ◌+◌, length, ◌-◌}
use Rattle.soc_bus.proofs.Bytes.{changed_bytes}
use Rattle.soc_bus.proofs.word_parts.changed.Goals as goal

pub returns : goal.returns
returns c = changed_bytes c.args.word c.args.low c.from_le_bytes.result c.args.bytes.now (c.requires) (λ i. let f = c.type_inv.bytes i in search rules)
    (let count : c.args.low + length c.args.bytes.now - c.args.low ≡ length c.args.bytes.now = omega arith in
    rw (count, c.to_le_bytes-all.ensures, c.copy_from_slice.ensures.after) at c.from_le_bytes.ensures)
