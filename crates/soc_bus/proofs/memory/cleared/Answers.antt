use Rattle.std.proofs.Common.{rules, ◌≡◌, replicate}
use Rattle.soc_bus.proofs.Bytes.{zero_bytes_of}
use Rattle.soc_bus.proofs.memory.cleared.Goals as goal

pub returns-clause-items : goal.returns-clause-items
returns-clause-items c =
    let items : c.resize.new.self.items ≡ replicate c.args.count 0 = search rules in
    rw items (zero_bytes_of c.args.count)
