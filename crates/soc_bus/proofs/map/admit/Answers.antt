use Rattle.std.proofs.Common.{sym, ◌∙◌}
use Rattle.soc_bus.proofs.Agreement.{some_agrees}
use Rattle.soc_bus.proofs.map.admit.Goals as goal

pub returns-else-narrow-clause-agrees : goal.returns-else-narrow-clause-agrees
returns-else-narrow-clause-agrees c m imem dmem =
    some_agrees m c.args.r.now c.args.imem c.args.dmem c.in-Some.region c.requires.imem c.requires.dmem
    (rw c.bytes.ensures at c.if-r-bytes-ne0.false) (sym c.region_at.ensures ∙ c.in-Some.is) imem dmem
