use Rattle.std.proofs.Common.{◌∙◌, sym}
use Rattle.boot_monitor.proofs.Leads.{lead-ends, lead-goes}
use Rattle.boot_monitor.proofs.errands.leading.Goals as goal

pub returns-in-Some-clause-same : goal.returns-in-Some-clause-same
returns-in-Some-clause-same c = λ ctrl room count size h.
    lead-goes c.args.frame c.args.errand c.args.place c.in-Some.field-0 ctrl count size (sym c.lead_at.ensures ∙ c.in-Some.is)

pub returns-in-None-clause-same : goal.returns-in-None-clause-same
returns-in-None-clause-same c = λ ctrl room count size h.
    c.led.ensures.same ctrl room count size h ∙ lead-ends c.args.frame c.args.errand c.args.place size (sym c.lead_at.ensures ∙ c.in-None.is)
