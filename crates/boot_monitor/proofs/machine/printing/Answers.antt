use Rattle.std.proofs.Common.{◌∙◌, sym, ap}
use Rattle.boot_monitor.proofs.Printing.{drop-end}
use Rattle.boot_monitor.specs.Actions.{print}
use Rattle.boot_monitor.specs.Phases.{after_text, text_of}
use Rattle.boot_monitor.proofs.machine.printing.Goals as goal

pub returns-in-None-clause-same : goal.returns-in-None-clause-same
returns-in-None-clause-same c = λ before ctrl room count size h.
    c.after.ensures.same before ctrl room count size h
    ∙ sym (ap (λ t. print t (after_text c.args.text)) (drop-end (text_of c.args.text) c.args.place (sym c.byte_at.ensures ∙ c.in-None.is)))
