use Rattle.std.proofs.Common.{◌∙◌, ap}
use Rattle.boot_monitor.proofs.Replies.{counted-in, taken}
use Rattle.boot_monitor.specs.declared.phases.Frame.TheVariants.{Act, Wait}
use Rattle.boot_monitor.specs.declared.phases.Phase.TheVariants.{Deselecting}
use Rattle.boot_monitor.proofs.phases.MonitorState.deselected.Goals as goal

pub returns-in-Wait-clause-is_in : goal.returns-in-Wait-clause-is_in
returns-in-Wait-clause-is_in c = λ s word h.
    let e = c.requires.deselecting ∙ ap (λ f. Deselecting f c.args.errand) c.in-Wait.is in
    taken c.args.self c.waited.result s word (Deselecting Wait c.args.errand) h e
    (c.waited.ensures.is_in s.mind.bytes (λ r. counted-in c.args.self s (Deselecting Wait c.args.errand) h e r))

pub returns-in-Act-clause-is_in : goal.returns-in-Act-clause-is_in
returns-in-Act-clause-is_in c = λ s word h.
    let e = c.requires.deselecting ∙ ap (λ f. Deselecting f c.args.errand) c.in-Act.is in
    taken c.args.self c.acted.result s word (Deselecting Act c.args.errand) h e
    (c.acted.ensures.is_in s.mind.bytes (λ r. counted-in c.args.self s (Deselecting Act c.args.errand) h e r))
