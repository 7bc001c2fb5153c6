use Rattle.std.proofs.Common.{◌∙◌, sym, ap, subst}
use Rattle.boot_monitor.proofs.Leads.{lead-begins}
use Rattle.boot_monitor.proofs.Rest.{if-false, if-true}
use Rattle.boot_monitor.specs.Actions.{answered}
use Rattle.boot_monitor.specs.Phases.{IsReady, todo_in}
use Rattle.boot_monitor.proofs.machine.next_in_talk.Goals as goal

pub returns-in-Enabling-clause-same : goal.returns-in-Enabling-clause-same
returns-in-Enabling-clause-same c = λ room ctrl count size mind. ap (λ p. answered room ctrl (todo_in p ctrl count size) mind c.args.word) c.in-Enabling.is

pub returns-in-Selecting-clause-same : goal.returns-in-Selecting-clause-same
returns-in-Selecting-clause-same c = λ room ctrl count size mind.
    ap (λ p. answered room ctrl (todo_in p ctrl count size) mind c.args.word) c.in-Selecting.is
    ∙ lead-begins c.in-Selecting.frame c.in-Selecting.errand room ctrl count size mind (subst IsReady c.in-Selecting.is c.requires.ready)

pub returns-in-Transferring-clause-same : goal.returns-in-Transferring-clause-same
returns-in-Transferring-clause-same c = λ room ctrl count size mind. ap (λ p. answered room ctrl (todo_in p ctrl count size) mind c.args.word) c.in-Transferring.is

pub returns-in-Fetching-clause-same : goal.returns-in-Fetching-clause-same
returns-in-Fetching-clause-same c = λ room ctrl count size mind. ap (λ p. answered room ctrl (todo_in p ctrl count size) mind c.args.word) c.in-Fetching.is

pub returns-then-meets-clause-same : goal.returns-then-meets-clause-same
returns-then-meets-clause-same c = λ room ctrl count size mind.
    ap (λ p. answered room ctrl (todo_in p ctrl count size) mind c.args.word) c.in-AwaitingAnswer.is ∙ if-true _ _ _ (sym c.meets.ensures ∙ c.if-meets.true)

pub returns-else-meets-clause-same : goal.returns-else-meets-clause-same
returns-else-meets-clause-same c = λ room ctrl count size mind.
    ap (λ p. answered room ctrl (todo_in p ctrl count size) mind c.args.word) c.in-AwaitingAnswer.is ∙ if-false _ _ _ (sym c.meets.ensures ∙ c.if-meets.false)
