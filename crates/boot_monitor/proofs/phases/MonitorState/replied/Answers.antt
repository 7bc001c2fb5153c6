use Rattle.std.proofs.Common.{sym, subst, Some}
use Rattle.boot_monitor.proofs.Replies.{stands-answered, stands-started}
use Rattle.boot_monitor.specs.Standing.{IsDue, Stands, given_by}
use Rattle.boot_monitor.proofs.phases.MonitorState.replied.Goals as goal

pub returns-in-Start-clause-stands : goal.returns-in-Start-clause-stands
returns-in-Start-clause-stands c = λ room ctrl given h.
    subst (λ r. Stands c.restarted.result room ctrl (Some (given_by given r))) (sym c.in-Start.is)
    (stands-started c.args.self c.restarted.result room ctrl given h c.restarted.ensures.goes c.restarted.ensures.is_in (subst (IsDue c.args.self) c.in-Start.is c.requires.due))

pub returns-in-Word-clause-stands : goal.returns-in-Word-clause-stands
returns-in-Word-clause-stands c = λ room ctrl given h.
    subst (λ r. Stands c.answered.result room ctrl (Some (given_by given r))) (sym c.in-Word.is)
    (stands-answered c.args.self c.answered.result room ctrl c.in-Word.word given h c.answered.ensures.goes c.answered.ensures.is_in (subst (IsDue c.args.self) c.in-Word.is c.requires.due))
