use Rattle.std.proofs.Common.{refl, sym, arith, subst}
use Rattle.boot_monitor.proofs.Replies.{moves, stays}
use Rattle.boot_monitor.proofs.Rest.{if-false, if-true, zero-is, zero-not}
use Rattle.boot_monitor.specs.Actions.{wait}
use Rattle.boot_monitor.specs.Errands.{errand_of}
use Rattle.boot_monitor.specs.Phases.{IsIn}
use Rattle.boot_monitor.specs.declared.phases.Frame.TheVariants.{Wait}
use Rattle.boot_monitor.specs.declared.phases.Phase.TheVariants.{Selecting}
use Rattle.boot_monitor.proofs.phases.MonitorState.waited.Goals as goal

pub returns-then-self-eq0-clause-goes : goal.returns-then-self-eq0-clause-goes
returns-then-self-eq0-clause-goes c =
    moves c.args.self c.at.result c.entering.result c.at.ensures c.requires.sound c.entering.ensures.started c.entering.ensures.ready
    (c.entering.ensures.counted c.args.self.room c.args.self.tally.count c.args.self.tally.size c.requires.about)

pub returns-then-self-eq0-clause-is_in : goal.returns-then-self-eq0-clause-is_in
returns-then-self-eq0-clause-is_in c = λ bytes h.
    subst (IsIn c.at.result) (sym (if-true _ _ _ (zero-is _ c.if-self-eq0.true)))
    (stays c.args.self c.at.result c.entering.result c.at.ensures (errand_of c.args.errand c.args.self.tally.size) bytes
    (c.entering.ensures.same c.args.self.ctrl c.args.self.tally.count c.args.self.tally.size) (λ u. h (c.entering.ensures.coming u)))

pub returns-else-self-eq0-clause-goes : goal.returns-else-self-eq0-clause-goes
returns-else-self-eq0-clause-goes c =
    moves c.args.self c.at-else-self-eq0.result (Selecting Wait c.args.errand) c.at-else-self-eq0.ensures c.requires.sound tt (omega arith) c.requires.about

pub returns-else-self-eq0-clause-is_in : goal.returns-else-self-eq0-clause-is_in
returns-else-self-eq0-clause-is_in c = λ bytes h.
    subst (IsIn c.at-else-self-eq0.result) (sym (if-false _ _ _ (zero-not _ c.if-self-eq0.false)))
    (stays c.args.self c.at-else-self-eq0.result (Selecting Wait c.args.errand) c.at-else-self-eq0.ensures (wait (errand_of c.args.errand c.args.self.tally.size)) bytes refl h)
