use Rattle.std.proofs.Common.{◌∙◌, refl, sym, arith, subst}
use Rattle.std.specs.Prelude.{codes}
use Rattle.boot_monitor.proofs.Blocks.{burning-is}
use Rattle.boot_monitor.proofs.Replies.{moves, stays}
use Rattle.boot_monitor.proofs.Rest.{if-false, if-true, zero-is, zero-not}
use Rattle.boot_monitor.specs.Actions.{answer, burning}
use Rattle.boot_monitor.specs.Phases.{IsIn}
use Rattle.boot_monitor.specs.declared.phases.Phase.TheVariants.{AwaitingRoom}
use Rattle.boot_monitor.specs.declared.phases.Text.TheVariants.{BadFlash}
use Rattle.boot_monitor.proofs.phases.MonitorState.tested.Goals as goal

pub returns-then-self-eq0-clause-goes : goal.returns-then-self-eq0-clause-goes
returns-then-self-eq0-clause-goes c =
    moves c.args.self c.at.result (AwaitingRoom BadFlash 0) c.at.ensures c.requires.sound tt (omega arith) tt

pub returns-then-self-eq0-clause-is_in : goal.returns-then-self-eq0-clause-is_in
returns-then-self-eq0-clause-is_in c = λ bytes.
    subst (IsIn c.at.result) (sym (if-true _ _ _ (zero-is _ c.if-self-eq0.true)))
    (stays c.args.self c.at.result (AwaitingRoom BadFlash 0) c.at.ensures (answer (codes "ERR flash")) bytes refl (λ u. elim u [ ]))

pub returns-else-self-eq0-clause-goes : goal.returns-else-self-eq0-clause-goes
returns-else-self-eq0-clause-goes c =
    moves c.args.self c.at-else-self-eq0.result c.entering.result c.at-else-self-eq0.ensures c.requires.sound c.entering.ensures.started c.entering.ensures.ready
    (c.entering.ensures.counted c.args.self.room c.args.self.tally.count c.args.self.tally.size
    (c.block_errand.ensures.about c.args.self.room c.args.self.tally.count c.args.self.tally.size c.requires.fits))

pub returns-else-self-eq0-clause-is_in : goal.returns-else-self-eq0-clause-is_in
returns-else-self-eq0-clause-is_in c = λ bytes.
    subst (IsIn c.at-else-self-eq0.result) (sym (if-false _ _ _ (zero-not _ c.if-self-eq0.false)))
    (stays c.args.self c.at-else-self-eq0.result c.entering.result c.at-else-self-eq0.ensures (burning c.args.image.length c.args.image.check) bytes
    (c.entering.ensures.same c.args.self.ctrl c.args.self.tally.count c.args.self.tally.size ∙ c.block_errand.ensures.same c.args.self.tally.size ∙ burning-is c.args.image)
    (λ u. elim (c.block_errand.ensures.reading (c.entering.ensures.coming u)) [ ]))
