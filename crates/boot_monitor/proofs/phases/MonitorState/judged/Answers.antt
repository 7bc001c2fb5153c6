use Rattle.std.proofs.Common.{arith}
use Rattle.boot_monitor.proofs.Judging.{bad-sum, good-goes, good-sum, refused-goes}
use Rattle.boot_monitor.specs.Phases.{mind_of}
use Rattle.boot_monitor.specs.declared.phases.Text.TheVariants.{BadChecksum}
use Rattle.boot_monitor.proofs.phases.MonitorState.judged.Goals as goal

pub returns-then-self-ne0-clause-goes : goal.returns-then-self-ne0-clause-goes
returns-then-self-ne0-clause-goes c =
    refused-goes c.args.self c.refused.result BadChecksum c.refused.ensures c.requires.sound.size c.requires.sound.part (omega arith) tt

pub returns-then-self-ne0-clause-is_in : goal.returns-then-self-ne0-clause-is_in
returns-then-self-ne0-clause-is_in c = λ bytes h.
    bad-sum c.args.self c.refused.result c.args.self.room c.args.self.ctrl (mind_of c.args.self bytes) c.refused.ensures h c.if-self-ne0.true

pub returns-else-self-ne0-clause-goes : goal.returns-else-self-ne0-clause-goes
returns-else-self-ne0-clause-goes c = good-goes c.args.self c.telling.result c.telling.ensures c.requires.sound c.requires.loaded.fits

pub returns-else-self-ne0-clause-is_in : goal.returns-else-self-ne0-clause-is_in
returns-else-self-ne0-clause-is_in c = λ bytes h.
    good-sum c.args.self c.telling.result c.args.self.room c.args.self.ctrl (mind_of c.args.self bytes) c.telling.ensures h c.requires.loaded.from c.if-self-ne0.false
