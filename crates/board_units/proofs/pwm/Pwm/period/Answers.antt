use Rattle.std.proofs.Common.{◌*◌, ◌<◌, ap, subst}
use Rattle.board_units.proofs.Start.{starts_at_once}
use Rattle.board_units.proofs.Wave.{makes_wave}
use Rattle.board_units.proofs.pwm.Pwm.period.Goals as goal

pub returns-clause-wave : goal.returns-clause-wave
returns-clause-wave c =
    makes_wave c.args.self.now _ (ap (λ s. 256 * s.prescaler) c.self.view_is)
    (subst (λ s. 0 < s.prescaler) c.self.view_is c.self.invariant.1)

pub returns-clause-start : goal.returns-clause-start
returns-clause-start c = starts_at_once c.args.self.now
