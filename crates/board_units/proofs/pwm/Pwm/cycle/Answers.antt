use Rattle.std.proofs.Common.{Some, ap, ◌∙◌}
use Rattle.chip_base.specs.Given.{Given}
use Rattle.board_units.specs.PwmState.{PwmState}
use Rattle.board_units.proofs.PwmGiven.{answers_as, given_none, given_reset, given_set, rests_as, tells_as}
use Rattle.board_units.proofs.pwm.Pwm.cycle.Goals as goal

pub returns-in-Some-Reset-clause-unit : goal.returns-in-Some-Reset-clause-unit
returns-in-Some-Reset-clause-unit c = c.reset.ensures.unit ∙ ap (λ (g : Given PwmState). g.unit)
    (given_reset c.args.self.now c.args.now c.args.down (c.in-Some-Reset.is ∙ ap Some (rw c.in-Some-Reset.is at c.in-Some-Reset.field-0-is)))

pub returns-in-Some-Reset-clause-up : goal.returns-in-Some-Reset-clause-up
returns-in-Some-Reset-clause-up c = c.reset.ensures.up ∙ ap (λ (g : Given PwmState). g.up)
    (given_reset c.args.self.now c.args.now c.args.down (c.in-Some-Reset.is ∙ ap Some (rw c.in-Some-Reset.is at c.in-Some-Reset.field-0-is)))

pub returns-in-Some-Reset-clause-event : goal.returns-in-Some-Reset-clause-event
returns-in-Some-Reset-clause-event c = c.reset.ensures.event ∙ ap (λ (g : Given PwmState). g.event)
    (given_reset c.args.self.now c.args.now c.args.down (c.in-Some-Reset.is ∙ ap Some (rw c.in-Some-Reset.is at c.in-Some-Reset.field-0-is)))

pub returns-in-Some-Reset-clause-answers : goal.returns-in-Some-Reset-clause-answers
returns-in-Some-Reset-clause-answers c = answers_as c.args.self.now c.args.now c.args.down c.reset.result.up (returns-in-Some-Reset-clause-up c)

pub returns-in-Some-Reset-clause-tells : goal.returns-in-Some-Reset-clause-tells
returns-in-Some-Reset-clause-tells c = tells_as c.args.self.now c.args.now c.args.down c.reset.new.self c.reset.result.event (returns-in-Some-Reset-clause-unit c) (returns-in-Some-Reset-clause-event c)

pub returns-in-Some-Reset-clause-rests : goal.returns-in-Some-Reset-clause-rests
returns-in-Some-Reset-clause-rests c = rests_as c.args.self.now c.args.now c.args.down c.reset.new.self (returns-in-Some-Reset-clause-unit c)

pub returns-in-Some-Set-clause-unit : goal.returns-in-Some-Set-clause-unit
returns-in-Some-Set-clause-unit c = c.show.ensures.unit ∙ ap (λ (g : Given PwmState). g.unit)
    (given_set c.args.self.now c.args.now c.args.down c.set.new.self c.in-Some-Set.reg c.in-Some-Set.word
    (c.in-Some-Set.is ∙ ap Some (rw c.in-Some-Set.is at c.in-Some-Set.field-0-is)) c.set.ensures)

pub returns-in-Some-Set-clause-up : goal.returns-in-Some-Set-clause-up
returns-in-Some-Set-clause-up c = c.show.ensures.up ∙ ap (λ (g : Given PwmState). g.up)
    (given_set c.args.self.now c.args.now c.args.down c.set.new.self c.in-Some-Set.reg c.in-Some-Set.word
    (c.in-Some-Set.is ∙ ap Some (rw c.in-Some-Set.is at c.in-Some-Set.field-0-is)) c.set.ensures)

pub returns-in-Some-Set-clause-event : goal.returns-in-Some-Set-clause-event
returns-in-Some-Set-clause-event c = c.show.ensures.event ∙ ap (λ (g : Given PwmState). g.event)
    (given_set c.args.self.now c.args.now c.args.down c.set.new.self c.in-Some-Set.reg c.in-Some-Set.word
    (c.in-Some-Set.is ∙ ap Some (rw c.in-Some-Set.is at c.in-Some-Set.field-0-is)) c.set.ensures)

pub returns-in-Some-Set-clause-answers : goal.returns-in-Some-Set-clause-answers
returns-in-Some-Set-clause-answers c = answers_as c.args.self.now c.args.now c.args.down c.show.result.up (returns-in-Some-Set-clause-up c)

pub returns-in-Some-Set-clause-tells : goal.returns-in-Some-Set-clause-tells
returns-in-Some-Set-clause-tells c = tells_as c.args.self.now c.args.now c.args.down c.show.new.self c.show.result.event (returns-in-Some-Set-clause-unit c) (returns-in-Some-Set-clause-event c)

pub returns-in-Some-Set-clause-rests : goal.returns-in-Some-Set-clause-rests
returns-in-Some-Set-clause-rests c = rests_as c.args.self.now c.args.now c.args.down c.show.new.self (returns-in-Some-Set-clause-unit c)

pub returns-in-None-clause-unit : goal.returns-in-None-clause-unit
returns-in-None-clause-unit c = c.show-in-None.ensures.unit ∙ ap (λ (g : Given PwmState). g.unit)
    (given_none c.args.self.now c.args.now c.args.down c.in-None.is)

pub returns-in-None-clause-up : goal.returns-in-None-clause-up
returns-in-None-clause-up c = c.show-in-None.ensures.up ∙ ap (λ (g : Given PwmState). g.up)
    (given_none c.args.self.now c.args.now c.args.down c.in-None.is)

pub returns-in-None-clause-event : goal.returns-in-None-clause-event
returns-in-None-clause-event c = c.show-in-None.ensures.event ∙ ap (λ (g : Given PwmState). g.event)
    (given_none c.args.self.now c.args.now c.args.down c.in-None.is)

pub returns-in-None-clause-answers : goal.returns-in-None-clause-answers
returns-in-None-clause-answers c = answers_as c.args.self.now c.args.now c.args.down c.show-in-None.result.up (returns-in-None-clause-up c)

pub returns-in-None-clause-tells : goal.returns-in-None-clause-tells
returns-in-None-clause-tells c = tells_as c.args.self.now c.args.now c.args.down c.show-in-None.new.self c.show-in-None.result.event (returns-in-None-clause-unit c) (returns-in-None-clause-event c)

pub returns-in-None-clause-rests : goal.returns-in-None-clause-rests
returns-in-None-clause-rests c = rests_as c.args.self.now c.args.now c.args.down c.show-in-None.new.self (returns-in-None-clause-unit c)
