use Rattle.std.proofs.Common.{Some, ap, ◌∙◌}
use Rattle.chip_base.specs.Given.{Given}
use Rattle.spi_flash.proofs.Laws.{holds_of_time}
use Rattle.spi_flash.proofs.SpiCounts.{counts_as, given_none, given_reset, given_set, keeps_as, silent_in}
use Rattle.spi_flash.proofs.UnitFlash.{steps_as}
use Rattle.spi_flash.specs.SpiCycle.{SpiState}
use Rattle.spi_flash.proofs.spi.Spi.cycle.Goals as goal

pub returns-in-Some-Reset-clause-unit : goal.returns-in-Some-Reset-clause-unit
returns-in-Some-Reset-clause-unit c = c.reset.ensures ∙ ap (λ (g : Given SpiState). g.unit)
    (given_reset c.args.self.now c.args.now c.args.down (c.in-Some-Reset.is ∙ ap Some (rw c.in-Some-Reset.is at c.in-Some-Reset.field-0-is)))

pub returns-in-Some-Reset-clause-up : goal.returns-in-Some-Reset-clause-up
returns-in-Some-Reset-clause-up c = ap (λ (g : Given SpiState). g.up)
    (given_reset c.args.self.now c.args.now c.args.down (c.in-Some-Reset.is ∙ ap Some (rw c.in-Some-Reset.is at c.in-Some-Reset.field-0-is)))

pub returns-in-Some-Reset-clause-event : goal.returns-in-Some-Reset-clause-event
returns-in-Some-Reset-clause-event c = silent_in c.args.self.now c.args.now c.args.down

pub returns-in-Some-Reset-clause-count : goal.returns-in-Some-Reset-clause-count
returns-in-Some-Reset-clause-count c = counts_as c.args.self.now c.args.now c.args.down c.reset.new.self _ (returns-in-Some-Reset-clause-unit c) (returns-in-Some-Reset-clause-up c)

pub returns-in-Some-Reset-clause-order : goal.returns-in-Some-Reset-clause-order
returns-in-Some-Reset-clause-order c = keeps_as c.args.self.now c.args.now c.args.down c.reset.new.self _ (returns-in-Some-Reset-clause-unit c) (returns-in-Some-Reset-clause-up c)

pub returns-in-Some-Reset-clause-flash : goal.returns-in-Some-Reset-clause-flash
returns-in-Some-Reset-clause-flash c = steps_as c.args.self.now c.args.now c.args.down c.reset.new.self _ (returns-in-Some-Reset-clause-unit c) (returns-in-Some-Reset-clause-up c)

pub returns-in-Some-Reset-clause-time : goal.returns-in-Some-Reset-clause-time
returns-in-Some-Reset-clause-time c = holds_of_time c.args.self.now

pub returns-in-Some-Set-clause-unit : goal.returns-in-Some-Set-clause-unit
returns-in-Some-Set-clause-unit c = c.work.ensures.unit ∙ ap (λ (g : Given SpiState). g.unit)
    (given_set c.args.self.now c.args.now c.args.down c.set.new.self c.in-Some-Set.reg c.in-Some-Set.word (c.in-Some-Set.is ∙ ap Some (rw c.in-Some-Set.is at c.in-Some-Set.field-0-is)) c.set.ensures)

pub returns-in-Some-Set-clause-up : goal.returns-in-Some-Set-clause-up
returns-in-Some-Set-clause-up c = c.work.ensures.up ∙ ap (λ (g : Given SpiState). g.up)
    (given_set c.args.self.now c.args.now c.args.down c.set.new.self c.in-Some-Set.reg c.in-Some-Set.word (c.in-Some-Set.is ∙ ap Some (rw c.in-Some-Set.is at c.in-Some-Set.field-0-is)) c.set.ensures)

pub returns-in-Some-Set-clause-event : goal.returns-in-Some-Set-clause-event
returns-in-Some-Set-clause-event c = c.work.ensures.event ∙ silent_in c.args.self.now c.args.now c.args.down

pub returns-in-Some-Set-clause-count : goal.returns-in-Some-Set-clause-count
returns-in-Some-Set-clause-count c = counts_as c.args.self.now c.args.now c.args.down c.work.new.self _ (returns-in-Some-Set-clause-unit c) (returns-in-Some-Set-clause-up c)

pub returns-in-Some-Set-clause-order : goal.returns-in-Some-Set-clause-order
returns-in-Some-Set-clause-order c = keeps_as c.args.self.now c.args.now c.args.down c.work.new.self _ (returns-in-Some-Set-clause-unit c) (returns-in-Some-Set-clause-up c)

pub returns-in-Some-Set-clause-flash : goal.returns-in-Some-Set-clause-flash
returns-in-Some-Set-clause-flash c = steps_as c.args.self.now c.args.now c.args.down c.work.new.self _ (returns-in-Some-Set-clause-unit c) (returns-in-Some-Set-clause-up c)

pub returns-in-Some-Set-clause-time : goal.returns-in-Some-Set-clause-time
returns-in-Some-Set-clause-time c = holds_of_time c.args.self.now

pub returns-in-None-clause-unit : goal.returns-in-None-clause-unit
returns-in-None-clause-unit c = c.work-in-None.ensures.unit ∙ ap (λ (g : Given SpiState). g.unit)
    (given_none c.args.self.now c.args.now c.args.down c.in-None.is)

pub returns-in-None-clause-up : goal.returns-in-None-clause-up
returns-in-None-clause-up c = c.work-in-None.ensures.up ∙ ap (λ (g : Given SpiState). g.up)
    (given_none c.args.self.now c.args.now c.args.down c.in-None.is)

pub returns-in-None-clause-event : goal.returns-in-None-clause-event
returns-in-None-clause-event c = c.work-in-None.ensures.event ∙ silent_in c.args.self.now c.args.now c.args.down

pub returns-in-None-clause-count : goal.returns-in-None-clause-count
returns-in-None-clause-count c = counts_as c.args.self.now c.args.now c.args.down c.work-in-None.new.self _ (returns-in-None-clause-unit c) (returns-in-None-clause-up c)

pub returns-in-None-clause-order : goal.returns-in-None-clause-order
returns-in-None-clause-order c = keeps_as c.args.self.now c.args.now c.args.down c.work-in-None.new.self _ (returns-in-None-clause-unit c) (returns-in-None-clause-up c)

pub returns-in-None-clause-flash : goal.returns-in-None-clause-flash
returns-in-None-clause-flash c = steps_as c.args.self.now c.args.now c.args.down c.work-in-None.new.self _ (returns-in-None-clause-unit c) (returns-in-None-clause-up c)

pub returns-in-None-clause-time : goal.returns-in-None-clause-time
returns-in-None-clause-time c = holds_of_time c.args.self.now
