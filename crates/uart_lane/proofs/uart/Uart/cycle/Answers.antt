use Rattle.std.proofs.Common.{Some, ap, ◌∙◌}
use Rattle.chip_base.specs.Given.{Given}
use Rattle.uart_lane.specs.State.{UartState}
use Rattle.uart_lane.proofs.Counts.{counts_kept}
use Rattle.uart_lane.proofs.Cycles.{given_none, given_reset, given_set}
use Rattle.uart_lane.proofs.Order.{order_kept}
use Rattle.uart_lane.proofs.Received.{script_kept}
use Rattle.uart_lane.proofs.uart.Uart.cycle.Goals as goal

pub returns-in-Some-Reset-clause-unit : goal.returns-in-Some-Reset-clause-unit
returns-in-Some-Reset-clause-unit c = c.reset.ensures ∙ ap (λ (g : Given UartState). g.unit)
    (given_reset c.args.self.now c.args.now c.args.down (c.in-Some-Reset.is ∙ ap Some (rw c.in-Some-Reset.is at c.in-Some-Reset.field-0-is)))

pub returns-in-Some-Reset-clause-up : goal.returns-in-Some-Reset-clause-up
returns-in-Some-Reset-clause-up c = ap (λ (g : Given UartState). g.up)
    (given_reset c.args.self.now c.args.now c.args.down (c.in-Some-Reset.is ∙ ap Some (rw c.in-Some-Reset.is at c.in-Some-Reset.field-0-is)))

pub returns-in-Some-Reset-clause-event : goal.returns-in-Some-Reset-clause-event
returns-in-Some-Reset-clause-event c = ap (λ (g : Given UartState). g.event)
    (given_reset c.args.self.now c.args.now c.args.down (c.in-Some-Reset.is ∙ ap Some (rw c.in-Some-Reset.is at c.in-Some-Reset.field-0-is)))

pub returns-in-Some-Reset-clause-count : goal.returns-in-Some-Reset-clause-count
returns-in-Some-Reset-clause-count c = counts_kept c.args.self.now c.args.now c.args.down c.reset.new.self _ (returns-in-Some-Reset-clause-unit c) (returns-in-Some-Reset-clause-up c)

pub returns-in-Some-Reset-clause-order : goal.returns-in-Some-Reset-clause-order
returns-in-Some-Reset-clause-order c = order_kept c.args.self.now c.args.now c.args.down c.reset.new.self _ (returns-in-Some-Reset-clause-unit c) (returns-in-Some-Reset-clause-event c)

pub returns-in-Some-Set-clause-unit : goal.returns-in-Some-Set-clause-unit
returns-in-Some-Set-clause-unit c = c.work.ensures.unit ∙ ap (λ (g : Given UartState). g.unit)
    (given_set c.args.self.now c.args.now c.args.down c.set.new.self c.in-Some-Set.reg c.in-Some-Set.word
    (c.in-Some-Set.is ∙ ap Some (rw c.in-Some-Set.is at c.in-Some-Set.field-0-is)) c.set.ensures)

pub returns-in-Some-Set-clause-up : goal.returns-in-Some-Set-clause-up
returns-in-Some-Set-clause-up c = c.work.ensures.up ∙ ap (λ (g : Given UartState). g.up)
    (given_set c.args.self.now c.args.now c.args.down c.set.new.self c.in-Some-Set.reg c.in-Some-Set.word
    (c.in-Some-Set.is ∙ ap Some (rw c.in-Some-Set.is at c.in-Some-Set.field-0-is)) c.set.ensures)

pub returns-in-Some-Set-clause-event : goal.returns-in-Some-Set-clause-event
returns-in-Some-Set-clause-event c = c.work.ensures.event ∙ ap (λ (g : Given UartState). g.event)
    (given_set c.args.self.now c.args.now c.args.down c.set.new.self c.in-Some-Set.reg c.in-Some-Set.word
    (c.in-Some-Set.is ∙ ap Some (rw c.in-Some-Set.is at c.in-Some-Set.field-0-is)) c.set.ensures)

pub returns-in-Some-Set-clause-count : goal.returns-in-Some-Set-clause-count
returns-in-Some-Set-clause-count c = counts_kept c.args.self.now c.args.now c.args.down c.work.new.self _ (returns-in-Some-Set-clause-unit c) (returns-in-Some-Set-clause-up c)

pub returns-in-Some-Set-clause-order : goal.returns-in-Some-Set-clause-order
returns-in-Some-Set-clause-order c = order_kept c.args.self.now c.args.now c.args.down c.work.new.self _ (returns-in-Some-Set-clause-unit c) (returns-in-Some-Set-clause-event c)

pub returns-in-Some-Set-clause-script : goal.returns-in-Some-Set-clause-script
returns-in-Some-Set-clause-script c = script_kept c.args.self.now c.args.now c.args.down c.work.new.self _ c.work.ensures.bit (returns-in-Some-Set-clause-unit c) (returns-in-Some-Set-clause-up c)

pub returns-in-None-clause-unit : goal.returns-in-None-clause-unit
returns-in-None-clause-unit c = c.work-in-None.ensures.unit ∙ ap (λ (g : Given UartState). g.unit)
    (given_none c.args.self.now c.args.now c.args.down c.in-None.is)

pub returns-in-None-clause-up : goal.returns-in-None-clause-up
returns-in-None-clause-up c = c.work-in-None.ensures.up ∙ ap (λ (g : Given UartState). g.up)
    (given_none c.args.self.now c.args.now c.args.down c.in-None.is)

pub returns-in-None-clause-event : goal.returns-in-None-clause-event
returns-in-None-clause-event c = c.work-in-None.ensures.event ∙ ap (λ (g : Given UartState). g.event)
    (given_none c.args.self.now c.args.now c.args.down c.in-None.is)

pub returns-in-None-clause-count : goal.returns-in-None-clause-count
returns-in-None-clause-count c = counts_kept c.args.self.now c.args.now c.args.down c.work-in-None.new.self _ (returns-in-None-clause-unit c) (returns-in-None-clause-up c)

pub returns-in-None-clause-order : goal.returns-in-None-clause-order
returns-in-None-clause-order c = order_kept c.args.self.now c.args.now c.args.down c.work-in-None.new.self _ (returns-in-None-clause-unit c) (returns-in-None-clause-event c)

pub returns-in-None-clause-script : goal.returns-in-None-clause-script
returns-in-None-clause-script c = script_kept c.args.self.now c.args.now c.args.down c.work-in-None.new.self _ c.work-in-None.ensures.bit (returns-in-None-clause-unit c) (returns-in-None-clause-up c)
