use Rattle.std.proofs.Common.{◌∙◌, sym, ap, subst}
use Rattle.boot_monitor.proofs.Printing.{room-then, room-else, byte-answered, taking-settled}
use Rattle.boot_monitor.proofs.Rest.{if-false, if-true}
use Rattle.boot_monitor.specs.Actions.{answered}
use Rattle.boot_monitor.specs.Phases.{IsCounted, todo_in}
use Rattle.boot_monitor.proofs.machine.next_phase.Goals as goal

pub returns-then-meets-2-clause-same : goal.returns-then-meets-2-clause-same
returns-then-meets-2-clause-same c = λ room ctrl count size mind h.
    room-then room ctrl count size mind c.args.word c.args.phase c.in-AwaitingRoom.text c.in-AwaitingRoom.place c.in-AwaitingRoom.is c.requires.ready (sym c.meets-in-AwaitingRoom.ensures ∙ c.if-meets-2.true)

pub returns-else-meets-2-clause-same : goal.returns-else-meets-2-clause-same
returns-else-meets-2-clause-same c = λ room ctrl count size mind h.
    room-else room ctrl count size mind c.args.word c.args.phase c.in-AwaitingRoom.text c.in-AwaitingRoom.place c.in-AwaitingRoom.is c.requires.ready (sym c.meets-in-AwaitingRoom.ensures ∙ c.if-meets-2.false)

pub returns-in-Sending-clause-same : goal.returns-in-Sending-clause-same
returns-in-Sending-clause-same c = λ room ctrl count size mind h.
    byte-answered room ctrl count size mind c.args.word c.args.phase c.in-Sending.text c.in-Sending.place _ c.in-Sending.is
    (c.printing.ensures.same c.in-Sending.place ctrl room count size (subst (λ p. IsCounted p room count size) c.in-Sending.is h))

pub returns-in-SettingUp-clause-same : goal.returns-in-SettingUp-clause-same
returns-in-SettingUp-clause-same c = λ room ctrl count size mind h. ap (λ p. answered room ctrl (todo_in p ctrl count size) mind c.args.word) c.in-SettingUp.is

pub returns-in-Asking-clause-same : goal.returns-in-Asking-clause-same
returns-in-Asking-clause-same c = λ room ctrl count size mind h. ap (λ p. answered room ctrl (todo_in p ctrl count size) mind c.args.word) c.in-Asking.is

pub returns-in-Over-clause-same : goal.returns-in-Over-clause-same
returns-in-Over-clause-same c = λ room ctrl count size mind h. ap (λ p. answered room ctrl (todo_in p ctrl count size) mind c.args.word) c.in-Over.is ∙ ap (λ p. record { todo = todo_in p ctrl count size; mind = mind }) (sym c.in-Over.is)

pub returns-then-meets-clause-same : goal.returns-then-meets-clause-same
returns-then-meets-clause-same c = λ room ctrl count size mind h.
    ap (λ p. answered room ctrl (todo_in p ctrl count size) mind c.args.word) c.in-Opening.is ∙ if-true _ _ _ (sym c.meets.ensures ∙ c.if-meets.true)

pub returns-else-meets-clause-same : goal.returns-else-meets-clause-same
returns-else-meets-clause-same c = λ room ctrl count size mind h.
    ap (λ p. answered room ctrl (todo_in p ctrl count size) mind c.args.word) c.in-Opening.is ∙ if-false _ _ _ (sym c.meets.ensures ∙ c.if-meets.false)
    ∙ ap (λ p. record { todo = todo_in p ctrl count size; mind = mind }) (sym c.in-Opening.is)

pub returns-then-meets-3-clause-same : goal.returns-then-meets-3-clause-same
returns-then-meets-3-clause-same c = λ room ctrl count size mind h.
    ap (λ p. answered room ctrl (todo_in p ctrl count size) mind c.args.word) c.in-AwaitingByte.is ∙ if-true _ _ _ (sym c.meets-in-AwaitingByte.ensures ∙ c.if-meets-3.true) ∙ taking-settled c.in-AwaitingByte.purpose room ctrl count size mind

pub returns-else-meets-3-clause-same : goal.returns-else-meets-3-clause-same
returns-else-meets-3-clause-same c = λ room ctrl count size mind h.
    ap (λ p. answered room ctrl (todo_in p ctrl count size) mind c.args.word) c.in-AwaitingByte.is ∙ if-false _ _ _ (sym c.meets-in-AwaitingByte.ensures ∙ c.if-meets-3.false)

pub returns-then-meets-4-clause-same : goal.returns-then-meets-4-clause-same
returns-then-meets-4-clause-same c = λ room ctrl count size mind h.
    ap (λ p. answered room ctrl (todo_in p ctrl count size) mind c.args.word) c.in-Finishing.is ∙ if-true _ _ _ (sym c.meets-in-Finishing.ensures ∙ c.if-meets-4.true)

pub returns-else-meets-4-clause-same : goal.returns-else-meets-4-clause-same
returns-else-meets-4-clause-same c = λ room ctrl count size mind h.
    ap (λ p. answered room ctrl (todo_in p ctrl count size) mind c.args.word) c.in-Finishing.is ∙ if-false _ _ _ (sym c.meets-in-Finishing.ensures ∙ c.if-meets-4.false)
    ∙ ap (λ p. record { todo = todo_in p ctrl count size; mind = mind }) (sym c.in-Finishing.is)
