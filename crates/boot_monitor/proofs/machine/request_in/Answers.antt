use Rattle.std.proofs.Common.{◌∙◌, ◌-◌, sym, ap, subst}
use Rattle.boot_monitor.proofs.Printing.{asks-room, asks-byte, asks-taken}
use Rattle.boot_monitor.specs.Actions.{asks, load, spi_data, store, uart_data}
use Rattle.boot_monitor.specs.Phases.{IsUnderWay, todo_in}
use Rattle.boot_monitor.proofs.machine.request_in.Goals as goal

pub returns-in-AwaitingRoom-clause-asked : goal.returns-in-AwaitingRoom-clause-asked
returns-in-AwaitingRoom-clause-asked c = λ size bytes h. c.load-in-AwaitingRoom.ensures
    ∙ asks-room c.args.phase c.in-AwaitingRoom.field-0 c.in-AwaitingRoom.field-1 c.args.ctrl c.args.count size bytes c.in-AwaitingRoom.is c.requires.ready

pub returns-in-Some-clause-asked : goal.returns-in-Some-clause-asked
returns-in-Some-clause-asked c = λ size bytes h. c.store-in-Some.ensures ∙ ap (λ b. store uart_data b) c.from.ensures
    ∙ asks-byte c.args.phase c.in-Sending.text c.in-Sending.place c.args.ctrl c.args.count size bytes c.in-Some.byte c.in-Sending.is (sym c.byte_at.ensures ∙ c.in-Some.is)

pub returns-in-Opening-clause-asked : goal.returns-in-Opening-clause-asked
returns-in-Opening-clause-asked c = λ size bytes h. c.load.ensures ∙ ap (λ p. asks (todo_in p c.args.ctrl c.args.count size) bytes) (sym c.in-Opening.is)

pub returns-in-SettingUp-clause-asked : goal.returns-in-SettingUp-clause-asked
returns-in-SettingUp-clause-asked c = λ size bytes h. c.store.ensures ∙ ap (λ p. asks (todo_in p c.args.ctrl c.args.count size) bytes) (sym c.in-SettingUp.is)

pub returns-in-AwaitingByte-clause-asked : goal.returns-in-AwaitingByte-clause-asked
returns-in-AwaitingByte-clause-asked c = λ size bytes h. c.load-in-AwaitingByte.ensures ∙ ap (λ p. asks (todo_in p c.args.ctrl c.args.count size) bytes) (sym c.in-AwaitingByte.is)

pub returns-in-Enabling-clause-asked : goal.returns-in-Enabling-clause-asked
returns-in-Enabling-clause-asked c = λ size bytes h. c.store-in-Enabling.ensures ∙ ap (λ p. asks (todo_in p c.args.ctrl c.args.count size) bytes) (sym c.in-Enabling.is)

pub returns-in-Selecting-clause-asked : goal.returns-in-Selecting-clause-asked
returns-in-Selecting-clause-asked c = λ size bytes h. c.store-in-Selecting.ensures ∙ ap (λ p. asks (todo_in p c.args.ctrl c.args.count size) bytes) (sym c.in-Selecting.is)

pub returns-in-AwaitingAnswer-clause-asked : goal.returns-in-AwaitingAnswer-clause-asked
returns-in-AwaitingAnswer-clause-asked c = λ size bytes h. c.load-in-AwaitingAnswer.ensures ∙ ap (λ p. asks (todo_in p c.args.ctrl c.args.count size) bytes) (sym c.in-AwaitingAnswer.is)

pub returns-in-Answering-clause-asked : goal.returns-in-Answering-clause-asked
returns-in-Answering-clause-asked c = λ size bytes h. c.load-in-Answering.ensures ∙ ap (λ p. asks (todo_in p c.args.ctrl c.args.count size) bytes) (sym c.in-Answering.is)

pub returns-in-Deselecting-clause-asked : goal.returns-in-Deselecting-clause-asked
returns-in-Deselecting-clause-asked c = λ size bytes h. c.store-in-Deselecting.ensures ∙ ap (λ p. asks (todo_in p c.args.ctrl c.args.count size) bytes) (sym c.in-Deselecting.is)

pub returns-in-Finishing-clause-asked : goal.returns-in-Finishing-clause-asked
returns-in-Finishing-clause-asked c = λ size bytes h. c.load-in-Finishing.ensures ∙ ap (λ p. asks (todo_in p c.args.ctrl c.args.count size) bytes) (sym c.in-Finishing.is)

pub returns-in-Asking-clause-asked : goal.returns-in-Asking-clause-asked
returns-in-Asking-clause-asked c = λ size bytes h. c.load-in-Asking.ensures ∙ ap load c.address.ensures ∙ ap (λ p. asks (todo_in p c.args.ctrl c.args.count size) bytes) (sym c.in-Asking.is)

pub returns-in-Fetching-clause-asked : goal.returns-in-Fetching-clause-asked
returns-in-Fetching-clause-asked c = λ size bytes h. c.load-in-Fetching.ensures ∙ ap load c.word_address.ensures ∙ ap (λ p. asks (todo_in p c.args.ctrl c.args.count size) bytes) (sym c.in-Fetching.is)

pub returns-in-Taking-clause-asked : goal.returns-in-Taking-clause-asked
returns-in-Taking-clause-asked c = λ size bytes h. c.load-in-Taking.ensures ∙ asks-taken c.in-Taking.field-0 c.args.count size bytes ∙ ap (λ p. asks (todo_in p c.args.ctrl c.args.count size) bytes) (sym c.in-Taking.is)

pub returns-in-Storing-clause-asked : goal.returns-in-Storing-clause-asked
returns-in-Storing-clause-asked c = λ size bytes h. c.store-in-Storing.ensures ∙ ap (λ w. store (c.args.count - 16) w) (sym (h c.in-Storing.field-0 c.in-Storing.is)) ∙ ap (λ p. asks (todo_in p c.args.ctrl c.args.count size) bytes) (sym c.in-Storing.is)

pub returns-in-Transferring-clause-asked : goal.returns-in-Transferring-clause-asked
returns-in-Transferring-clause-asked c = λ size bytes h. c.store-in-Transferring.ensures ∙ ap (λ b. store spi_data b) (c.from-in-Transferring.ensures ∙ c.byte_sent.ensures) ∙ ap (λ p. asks (todo_in p c.args.ctrl c.args.count size) bytes) (sym c.in-Transferring.is)

pub returns-in-Over-clause-asked : goal.returns-in-Over-clause-asked
returns-in-Over-clause-asked c = λ size bytes h. ap (λ p. asks (todo_in p c.args.ctrl c.args.count size) bytes) (sym c.in-Over.is)

pub returns-in-Opening-clause-due : goal.returns-in-Opening-clause-due
returns-in-Opening-clause-due c = λ request e. subst IsUnderWay (sym c.in-Opening.is) tt

pub returns-in-SettingUp-clause-due : goal.returns-in-SettingUp-clause-due
returns-in-SettingUp-clause-due c = λ request e. subst IsUnderWay (sym c.in-SettingUp.is) tt

pub returns-in-AwaitingRoom-clause-due : goal.returns-in-AwaitingRoom-clause-due
returns-in-AwaitingRoom-clause-due c = λ request e. subst IsUnderWay (sym c.in-AwaitingRoom.is) tt

pub returns-in-Asking-clause-due : goal.returns-in-Asking-clause-due
returns-in-Asking-clause-due c = λ request e. subst IsUnderWay (sym c.in-Asking.is) tt

pub returns-in-AwaitingByte-clause-due : goal.returns-in-AwaitingByte-clause-due
returns-in-AwaitingByte-clause-due c = λ request e. subst IsUnderWay (sym c.in-AwaitingByte.is) tt

pub returns-in-Taking-clause-due : goal.returns-in-Taking-clause-due
returns-in-Taking-clause-due c = λ request e. subst IsUnderWay (sym c.in-Taking.is) tt

pub returns-in-Storing-clause-due : goal.returns-in-Storing-clause-due
returns-in-Storing-clause-due c = λ request e. subst IsUnderWay (sym c.in-Storing.is) tt

pub returns-in-Enabling-clause-due : goal.returns-in-Enabling-clause-due
returns-in-Enabling-clause-due c = λ request e. subst IsUnderWay (sym c.in-Enabling.is) tt

pub returns-in-Selecting-clause-due : goal.returns-in-Selecting-clause-due
returns-in-Selecting-clause-due c = λ request e. subst IsUnderWay (sym c.in-Selecting.is) tt

pub returns-in-Transferring-clause-due : goal.returns-in-Transferring-clause-due
returns-in-Transferring-clause-due c = λ request e. subst IsUnderWay (sym c.in-Transferring.is) tt

pub returns-in-AwaitingAnswer-clause-due : goal.returns-in-AwaitingAnswer-clause-due
returns-in-AwaitingAnswer-clause-due c = λ request e. subst IsUnderWay (sym c.in-AwaitingAnswer.is) tt

pub returns-in-Answering-clause-due : goal.returns-in-Answering-clause-due
returns-in-Answering-clause-due c = λ request e. subst IsUnderWay (sym c.in-Answering.is) tt

pub returns-in-Fetching-clause-due : goal.returns-in-Fetching-clause-due
returns-in-Fetching-clause-due c = λ request e. subst IsUnderWay (sym c.in-Fetching.is) tt

pub returns-in-Deselecting-clause-due : goal.returns-in-Deselecting-clause-due
returns-in-Deselecting-clause-due c = λ request e. subst IsUnderWay (sym c.in-Deselecting.is) tt

pub returns-in-Finishing-clause-due : goal.returns-in-Finishing-clause-due
returns-in-Finishing-clause-due c = λ request e. subst IsUnderWay (sym c.in-Finishing.is) tt
