use Rattle.std.proofs.Common.{refl, sym, arith, subst}
use Rattle.boot_monitor.proofs.Replies.{tells}
use Rattle.boot_monitor.specs.Actions.{command, key_of}
use Rattle.boot_monitor.specs.Phases.{IsIn, held_of}
use Rattle.boot_monitor.specs.declared.phases.Setting.TheVariants.{Imem}
use Rattle.boot_monitor.specs.declared.phases.Text.TheVariants.{Go, Help, Name, NoneHeld, UnknownCommand}
use Rattle.boot_monitor.proofs.phases.MonitorState.commanded.Goals as goal

pub returns-in-114-clause-is_in : goal.returns-in-114-clause-is_in
returns-in-114-clause-is_in c = λ room.
    subst (λ b. IsIn c.restarted.result (command room c.args.self.ctrl (key_of b) (held_of c.args.self))) (sym c.in-114.is) (c.restarted.ensures.is_in room)

pub returns-in-117-clause-is_in : goal.returns-in-117-clause-is_in
returns-in-117-clause-is_in c = λ room.
    subst (λ b. IsIn c.uploading.result (command room c.args.self.ctrl (key_of b) (held_of c.args.self))) (sym c.in-117.is) (c.uploading.ensures.is_in room)

pub returns-in-115-clause-is_in : goal.returns-in-115-clause-is_in
returns-in-115-clause-is_in c = λ room.
    subst (λ b. IsIn c.storing.result (command room c.args.self.ctrl (key_of b) (held_of c.args.self))) (sym c.in-115.is) (c.storing.ensures.is_in room)

pub returns-in-108-clause-is_in : goal.returns-in-108-clause-is_in
returns-in-108-clause-is_in c = λ room.
    subst (λ b. IsIn c.loading.result (command room c.args.self.ctrl (key_of b) (held_of c.args.self))) (sym c.in-108.is) (c.loading.ensures.is_in room)

pub returns-in-104-clause-is_in : goal.returns-in-104-clause-is_in
returns-in-104-clause-is_in c = λ room.
    subst (λ b. IsIn c.telling.result (command room c.args.self.ctrl (key_of b) (held_of c.args.self))) (sym c.in-104.is)
    (subst (λ n. IsIn n (command room c.args.self.ctrl (key_of 104) (held_of c.args.self))) (sym c.telling.ensures)
    (record { todo = refl; held = refl; status = refl; counts = λ u. elim u [ ] }))

pub returns-in-105-clause-is_in : goal.returns-in-105-clause-is_in
returns-in-105-clause-is_in c = λ room.
    subst (λ b. IsIn c.telling-in-105.result (command room c.args.self.ctrl (key_of b) (held_of c.args.self))) (sym c.in-105.is)
    (subst (λ n. IsIn n (command room c.args.self.ctrl (key_of 105) (held_of c.args.self))) (sym c.telling-in-105.ensures)
    (record { todo = refl; held = refl; status = refl; counts = λ u. elim u [ ] }))

pub returns-in-104-clause-goes : goal.returns-in-104-clause-goes
returns-in-104-clause-goes c = tells c.args.self c.telling.result Help c.telling.ensures c.requires.sound (omega arith) tt

pub returns-in-105-clause-goes : goal.returns-in-105-clause-goes
returns-in-105-clause-goes c = tells c.args.self c.telling-in-105.result (Name Imem) c.telling-in-105.ensures c.requires.sound (omega arith) tt

pub returns-in-None-clause-goes : goal.returns-in-None-clause-goes
returns-in-None-clause-goes c = tells c.args.self c.telling-in-None.result NoneHeld c.telling-in-None.ensures c.requires.sound (omega arith) tt

pub returns-in-Some-clause-goes : goal.returns-in-Some-clause-goes
returns-in-Some-clause-goes c = tells c.args.self c.telling-in-Some.result Go c.telling-in-Some.ensures c.requires.sound (omega arith) tt

pub returns-in_default-clause-goes : goal.returns-in_default-clause-goes
returns-in_default-clause-goes c = tells c.args.self c.telling-in_default.result UnknownCommand c.telling-in_default.ensures c.requires.sound (omega arith) tt
