use Rattle.unit_fronts.proofs.Control.{control_is_stored, sets_slink_control, slink_part}
use Rattle.std.proofs.Common.{◌∙◌, ap}
use Rattle.unit_fronts.specs.SerialRegisters.{serial_control_stored}
use Rattle.unit_fronts.specs.SlinkFront.{slink_kept, slink_kind}
use Rattle.unit_fronts.proofs.slink_front.SlinkFront.store.Goals as goal

pub keep-requires-clause-writable : goal.keep-requires-clause-writable
keep-requires-clause-writable c = slink_part c.args.word

pub returns-then-reg-eq0-clause-control : goal.returns-then-reg-eq0-clause-control
returns-then-reg-eq0-clause-control c = λ o. sets_slink_control c.args.self.now c.args.reg c.args.word c.keep.new.self
    (control_is_stored slink_kind c.args.self.now c.args.reg c.args.word c.keep.new.self o c.if-reg-eq0.true
    (c.keep.ensures ∙ ap (λ s. serial_control_stored s (slink_kept c.args.word)) c.self.view_is)) o
