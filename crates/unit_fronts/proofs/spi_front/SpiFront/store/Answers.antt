use Rattle.unit_fronts.proofs.Control.{control_is_stored, sets_spi_control, spi_part}
use Rattle.std.proofs.Common.{◌∙◌, ap}
use Rattle.unit_fronts.specs.SerialRegisters.{serial_control_stored}
use Rattle.unit_fronts.specs.SpiFront.{spi_kept, spi_kind}
use Rattle.unit_fronts.proofs.spi_front.SpiFront.store.Goals as goal

pub keep-requires-clause-writable : goal.keep-requires-clause-writable
keep-requires-clause-writable c = spi_part c.args.word

pub returns-then-reg-eq0-clause-control : goal.returns-then-reg-eq0-clause-control
returns-then-reg-eq0-clause-control c = λ o. sets_spi_control c.args.self.now c.args.reg c.args.word c.keep.new.self
    (control_is_stored spi_kind c.args.self.now c.args.reg c.args.word c.keep.new.self o c.if-reg-eq0.true
    (c.keep.ensures ∙ ap (λ s. serial_control_stored s (spi_kept c.args.word)) c.self.view_is)) o
