use Rattle.std.proofs.Common.{◌<◌, ◌^◌, arith, subst}
use Rattle.std.proofs.lemmas.Grind.{common_steps}
use Rattle.unit_fronts.specs.Control.{IsWritable}
use Rattle.unit_fronts.proofs.Control.{tells_control}
use Rattle.unit_fronts.proofs.serial_registers.SerialRegisters.control.Goals as goal

pub returns-clause-bits : goal.returns-clause-bits
returns-clause-bits c =
    let sound : IsWritable c.args.self.now.kept × (c.args.self.now.kept < 2 ^ 23)
    = subst (λ s. IsWritable s.kept × (s.kept < 2 ^ 23)) c.self.view_is (c.self.invariant.0, c.self.invariant.1) in
    tells_control c.args.self.now _ (grind (arith, common_steps)) sound.0 sound.1
