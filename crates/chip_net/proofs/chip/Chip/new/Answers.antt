use Rattle.std.proofs.Common.{ap}
use Rattle.chip_base.specs.Settings.{values_of}
use Rattle.chip_whole.proofs.Keeping.{start_stands}
use Rattle.chip_net.proofs.chip.Chip.new.Goals as goal

pub returns-clause-chip : goal.returns-clause-chip
returns-clause-chip g c =
    let units = rw c.deref-2.ensures.value at c.in_ok-units.ensures in
    start_stands _ (values_of c.args.setup.now) c.args.boot c.args.image.items c.args.script _ _ _ _ _ (rw c.deref.ensures.value at c.in_ok-hub.ensures.hub)
    c.in_ok-hub.ensures.seat c.in_ok-hub.ensures.issues c.in_ok-hub.ensures.stored (ap (λ u. u.units) units) c.new-3.ensures.stands (ap (λ u. u.down) units) (ap (λ u. u.up) units) (ap (λ u. u.cycle) units)
