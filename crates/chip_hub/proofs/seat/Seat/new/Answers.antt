use Rattle.chip_base.specs.Settings.{values_of}
use Rattle.chip_hub.proofs.Seats.{stands_start}
use Rattle.chip_hub.proofs.seat.Seat.new.Goals as goal

pub returns : goal.returns
returns c = stands_start (values_of c.args.setup.now) c.args.boot _ (rw (c.from.ensures, c.from-2.ensures) at c.begun.ensures)
