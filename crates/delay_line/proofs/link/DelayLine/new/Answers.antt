use Rattle.std.proofs.Common.{ap, ◌∙◌, length}
use Rattle.delay_line.specs.Queue.{places_of}
use Rattle.delay_line.proofs.Arrival.{first_places}
use Rattle.delay_line.proofs.link.DelayLine.new.Goals as goal

pub returns-clause-places : goal.returns-clause-places
returns-clause-places g c = ap (λ items. length (places_of items 0 c.args.delay)) c.in-Ok.ensures.items ∙ first_places g.row.M.Denot 0 c.args.delay
