-- Serves the code alone: a unit and its links, as the unit joined to the hub that they stand for.
use Rattle.chip_net.specs.Links.{LinkState}
use Rattle.chip_whole.specs.Joined.{Joined}

abbrev pub joined_of : {S : Type 0} → S → LinkState → Joined S
joined_of unit links = record { unit = unit; down = links.down; up = links.up }
