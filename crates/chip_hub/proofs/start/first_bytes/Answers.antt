use Rattle.chip_hub.proofs.Files.{rest_taken}
use Rattle.chip_hub.proofs.start.first_bytes.Goals as goal

pub returns-in-Direct-clause-value : goal.returns-in-Direct-clause-value
returns-in-Direct-clause-value c = rw c.in-Direct.is (rest_taken 12 c.args.image.now)
