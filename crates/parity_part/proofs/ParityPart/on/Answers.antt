use Rattle.parity_part.proofs.Answering.{answers}
use Rattle.parity_part.proofs.ParityPart.on.Goals as goal

pub returns : goal.returns
returns c = answers _ _ c.args.ev _ c.reply.ensures c.after-self.ensures
