use Rattle.chip_hub.proofs.Fronts.{region_sends_one}
use Rattle.chip_hub.proofs.complex.CoreComplex.access.Goals as goal

pub returns-in-Ok-clause-messages : goal.returns-in-Ok-clause-messages
returns-in-Ok-clause-messages c = region_sends_one _ c.args.request.now c.in-Ok.region _ c.access_region.ensures.step
