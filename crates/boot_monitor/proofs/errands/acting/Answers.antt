use Rattle.boot_monitor.proofs.Judging.{page-acted, payload-acted}
use Rattle.boot_monitor.proofs.errands.acting.Goals as goal

pub returns-in-ReadPayload-clause-same : goal.returns-in-ReadPayload-clause-same
returns-in-ReadPayload-clause-same c = λ ctrl room count size h. payload-acted c.args.errand room count size c.in-ReadPayload.is h

pub returns-in-Program-clause-same : goal.returns-in-Program-clause-same
returns-in-Program-clause-same c = λ ctrl room count size h. page-acted c.args.errand c.in-Program.page room count size c.in-Program.is h
