use Rattle.bench_report.proofs.Traces.{writes_issue, writes_no_issue}
use Rattle.bench_report.proofs.trace.put_issue.Goals as goal

pub returns-in-Some : goal.returns-in-Some
returns-in-Some g c board s h = writes_issue s.issues c.args.back _ (c.in-Some.ensures board s h) c.trace_line.ensures

pub returns-in-None : goal.returns-in-None
returns-in-None g c board s h = writes_no_issue s.issues c.args.back _ (c.in-None.ensures board s h)
