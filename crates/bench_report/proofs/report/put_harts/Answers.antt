use Rattle.bench_shelf.proofs.Writing.{writes_then, writes_exit}
use Rattle.trace_text.specs.Lines.{hart_lines_text}
use Rattle.bench_report.specs.Report.{unless_parked}
use Rattle.bench_report.proofs.report.put_harts.Goals as goal

pub returns-in_err-hart_lines : goal.returns-in_err-hart_lines
returns-in_err-hart_lines g c = writes_exit (unless_parked c.args.second.now.phase (hart_lines_text 1 c.args.second.now)) _ c.from_residual.ensures.1 c.in_err-hart_lines.ensures

pub returns : goal.returns
returns g c = writes_then _ c.in_ok-hart_lines.ensures c.put_second_hart.ensures
