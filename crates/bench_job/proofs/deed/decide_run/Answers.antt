use Rattle.bench_plan.proofs.Readings.{reads_then, reads_exit_as, reads_none}
use Rattle.bench_words.specs.Jobs.{run_view}
use Rattle.bench_job.specs.Plans.{board_of, done_of, report_step}
use Rattle.bench_job.proofs.deed.decide_run.Goals as goal

pub returns-in_err-power_on : goal.returns-in_err-power_on
returns-in_err-power_on g c = λ handed.
    reads_exit_as (report_step (board_of handed (run_view c.args.job.now).part) c.args.job.now.cycles c.args.job.now.trace) (done_of handed)
    c.from_residual.result c.from_residual.ensures.1 c.in_err-power_on.ensures

pub returns : goal.returns
returns g c = λ handed.
    reads_then (report_step (board_of handed (run_view c.args.job.now).part) c.args.job.now.cycles c.args.job.now.trace) _ c.in_ok-power_on.ensures (reads_none _ _)
