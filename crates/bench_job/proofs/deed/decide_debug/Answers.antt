use Rattle.bench_plan.proofs.Readings.{reads_then, reads_exit_as, reads_none}
use Rattle.bench_words.specs.Jobs.{debug_view}
use Rattle.bench_job.specs.Plans.{board_of, commands_step, done_of, power_on_view, session_step}
use Rattle.bench_job.proofs.deed.decide_debug.Goals as goal

pub returns-in_err-power_on : goal.returns-in_err-power_on
returns-in_err-power_on g c = λ handed.
    reads_exit_as (commands_step (board_of handed (debug_view c.args.job.now).run.part) (debug_view c.args.job.now)) (done_of handed)
    c.from_residual.result c.from_residual.ensures.1 c.in_err-power_on.ensures

pub returns-in_err-commands : goal.returns-in_err-commands
returns-in_err-commands g c = λ handed.
    reads_then (commands_step (board_of handed (debug_view c.args.job.now).run.part) (debug_view c.args.job.now)) _ c.in_ok-power_on.ensures
    (reads_exit_as (session_step (board_of handed (debug_view c.args.job.now).run.part) c.args.job.now.run.cycles (power_on_view c.in_ok-power_on.power_on)) (done_of handed)
    c.from_residual-in_err-commands.result c.from_residual-in_err-commands.ensures.1 c.in_err-commands.ensures)

pub returns : goal.returns
returns g c = λ handed.
    reads_then (commands_step (board_of handed (debug_view c.args.job.now).run.part) (debug_view c.args.job.now)) _ c.in_ok-power_on.ensures
    (reads_then (session_step (board_of handed (debug_view c.args.job.now).run.part) c.args.job.now.run.cycles (power_on_view c.in_ok-power_on.power_on)) _
    c.in_ok-commands.ensures (reads_none _ _))
