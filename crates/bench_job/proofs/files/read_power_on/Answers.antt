use Rattle.bench_words.specs.Jobs.{run_view}
use Rattle.chip_base.specs.Settings.{values_of}
use Rattle.bench_plan.proofs.Readings.{reads_then, reads_exit_as, reads_none}
use Rattle.bench_job.specs.Plans.{image_step, script_step, power_on_reading, power_on_view, settings_step}
use Rattle.bench_job.proofs.files.read_power_on.Goals as goal

pub returns-in_err-setup : goal.returns-in_err-setup
unfolding power_on_reading
returns-in_err-setup g c =
    reads_exit_as (settings_step (run_view c.args.job.now)) power_on_view c.from_residual.result c.from_residual.ensures.1 c.in_err-setup.ensures

pub returns-in_err-image : goal.returns-in_err-image
unfolding power_on_reading
returns-in_err-image g c =
    reads_then (settings_step (run_view c.args.job.now)) _ c.in_ok-setup.ensures
    (reads_exit_as (image_step (run_view c.args.job.now) (values_of c.in_ok-setup.setup)) power_on_view c.from_residual-in_err-image.result c.from_residual-in_err-image.ensures.1
    c.in_err-image.ensures.reads)

pub returns-in_err-script : goal.returns-in_err-script
unfolding power_on_reading
returns-in_err-script g c =
    reads_then (settings_step (run_view c.args.job.now)) _ c.in_ok-setup.ensures
    (reads_then (image_step (run_view c.args.job.now) (values_of c.in_ok-setup.setup)) _ c.in_ok-image.ensures.reads
    (reads_exit_as (script_step (run_view c.args.job.now) (values_of c.in_ok-setup.setup) c.in_ok-image.image.items) power_on_view c.from_residual-in_err-script.result
    c.from_residual-in_err-script.ensures.1 c.in_err-script.ensures))

pub returns : goal.returns
unfolding power_on_reading
returns g c =
    reads_then (settings_step (run_view c.args.job.now)) _ c.in_ok-setup.ensures
    (reads_then (image_step (run_view c.args.job.now) (values_of c.in_ok-setup.setup)) _ c.in_ok-image.ensures.reads
    (reads_then (script_step (run_view c.args.job.now) (values_of c.in_ok-setup.setup) c.in_ok-image.image.items) _ c.in_ok-script.ensures (reads_none _ _)))
