-- A definition, for the contracts of code: the kinds of commands.
use Rattle.std.specs.Prelude.{List, Option, Some, None, codes, if◌then◌else◌, option_and_then, option_map}
use Rattle.std.specs.Str.{bytes_eq}
use Rattle.clap.specs.Walk.{Row, Text}
use Rattle.clap.specs.Simple.{App}
use Rattle.bench_words.specs.Apps.{check_app, debug_app, demo_app, image_app, rows_taken, run_app}
use Rattle.bench_words.specs.Jobs.{Job, checking_of, checks, debug_of, debugs, demo_of, demos, makes, making_of, run, run_of}
use Rattle.bench_words.specs.declared.kind.JobKind.{JobKind}
use Rattle.bench_words.specs.declared.kind.JobKind.TheVariants.{Run, Debug, Demo, Image, Check}

-- the kind of the command of this name
abbrev pub kind_named : Text → Option JobKind
kind_named name =
    if bytes_eq name (codes "run") then Some Run
    else (if bytes_eq name (codes "image") then Some Image
    else (if bytes_eq name (codes "check") then Some Check
    else (if bytes_eq name (codes "debug") then Some Debug
    else (if bytes_eq name (codes "demo") then Some Demo else None))))

-- the command of a kind
abbrev pub app_of_kind : JobKind → App
app_of_kind Run = run_app
app_of_kind Debug = debug_app
app_of_kind Demo = demo_app
app_of_kind Image = image_app
app_of_kind Check = check_app

-- the job of what was found in the words of a command of a kind, by the names of the parts that were handed in
abbrev pub job_found : List Text → JobKind → List Row → Option Job
job_found names Run rows = option_map run (run_of names rows)
job_found names Debug rows = option_map debugs (debug_of names rows)
job_found names Demo rows = option_map demos (demo_of rows)
job_found names Image rows = option_map makes (making_of rows)
job_found names Check rows = option_map checks (checking_of rows)

-- the job of the words of a command of a kind, its name among them
abbrev pub job_of_kind : List Text → JobKind → List Text → Option Job
job_of_kind names kind words = option_and_then (job_found names kind) (rows_taken (app_of_kind kind) words)
