-- Definition: the job that the words of the command line give, if they give one.
use Rattle.std.specs.Prelude.{ℕ, ◌-◌, ◌^◌, List, [], ◌∷◌, Option, Some, None, codes, if◌then◌else◌, option_and_then, option_map}
use Rattle.std.specs.List.{list_any}
use Rattle.std.specs.Str.{bytes_eq}
use Rattle.clap.specs.Walk.{Row, Text}
use Rattle.clap.specs.Words.{first_of}
use Rattle.chip_base.specs.Groups.{groups_of}
use Rattle.chip_base.specs.declared.boot.Boot.{Boot}
use Rattle.chip_base.specs.declared.boot.Boot.TheVariants.{Monitor, Direct, Raw}
use Rattle.text_fields.specs.Numbers.{number_of}
use Rattle.bench_words.specs.Apps.{check_app, debug_app, demo_app, image_app, rows_taken, run_app}
use Rattle.bench_words.specs.declared.job.CheckJob.{CheckJob}
use Rattle.bench_words.specs.declared.job.DebugJob.{DebugJob}
use Rattle.bench_words.specs.declared.job.DemoJob.{DemoJob}
use Rattle.bench_words.specs.declared.job.ImageJob.{ImageJob}
use Rattle.bench_words.specs.declared.job.Job.{Job as JobRead}
use Rattle.bench_words.specs.declared.job.Job.TheVariants.{Run as RunRead, Debug as DebugRead, Demo as DemoRead, Image as ImageRead, Check as CheckRead}
use Rattle.bench_words.specs.declared.job.RunJob.{RunJob}

-- a run: its file, its cycles, the way to start, the files of the chip and of the script where they are named, the group of each lane, the
-- name of the part where one is asked for, and the most issues that its report tells
pub record Run : Type 0 where
  pub image : Text
  pub cycles : ℕ
  pub boot : Boot
  pub chip : Option Text
  pub script : Option Text
  pub groups : List ℕ
  pub part : Option Text
  pub trace : ℕ

-- a session of the debugger: the run that it goes through, the cycles of which are its bound, and the file of its commands
pub record Debug : Type 0 where
  pub run : Run
  pub commands : Text

-- a demo: its number, and the group of each lane
pub record Demo : Type 0 where
  pub number : ℕ
  pub groups : List ℕ

-- the making of an image: the file of its payload, the file that it is written to, the file of the chip where it is named
pub record Making : Type 0 where
  pub payload : Text
  pub out : Text
  pub chip : Option Text

-- the check of an image: its file, the file of the chip where it is named
pub record Checking : Type 0 where
  pub image : Text
  pub chip : Option Text

pub data Job : Type 0 where
  run : Run → Job
  debugs : Debug → Job
  demos : Demo → Job
  makes : Making → Job
  checks : Checking → Job

-- one to ten decimal digits of a value below 2 ^ 32
abbrev pub u32_of : Text → Option ℕ
u32_of text = number_of 10 (2 ^ 32 - 1) text

-- the way to start of this name
abbrev pub boot_named : Text → Option Boot
boot_named text =
    if bytes_eq text (codes "monitor") then Some Monitor
    else (if bytes_eq text (codes "direct") then Some Direct
    else (if bytes_eq text (codes "raw") then Some Raw else None))

-- the way to start that is named, or the boot monitor
abbrev pub boot_or_monitor : Option Text → Option Boot
boot_or_monitor None = Some Monitor
boot_or_monitor (Some text) = boot_named text

-- the groups that are named, or one of all lanes
abbrev pub groups_or_all : Option Text → Option (List ℕ)
groups_or_all None = groups_of (codes "all")
groups_or_all (Some text) = groups_of text

-- the part that is asked for, by the names of the parts that were handed in: it must be one of them
abbrev pub part_named : List Text → Option Text → Option (Option Text)
part_named names None = Some None
part_named names (Some name) = if list_any (λ n. bytes_eq n name) names then Some (Some name) else None

-- the number of issues that is asked for: one to four decimal digits of at most 1,000, and none where it isn't named
abbrev pub trace_or_none : Option Text → Option ℕ
trace_or_none None = Some 0
trace_or_none (Some text) = number_of 4 1000 text

-- the run, by the names of the parts that were handed in, from what was found for each argument
unfoldable pub run_from : List Text → Option Text → Option Text → Option Text → Option Text → Option Text → Option Text → Option Text → Option Text
    → Option Run
run_from names image cycles boot chip script groups part trace =
    option_and_then (λ b. option_and_then (λ i. option_and_then (λ n. option_and_then (λ g. option_and_then (λ p. option_and_then (λ t. Some (record {
      image = i;
      cycles = n;
      boot = b;
      chip = chip;
      script = script;
      groups = g;
      part = p;
      trace = t;
    })) (trace_or_none trace)) (part_named names part)) (groups_or_all groups)) (option_and_then u32_of cycles)) image) (boot_or_monitor boot)

-- the run with this number of issues, from all else that was found
abbrev pub run_with : List Text → Option Text → List Row → Option Run
run_with names trace rows = run_from names (first_of (codes "IMAGE") rows) (first_of (codes "CYCLES") rows) (first_of (codes "boot") rows)
    (first_of (codes "chip") rows) (first_of (codes "script") rows) (first_of (codes "groups") rows) (first_of (codes "part") rows) trace

-- the run, from all that was found
abbrev pub run_of : List Text → List Row → Option Run
run_of names rows = run_with names (first_of (codes "trace") rows) rows

-- the debugger's session, from its run and its file of commands
unfoldable pub debug_from : Option Run → Option Text → Option Debug
debug_from told commands = option_and_then (λ r. option_and_then (λ c. Some (record { run = r; commands = c })) commands) told

-- the debugger's session, from all that was found: its run has no trace
abbrev pub debug_of : List Text → List Row → Option Debug
debug_of names rows = debug_from (run_with names None rows) (first_of (codes "COMMANDS") rows)

-- the demo, from what was found for each argument
unfoldable pub demo_from : Option Text → Option Text → Option Demo
demo_from number groups =
    option_and_then (λ n. option_and_then (λ g. Some (record { number = n; groups = g })) (groups_or_all groups)) (option_and_then u32_of number)

abbrev pub demo_of : List Row → Option Demo
demo_of rows = demo_from (first_of (codes "NUMBER") rows) (first_of (codes "groups") rows)

-- the making of an image, from what was found for each argument
unfoldable pub making_from : Option Text → Option Text → Option Text → Option Making
making_from payload out chip = option_and_then (λ p. option_and_then (λ o. Some (record {
  payload = p;
  out = o;
  chip = chip;
})) out) payload

abbrev pub making_of : List Row → Option Making
making_of rows = making_from (first_of (codes "PAYLOAD") rows) (first_of (codes "OUT") rows) (first_of (codes "chip") rows)

-- the check of an image, from what was found for each argument
unfoldable pub checking_from : Option Text → Option Text → Option Checking
checking_from image chip = option_and_then (λ i. Some (record { image = i; chip = chip })) image

abbrev pub checking_of : List Row → Option Checking
checking_of rows = checking_from (first_of (codes "IMAGE") rows) (first_of (codes "chip") rows)

-- the jobs of the words of each command, its name among them
abbrev pub run_job : List Text → List Text → Option Run
run_job names words = option_and_then (run_of names) (rows_taken run_app words)

abbrev pub debug_job : List Text → List Text → Option Debug
debug_job names words = option_and_then (debug_of names) (rows_taken debug_app words)

abbrev pub demo_job : List Text → Option Demo
demo_job words = option_and_then demo_of (rows_taken demo_app words)

abbrev pub making_job : List Text → Option Making
making_job words = option_and_then making_of (rows_taken image_app words)

abbrev pub checking_job : List Text → Option Checking
checking_job words = option_and_then checking_of (rows_taken check_app words)

-- the job of these words, by the names of the parts that were handed in and the command's name
abbrev pub job_named : List Text → Text → List Text → Option Job
job_named names name words =
    if bytes_eq name (codes "run") then option_map run (run_job names words)
    else (if bytes_eq name (codes "image") then option_map makes (making_job words)
    else (if bytes_eq name (codes "check") then option_map checks (checking_job words)
    else (if bytes_eq name (codes "debug") then option_map debugs (debug_job names words)
    else (if bytes_eq name (codes "demo") then option_map demos (demo_job words) else None))))

-- the job of the words after the program's name, the first of which names a command, by the names of the parts that were handed in
unfoldable pub job_of : List Text → List Text → Option Job
job_of names [] = None
job_of names (name ∷ rest) = job_named names name (name ∷ rest)

-- what a job that was read stands for
abbrev pub run_view : RunJob → Run
run_view job = record {
  image = job.image.now;
  cycles = job.cycles;
  boot = job.boot;
  chip = option_map (λ s. s.now) job.chip;
  script = option_map (λ s. s.now) job.script;
  groups = job.groups.of;
  part = option_map (λ s. s.now) job.part;
  trace = job.trace;
}

abbrev pub debug_view : DebugJob → Debug
debug_view job = record { run = run_view job.run; commands = job.commands.now }

abbrev pub demo_view : DemoJob → Demo
demo_view job = record { number = job.number; groups = job.groups.of }

abbrev pub making_view : ImageJob → Making
making_view job = record { payload = job.payload.now; out = job.out.now; chip = option_map (λ s. s.now) job.chip }

abbrev pub checking_view : CheckJob → Checking
checking_view job = record { image = job.image.now; chip = option_map (λ s. s.now) job.chip }

abbrev pub job_view : JobRead → Job
job_view (RunRead job) = run (run_view job)
job_view (DebugRead job) = debugs (debug_view job)
job_view (DemoRead job) = demos (demo_view job)
job_view (ImageRead job) = makes (making_view job)
job_view (CheckRead job) = checks (checking_view job)
