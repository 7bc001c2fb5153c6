-- Definition: what is read for a job, and what it is answered.
use Rattle.std.specs.Prelude.{ℕ, List, ◌++◌, length, drop, Option, Some, None, codes, decimal, option_map}
use Rattle.bench_debug.specs.Session.{debug_text}
use Rattle.command_text.specs.declared.command.Command.{Command}
use Rattle.bench_demo.specs.Demo.{demo_text}
use Rattle.bench_inputs.specs.Inputs.{commands_reading, image_reading, room_reading, script_reading, settings_reading, wrapped_reading}
use Rattle.bench_parts.specs.Attached.{HandedPart, attached}
use Rattle.bench_plan.specs.Answers.{Done}
use Rattle.bench_plan.specs.Readings.{Refusal, Reading, followed, gives, refuses}
use Rattle.bench_report.specs.Report.{report, shown}
use Rattle.bench_words.specs.Jobs.{Checking, Debug, Demo, Job, Making, Run, checks, debugs, demos, makes, run}
use Rattle.chip_base.specs.Settings.{Values, values_of}
use Rattle.chip_base.specs.declared.boot.Boot.TheVariants.{Direct}
use Rattle.chip_base.specs.declared.script.Script.{Script}
use Rattle.chip_whole.specs.Chip.{Board, ChipState, after, start}
use Rattle.image_tool.specs.Image.{checksum}
use Rattle.soc_words.specs.Text.{hex_word, line}
use Rattle.bench_job.specs.declared.deed.Deed.{Deed}
use Rattle.bench_job.specs.declared.deed.Deed.TheVariants.{Line, Report, Write, Debug as DebugDeed, Demo as DemoDeed}
use Rattle.bench_job.specs.declared.power_on.PowerOn.{PowerOn}

unfoldable pub usage_text : List ℕ
usage_text = line (codes "error usage")

abbrev pub usage_refusal : Refusal
usage_refusal = record { status = 2; text = usage_text }

abbrev pub script_step : Run → Values → List ℕ → Script → Reading ChipState
script_step job v image script = gives (start v job.boot image script)

abbrev pub image_step : Run → Values → List ℕ → Reading ChipState
image_step job v image = followed (script_reading job.script) (script_step job v image)

abbrev pub settings_step : Run → Values → Reading ChipState
settings_step job v = followed (image_reading job.boot v.imem job.image) (image_step job v)

-- the chip at power-on: first the chip file is read, then the image, then the script
unfoldable pub power_on_reading : Run → Reading ChipState
power_on_reading job = followed (settings_reading job.chip) (settings_step job)

-- the part that is attached, of those that are handed in
abbrev pub board_of : List HandedPart → Option (List ℕ) → Board
board_of parts name = record { part = attached parts name }

-- the report of a chip after this many cycles, with this many of its last issues
abbrev pub report_done : Board → ChipState → ℕ → ℕ → Done
report_done board chip cycles trace = record { text = report (shown (after board chip cycles) cycles trace); out = None }

abbrev pub report_step : Board → ℕ → ℕ → ChipState → Reading Done
report_step board cycles trace chip = gives (report_done board chip cycles trace)

-- a run from power-on
abbrev pub run_plan : List HandedPart → Run → Reading Done
run_plan parts job = followed (power_on_reading job) (report_step (board_of parts job.part) job.cycles job.trace)

-- a session of the debugger over a chip, up to a bound, by its commands
abbrev pub session_done : Board → ChipState → ℕ → List Command → Done
session_done board chip bound commands = record { text = debug_text board chip bound commands; out = None }

abbrev pub session_step : Board → ℕ → ChipState → List Command → Reading Done
session_step board bound chip commands = gives (session_done board chip bound commands)

abbrev pub commands_step : Board → Debug → ChipState → Reading Done
commands_step board job chip = followed (commands_reading job.commands) (session_step board job.run.cycles chip)

-- a session over the chip at power-on: its commands are read last
abbrev pub debug_plan : List HandedPart → Debug → Reading Done
debug_plan parts job = followed (power_on_reading job.run) (commands_step (board_of parts job.run.part) job)

-- the demo of a number
abbrev pub demo_done : ℕ → Done
demo_done number = record { text = demo_text number; out = None }

-- no file is read
abbrev pub demo_plan : Demo → Reading Done
demo_plan job = gives (demo_done job.number)

-- the line of an image with this payload: the payload's length in bytes, and the checksum word
unfoldable pub image_text : List ℕ → List ℕ
image_text payload = line (codes "image " ++ decimal (length payload) ++ codes " " ++ hex_word (checksum payload))

-- the line of an image, whose payload stands behind twelve bytes
abbrev pub told_image : List ℕ → List ℕ
told_image image = image_text (drop 12 image)

-- the image of a payload is made in a file
abbrev pub making_step : Making → List ℕ → Reading Done
making_step job image = gives (record { text = told_image image; out = Some (record { name = job.out; bytes = image }) })

abbrev pub making_room : Making → ℕ → Reading Done
making_room job room = followed (wrapped_reading room job.payload) (making_step job)

-- first the chip file is read, where one is named, and then the payload
abbrev pub making_plan : Making → Reading Done
making_plan job = followed (room_reading job.chip) (making_room job)

-- an image is told
abbrev pub checking_step : List ℕ → Reading Done
checking_step image = gives (record { text = told_image image; out = None })

abbrev pub checking_room : Checking → ℕ → Reading Done
checking_room job room = followed (image_reading Direct room job.image) checking_step

-- first the chip file is read, where one is named, and then the image
abbrev pub checking_plan : Checking → Reading Done
checking_plan job = followed (room_reading job.chip) (checking_room job)

abbrev pub job_plan : List HandedPart → Job → Reading Done
job_plan parts (run job) = run_plan parts job
job_plan parts (debugs job) = debug_plan parts job
job_plan parts (demos job) = demo_plan job
job_plan parts (makes job) = making_plan job
job_plan parts (checks job) = checking_plan job

-- the plan of what the words ask for, with the parts that are handed in
abbrev pub plan_of : List HandedPart → Option Job → Reading Done
plan_of parts None = refuses usage_refusal
plan_of parts (Some job) = job_plan parts job

-- the chip at power-on that a power_on stands for
abbrev pub power_on_view : PowerOn → ChipState
power_on_view s = start (values_of s.setup) s.boot s.image.items s.script

-- what a deed comes to, with the parts that are handed in
abbrev pub done_of : List HandedPart → Deed → Done
done_of parts (Line text) = record { text = text; out = None }
done_of parts (Write name bytes text) = record { text = text; out = Some (record { name = name.now; bytes = bytes.items }) }
done_of parts (Report power_on groups cycles part trace) = report_done (board_of parts (option_map (λ s. s.now) part)) (power_on_view power_on) cycles trace
done_of parts (DebugDeed power_on groups bound part commands) = session_done (board_of parts (option_map (λ s. s.now) part)) (power_on_view power_on) bound commands
done_of parts (DemoDeed number groups) = demo_done number
