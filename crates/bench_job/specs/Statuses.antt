-- Definition: the statuses of a call, and what they say of its files.
use Rattle.std.specs.Prelude.{◌≡◌, ℕ, ◌⊎◌, List, [], Option, None, Some, Ok, Err}
use Rattle.command_text.specs.CommandFile.{commands_of}
use Rattle.bench_inputs.specs.Inputs.{boot_fault, imem_step, payload_fault, room_reading, settings_reading}
use Rattle.bench_inputs.specs.Lines.{command_text, image_fault_text}
use Rattle.bench_plan.specs.Calls.{Call, WritesText}
use Rattle.bench_plan.specs.Readings.{Reading, followed, gives}
use Rattle.bench_plan.specs.Steps.{Comes, IsRead}
use Rattle.bench_words.specs.Jobs.{Debug, Job, checks, debugs, demos, makes, run}
use Rattle.chip_whole.specs.Chip.{ChipState}
use Rattle.image_tool.specs.FirstFault.{image_fault}
use Rattle.image_tool.specs.declared.faults.ImageFault.{ImageFault}
use Rattle.bench_job.specs.Plans.{power_on_reading}

-- the statuses that there are
abbrev pub IsStatus : ℕ → Type 0
IsStatus s = (s ≡ 0) ⊎ ((s ≡ 2) ⊎ ((s ≡ 3) ⊎ ((s ≡ 4) ⊎ ((s ≡ 5) ⊎ ((s ≡ 6) ⊎ ((s ≡ 7) ⊎ ((s ≡ 9) ⊎ (s ≡ 10))))))))

-- the words ask for an image, which goes into the file of this name
abbrev pub IsOut : Option Job → List ℕ → Type 0
IsOut None name = ⊥
IsOut (Some (run job)) name = ⊥
IsOut (Some (debugs job)) name = ⊥
IsOut (Some (demos job)) name = ⊥
IsOut (Some (makes job)) name = name ≡ job.out
IsOut (Some (checks job)) name = ⊥

-- the name of the file that holds the image, or the payload of one; a demo has no file
abbrev pub image_name : Job → List ℕ
image_name (run job) = job.image
image_name (debugs job) = job.run.image
image_name (demos job) = []
image_name (makes job) = job.payload
image_name (checks job) = job.image

-- the bytes that there is room for
abbrev pub room_of : Job → Reading ℕ
room_of (run job) = followed (settings_reading job.chip) imem_step
room_of (debugs job) = followed (settings_reading job.run.chip) imem_step
room_of (demos job) = gives 0
room_of (makes job) = room_reading job.chip
room_of (checks job) = room_reading job.chip

-- what is wrong in that file: core 0 can't begin with it in the way of the run or the session; a payload, with zero bytes up to a multiple of four, is empty or
-- more than there is room for; an image that is checked fails a test
abbrev pub fault_in : Job → ℕ → List ℕ → Option ImageFault
fault_in (run job) room bytes = boot_fault job.boot room bytes
fault_in (debugs job) room bytes = boot_fault job.run.boot room bytes
fault_in (demos job) room bytes = None
fault_in (makes job) room bytes = payload_fault room bytes
fault_in (checks job) room bytes = image_fault room bytes

-- the image or the payload that was read has a fault, and the line tells it
pub record IsRefusedImage (job : Option Job) (c : Call) : Type 0 where
  pub asked : Job
  pub is_job : job ≡ Some asked
  pub room : ℕ
  pub bytes : List ℕ
  pub fault : ImageFault
  pub of_room : Comes c.before (room_of asked) (Ok room)
  pub is_read : IsRead c.before (image_name asked) 2097152 bytes
  pub faulty : fault_in asked room bytes ≡ Some fault
  pub text : WritesText (image_fault_text fault) c

-- the file of commands that was read has a faulty line, after the other files were accepted, and the line tells the first
pub record IsRefusedCommands (job : Option Job) (c : Call) : Type 0 where
  pub asked : Debug
  pub is_job : job ≡ Some (debugs asked)
  pub chip : ChipState
  pub bytes : List ℕ
  pub number : ℕ
  pub of_chip : Comes c.before (power_on_reading asked.run) (Ok chip)
  pub is_read : IsRead c.before asked.commands 65536 bytes
  pub faulty : commands_of bytes ≡ Err number
  pub text : WritesText (command_text number) c
