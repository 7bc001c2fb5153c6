-- What the statuses of a call say.
use Rattle.std.proofs.Common.{◌≡◌, ◌≢◌, ℕ, arith, inl, inr, Bool, true, false, List, Option, Some, None, Result, Ok, Err, refl, ap, sym, subst, ◌∙◌}
use Rattle.std.specs.Prelude.{◌⊎◌, ◌==◌, IsTrue}
use Rattle.std.proofs.lemmas.Bool.Decides.{Decides-eqb}
use Rattle.command_text.specs.declared.command.Command.{Command}
use Rattle.bench_inputs.specs.Inputs.{boot_fault, commands_reading, image_reading, imem_step, payload_fault, room_reading, settings_reading, script_reading, wrapped_reading}
use Rattle.bench_inputs.specs.Lines.{image_refusal}
use Rattle.bench_inputs.proofs.Ends.{Any, HasStatus, commands_ends, commands_refusal, file_refusal, image_ends, room_ends, script_ends, settings_ends, wrapped_ends}
use Rattle.bench_parts.specs.Attached.{HandedPart}
use Rattle.bench_plan.specs.Answers.{Done, File, ended, refused}
use Rattle.bench_plan.specs.Calls.{Call, Tells, WritesText}
use Rattle.bench_plan.specs.Ends.{Ends}
use Rattle.bench_plan.specs.Keeps.{IsTold, Keeps, MayMake}
use Rattle.bench_plan.specs.Readings.{Refusal, Reading, followed, gives}
use Rattle.bench_plan.specs.Steps.{Comes, IsRead}
use Rattle.bench_plan.proofs.Ends.{comes_ends, comes_split, ends_then, ends_weaker, keeps_refuses}
use Rattle.bench_plan.proofs.Keeping.{answers_from}
use Rattle.bench_plan.proofs.Readings.{comes_then}
use Rattle.bench_shelf.specs.Held.{Held}
use Rattle.bench_words.specs.Jobs.{Checking, Debug, Demo, Job, Making, Run, checks, debugs, demos, makes, run}
use Rattle.soc_words.specs.Causes.{Rose}
use Rattle.chip_base.specs.Settings.{Values}
use Rattle.chip_base.specs.declared.boot.Boot.TheVariants.{Direct}
use Rattle.chip_whole.specs.Chip.{Board, ChipState}
use Rattle.image_tool.specs.Image.{image_of, padded}
use Rattle.image_tool.specs.declared.faults.ImageFault.{ImageFault}
use Rattle.bench_job.specs.Plans.{board_of, checking_plan, checking_room, checking_step, commands_step, debug_plan, demo_plan, image_step, job_plan, making_plan, making_room, making_step, plan_of, power_on_reading, report_step, run_plan, session_step, settings_step, usage_refusal}
use Rattle.bench_job.specs.Statuses.{IsOut, IsRefusedCommands, IsRefusedImage, IsStatus, fault_in, image_name, room_of}

-- the statuses of refused files
abbrev IsFileStatus : ℕ → Type 0
IsFileStatus s = (s ≡ 4) ⊎ ((s ≡ 5) ⊎ (s ≡ 6))

-- and with those of a file of commands
abbrev IsJobStatus : ℕ → Type 0
IsJobStatus s = IsFileStatus s ⊎ (s ≡ 10)

-- the refusals of an image or a payload, a script and a chip file
abbrev IsFileFault : Refusal → Type 0
IsFileFault f = IsFileStatus f.status

-- the refusals of a job
abbrev IsJobFault : Refusal → Type 0
IsJobFault f = IsJobStatus f.status

-- a file that is made is the one that the words ask for
abbrev MakesOut : Option Job → Done → Type 0
MakesOut job d = (f : File) → d.out ≡ Some f → IsOut job f.name

none_some : {A : Type 0} {f : File} → ◌≡◌ {A = Option File} None (Some f) → A
none_some e = absurd (cc)

some_same : {f g : File} → ◌≡◌ {A = Option File} (Some f) (Some g) → f ≡ g
some_same e = cc

err_same : {A : Type 0} {a b : Refusal} → ◌≡◌ {A = Result A Refusal} (Err a) (Err b) → a ≡ b
err_same e = cc

image_step_ends : (job : Run) (v : Values) (image : List ℕ) → Ends Any IsFileFault (image_step job v image)
image_step_ends job v image = ends_then Any Any IsFileFault (script_reading job.script) _ (ends_weaker Any Any (HasStatus 5) IsFileFault (script_reading job.script) (λ a u. tt) (λ f e. inr (inl e)) (script_ends job.script))
    (λ script u. tt)

settings_step_ends : (job : Run) (v : Values) → Ends Any IsFileFault (settings_step job v)
settings_step_ends job v = ends_then Any Any IsFileFault (image_reading job.boot v.imem job.image) _
    (ends_weaker Any Any (HasStatus 4) IsFileFault (image_reading job.boot v.imem job.image) (λ a u. tt) (λ f e. inl e) (image_ends job.boot v.imem job.image)) (λ image u. image_step_ends job v image)

power_on_ends : (job : Run) → Ends Any IsFileFault (power_on_reading job)
unfolding power_on_reading
power_on_ends job = ends_then Any Any IsFileFault (settings_reading job.chip) _
    (ends_weaker Any Any (HasStatus 6) IsFileFault (settings_reading job.chip) (λ a u. tt) (λ f e. inr (inr e)) (settings_ends job.chip)) (λ v u. settings_step_ends job v)

run_ends : (parts : List HandedPart) (job : Run) → Ends (MakesOut (Some (run job))) IsFileFault (run_plan parts job)
run_ends parts job = ends_then Any (MakesOut (Some (run job))) IsFileFault (power_on_reading job) (report_step (board_of parts job.part) job.cycles job.trace) (power_on_ends job) (λ chip u. λ f e. none_some e)

making_ends : (job : Making) → Ends (MakesOut (Some (makes job))) IsFileFault (making_plan job)
making_ends job = ends_then Any (MakesOut (Some (makes job))) IsFileFault (room_reading job.chip) (making_room job)
    (ends_weaker Any Any (HasStatus 6) IsFileFault (room_reading job.chip) (λ a u. tt) (λ f e. inr (inr e)) (room_ends job.chip))
    (λ room u. ends_then Any (MakesOut (Some (makes job))) IsFileFault (wrapped_reading room job.payload) (making_step job)
    (ends_weaker Any Any (HasStatus 4) IsFileFault (wrapped_reading room job.payload) (λ a u. tt) (λ f e. inl e) (wrapped_ends room job.payload))
    (λ image u. λ f e. ap (λ (g : File). g.name) (sym (some_same e))))

checking_ends : (job : Checking) → Ends (MakesOut (Some (checks job))) IsFileFault (checking_plan job)
checking_ends job = ends_then Any (MakesOut (Some (checks job))) IsFileFault (room_reading job.chip) (checking_room job)
    (ends_weaker Any Any (HasStatus 6) IsFileFault (room_reading job.chip) (λ a u. tt) (λ f e. inr (inr e)) (room_ends job.chip))
    (λ room u. ends_then Any (MakesOut (Some (checks job))) IsFileFault (image_reading Direct room job.image) checking_step
    (ends_weaker Any Any (HasStatus 4) IsFileFault (image_reading Direct room job.image) (λ a u. tt) (λ f e. inl e) (image_ends Direct room job.image))
    (λ image u. λ f e. none_some e))

debug_ends : (parts : List HandedPart) (job : Debug) → Ends (MakesOut (Some (debugs job))) IsJobFault (debug_plan parts job)
debug_ends parts job = ends_then Any (MakesOut (Some (debugs job))) IsJobFault (power_on_reading job.run) (commands_step (board_of parts job.run.part) job)
    (ends_weaker Any Any IsFileFault IsJobFault (power_on_reading job.run) (λ a u. tt) (λ f e. inl e) (power_on_ends job.run))
    (λ chip u. ends_then Any (MakesOut (Some (debugs job))) IsJobFault (commands_reading job.commands) (session_step (board_of parts job.run.part) job.run.cycles chip)
    (ends_weaker Any Any (HasStatus 10) IsJobFault (commands_reading job.commands) (λ a u. tt) (λ f e. inr e) (commands_ends job.commands))
    (λ commands u. λ f e. none_some e))

-- the refusals of a job without a file of commands are those of its other files
of_files : (job : Job) (plan : Reading Done) → Ends (MakesOut (Some job)) IsFileFault plan → Ends (MakesOut (Some job)) IsJobFault plan
of_files job plan e = ends_weaker (MakesOut (Some job)) (MakesOut (Some job)) IsFileFault IsJobFault plan (λ d m. m) (λ f e. inl e) e

job_ends : (parts : List HandedPart) (job : Job) → Ends (MakesOut (Some job)) IsJobFault (job_plan parts job)
job_ends parts (run job) = of_files (run job) (run_plan parts job) (run_ends parts job)
job_ends parts (debugs job) = debug_ends parts job
job_ends parts (demos job) = λ f e. none_some e
job_ends parts (makes job) = of_files (makes job) (making_plan job) (making_ends job)
job_ends parts (checks job) = of_files (checks job) (checking_plan job) (checking_ends job)

plan_ends : (parts : List HandedPart) (job : Option Job) → Ends (MakesOut job) (λ f. Unit {0}) (plan_of parts job)
plan_ends parts None = tt
plan_ends parts (Some job) = ends_weaker (MakesOut (Some job)) (MakesOut (Some job)) IsJobFault (λ f. Unit {0}) (job_plan parts job) (λ d e. e) (λ f e. tt) (job_ends parts job)

-- the only file that may be made
out_only : (parts : List HandedPart) (job : Option Job) (c : Call) (q : List ℕ) → MayMake (plan_of parts job) c q → IsOut job q
out_only parts job c q m = subst (IsOut job) (sym m.4) (comes_ends (MakesOut job) (λ f. Unit {0}) c.before (plan_of parts job) (Ok m.0) (plan_ends parts job) m.2 m.1 m.3)

-- 7 comes only where the sink failed, or the write of the image's file
pub failed : (parts : List HandedPart) (job : Option Job) (c : Call) → Keeps (plan_of parts job) c → c.status ≡ 7
    → Rose c.sink_faults c.sink_faults_after ⊎ ((name : List ℕ) × IsOut job name × Rose c.before.write_faults c.after.write_faults)
failed parts job c k seven = elim (k.write seven) [ inl rose ↦ inl rose | inr made ↦ inr (made.0, out_only parts job c made.0 made.1, made.2) ]

-- told whole where nothing failed
pub told_whole : (parts : List HandedPart) (job : Option Job) (c : Call) → Keeps (plan_of parts job) c → IsTrue c.before.discloses
    → (Rose c.before.read_faults c.after.read_faults → ⊥) → ((name : List ℕ) → IsOut job name → Rose c.before.write_faults c.after.write_faults → ⊥)
    → (Rose c.sink_faults c.sink_faults_after → ⊥) → IsTold (plan_of parts job) c
told_whole parts job c k discloses reads writes sink_faults =
    k.complete discloses (record { reads = reads; writes = λ name may. writes name (out_only parts job c name may); sink_faults = sink_faults })

-- no write fails where no file is made
pub quiet : (parts : List HandedPart) (job : Option Job) (c : Call) → Keeps (plan_of parts job) c → ((name : List ℕ) → IsOut job name → ⊥) → c.after.write_faults ≡ c.before.write_faults
quiet parts job c k none = k.no_writes (λ q may. none q (out_only parts job c q may))

-- every other file stays
pub still : (parts : List HandedPart) (job : Option Job) (c : Call) → Keeps (plan_of parts job) c → (q : List ℕ) → (IsOut job q → ⊥) → c.after.file q ≡ c.before.file q
still parts job c k q other = k.others q (λ may. other (out_only parts job c q may))

-- no job
pub no_job : (parts : List HandedPart) (job : Option Job) (c : Call) → Keeps (plan_of parts job) c → job ≡ None → (c.after.read_faults ≡ c.before.read_faults) × Tells (refused usage_refusal) c
no_job parts job c k none = keeps_refuses usage_refusal c (λ e. absurd (cc)) (λ e. absurd (cc)) (λ e. absurd (cc)) (λ e. absurd (cc)) (subst (λ j. Keeps (plan_of parts j) c) none k)

-- a status other than 3, 7 and 9 is that of what the plan comes to
end_status : (plan : Reading Done) (c : Call) → Keeps plan c → c.status ≢ 3 → c.status ≢ 7 → c.status ≢ 9
    → (r : Result Done Refusal) × Comes c.before plan r × (c.status ≡ (ended r).status) × Tells (ended r) c
end_status plan c k three seven nine =
    let r = k.ran three nine in
    (r.end, r.comes, elim r.tells.statuses [ inl e ↦ e | inr other ↦ elim other [ inl e ↦ absurd (nine e) | inr e ↦ absurd (seven e.1) ] ], r.tells)

job_status : (parts : List HandedPart) (job : Job) (h : Held) (r : Result Done Refusal) → Comes h (job_plan parts job) r → ((ended r).status ≡ 0) ⊎ IsJobStatus (ended r).status
job_status parts job h (Ok d) c = inl refl
job_status parts job h (Err f) c = inr (comes_ends (MakesOut (Some job)) IsJobFault h (job_plan parts job) (Err f) (job_ends parts job) c)

pub usage_only : (parts : List HandedPart) (job : Option Job) (c : Call) → Keeps (plan_of parts job) c → c.status ≡ 2 → job ≡ None
usage_only parts None c k two = refl
usage_only parts (Some job) c k two =
    let r = end_status (job_plan parts job) c k (λ e. absurd (grind (arith, two, e))) (λ e. absurd (grind (arith, two, e))) (λ e. absurd (grind (arith, two, e))) in
    elim (job_status parts job c.before r.0 r.1) [
      | inl e ↦ absurd (grind (arith, two, r.2, e))
      | inr x ↦ absurd (not_two (ended r.0).status x (sym r.2 ∙ two))
    ]
  where
    not_two : (s : ℕ) → IsJobStatus s → s ≡ 2 → ⊥
    not_two s (inl (inl e)) two = grind (arith, e, two)
    not_two s (inl (inr (inl e))) two = grind (arith, e, two)
    not_two s (inl (inr (inr e))) two = grind (arith, e, two)
    not_two s (inr e) two = grind (arith, e, two)

-- equal or not
decided : (m n : ℕ) → (m ≡ n) ⊎ (m ≢ n)
decided m n = by_test (m == n) refl
  where
    true_false : true ≡ false → ⊥
    true_false x = absurd (cc)

    by_test : (b : Bool) → (m == n) ≡ b → (m ≡ n) ⊎ (m ≢ n)
    by_test true e = inl ((Decides-eqb m n).0 e)
    by_test false e = inr (λ same. true_false (sym ((Decides-eqb m n).1 same) ∙ e))

end_statuses : (parts : List HandedPart) (job : Option Job) (c : Call) → Keeps (plan_of parts job) c → c.status ≢ 3 → c.status ≢ 7 → c.status ≢ 9 → IsStatus c.status
end_statuses parts None c k three seven nine = elim (no_job parts None c k refl).1.statuses [
  | inl e ↦ inr (inl e)
  | inr other ↦ elim other [ inl e ↦ absurd (nine e) | inr e ↦ absurd (seven e.1) ]
]
end_statuses parts (Some job) c k three seven nine =
    let r = end_status (job_plan parts job) c k three seven nine in
    elim (job_status parts job c.before r.0 r.1) [
      | inl e ↦ inl (r.2 ∙ e)
      | inr x ↦ subst IsStatus (sym r.2) (of_job (ended r.0).status x)
    ]
  where
    of_job : (s : ℕ) → IsJobStatus s → IsStatus s
    of_job s (inl (inl e)) = inr (inr (inr (inl e)))
    of_job s (inl (inr (inl e))) = inr (inr (inr (inr (inl e))))
    of_job s (inl (inr (inr e))) = inr (inr (inr (inr (inr (inl e)))))
    of_job s (inr e) = inr (inr (inr (inr (inr (inr (inr (inr e)))))))

pub statuses : (parts : List HandedPart) (job : Option Job) (c : Call) → Keeps (plan_of parts job) c → IsStatus c.status
statuses parts job c k = elim (decided c.status 3) [
  | inl e ↦ inr (inr (inl e))
  | inr three ↦ elim (decided c.status 7) [
    | inl e ↦ inr (inr (inr (inr (inr (inr (inl e))))))
    | inr seven ↦ elim (decided c.status 9) [ inl e ↦ inr (inr (inr (inr (inr (inr (inr (inl e))))))) | inr nine ↦ end_statuses parts job c k three seven nine ]
  ]
]

-- 4 comes of the image alone: of a chip at power-on
power_on_image : (job : Run) (h : Held) (f : Refusal) → Comes h (power_on_reading job) (Err f) → f.status ≡ 4
    → (v : Values) × Comes h (settings_reading job.chip) (Ok v) × Comes h (image_reading job.boot v.imem job.image) (Err f)
unfolding power_on_reading
power_on_image job h f c four = by_settings (comes_split h (settings_reading job.chip) (settings_step job) (Err f) c)
  where
    by_image : (v : Values) → Comes h (settings_reading job.chip) (Ok v)
        → ((e : Refusal) × (◌≡◌ {A = Result ChipState Refusal} (Err f) (Err e)) × Comes h (image_reading job.boot v.imem job.image) (Err e))
        ⊎ ((image : List ℕ) × Comes h (image_reading job.boot v.imem job.image) (Ok image) × Comes h (image_step job v image) (Err f))
        → (v : Values) × Comes h (settings_reading job.chip) (Ok v) × Comes h (image_reading job.boot v.imem job.image) (Err f)
    by_image v s (inl x) = (v, s, subst (λ e. Comes h (image_reading job.boot v.imem job.image) (Err e)) (sym (err_same x.1)) x.2)
    by_image v s (inr x) = absurd (grind (arith, four, image_step_status x.2))
      where
        image_step_status : Comes h (image_step job v x.0) (Err f) → f.status ≡ 5
        image_step_status k = comes_ends Any (HasStatus 5) h (image_step job v x.0) (Err f)
            (ends_then Any Any (HasStatus 5) (script_reading job.script) _ (script_ends job.script) (λ script u. tt)) k

    by_settings : ((e : Refusal) × (◌≡◌ {A = Result ChipState Refusal} (Err f) (Err e)) × Comes h (settings_reading job.chip) (Err e))
        ⊎ ((v : Values) × Comes h (settings_reading job.chip) (Ok v) × Comes h (settings_step job v) (Err f))
        → (v : Values) × Comes h (settings_reading job.chip) (Ok v) × Comes h (image_reading job.boot v.imem job.image) (Err f)
    by_settings (inl x) = absurd (grind (arith, four, comes_ends Any (HasStatus 6) h (settings_reading job.chip) (Err x.0) (settings_ends job.chip) x.2, ap (λ e. e.status) (err_same x.1)))
    by_settings (inr x) = by_image x.0 x.1 (comes_split h (image_reading job.boot x.0.imem job.image) (image_step job x.0) (Err f) x.2)

-- where more follows upon the chip at power-on, a refusal with another status is that of the power-on
of_power_on : (job : Run) (next : ChipState → Reading Done) (Q : Refusal → Type 0) (h : Held) (f : Refusal)
    → ((chip : ChipState) → Ends (λ d. Unit {0}) Q (next chip)) → Comes h (followed (power_on_reading job) next) (Err f) → (Q f → ⊥)
    → Comes h (power_on_reading job) (Err f)
of_power_on job next Q h f ends c other = by_power_on (comes_split h (power_on_reading job) next (Err f) c)
  where
    by_power_on : ((e : Refusal) × (◌≡◌ {A = Result Done Refusal} (Err f) (Err e)) × Comes h (power_on_reading job) (Err e))
        ⊎ ((chip : ChipState) × Comes h (power_on_reading job) (Ok chip) × Comes h (next chip) (Err f)) → Comes h (power_on_reading job) (Err f)
    by_power_on (inl x) = subst (λ e. Comes h (power_on_reading job) (Err e)) (sym (err_same x.1)) x.2
    by_power_on (inr x) = absurd (other (comes_ends (λ d. Unit {0}) Q h (next x.0) (Err f) (ends x.0) x.2))

-- a session's other refusals are those of its file of commands
commands_step_ends : (board : Board) (job : Debug) (chip : ChipState) → Ends (λ d. Unit {0}) (HasStatus 10) (commands_step board job chip)
commands_step_ends board job chip = ends_then Any (λ d. Unit {0}) (HasStatus 10) (commands_reading job.commands) (session_step board job.run.cycles chip) (commands_ends job.commands)
    (λ commands u. tt)

-- and of the commands that make and check images, which read the room, then the image
image_after_room : (chip : Option (List ℕ)) (p : ℕ → Reading (List ℕ)) (done : List ℕ → Done) (h : Held) (f : Refusal)
    → Comes h (followed (room_reading chip) (λ room. followed (p room) (λ image. gives (done image)))) (Err f) → f.status ≡ 4
    → (room : ℕ) × Comes h (room_reading chip) (Ok room) × Comes h (p room) (Err f)
image_after_room chip p done h f c four = by_room (comes_split h (room_reading chip) _ (Err f) c)
  where
    by_image : (room : ℕ) → Comes h (room_reading chip) (Ok room)
        → ((e : Refusal) × (◌≡◌ {A = Result Done Refusal} (Err f) (Err e)) × Comes h (p room) (Err e))
        ⊎ ((image : List ℕ) × Comes h (p room) (Ok image) × Comes h (gives (done image)) (Err f))
        → (room : ℕ) × Comes h (room_reading chip) (Ok room) × Comes h (p room) (Err f)
    by_image room r (inl x) = (room, r, subst (λ e. Comes h (p room) (Err e)) (sym (err_same x.1)) x.2)
    by_image room r (inr x) = absurd (cc)

    by_room : ((e : Refusal) × (◌≡◌ {A = Result Done Refusal} (Err f) (Err e)) × Comes h (room_reading chip) (Err e))
        ⊎ ((room : ℕ) × Comes h (room_reading chip) (Ok room) × Comes h (followed (p room) (λ image. gives (done image))) (Err f))
        → (room : ℕ) × Comes h (room_reading chip) (Ok room) × Comes h (p room) (Err f)
    by_room (inl x) = absurd (grind (arith, four, comes_ends Any (HasStatus 6) h (room_reading chip) (Err x.0) (room_ends chip) x.2, ap (λ e. e.status) (err_same x.1)))
    by_room (inr x) = by_image x.0 x.1 (comes_split h (p x.0) _ (Err f) x.2)

-- what was found wrong in the image or the payload
pub record IsFaulty (job : Job) (h : Held) (f : Refusal) : Type 0 where
  pub room : ℕ
  pub bytes : List ℕ
  pub fault : ImageFault
  pub of_room : Comes h (room_of job) (Ok room)
  pub is_read : IsRead h (image_name job) 2097152 bytes
  pub faulty : fault_in job room bytes ≡ Some fault
  pub told : f ≡ image_refusal fault

-- of a chip at power-on, for a job that reads its image as this run does
power_on_faulty : (job : Run) (h : Held) (f : Refusal) → Comes h (power_on_reading job) (Err f) → f.status ≡ 4 → (asked : Job)
    → room_of asked ≡ followed (settings_reading job.chip) imem_step → image_name asked ≡ job.image
    → ((room : ℕ) (bytes : List ℕ) → fault_in asked room bytes ≡ boot_fault job.boot room bytes) → IsFaulty asked h f
power_on_faulty job h f c four asked room name fault =
    let image = power_on_image job h f c four in
    let found = file_refusal h (boot_fault job.boot image.0.imem) (λ b. b) job.image f image.2 in
    record {
      room = image.0.imem;
      bytes = found.0;
      fault = found.1;
      of_room = subst (λ p. Comes h p (Ok image.0.imem)) (sym room) (comes_then h (settings_reading job.chip) imem_step image.0 (Ok image.0.imem) image.1 refl);
      is_read = subst (λ n. IsRead h n 2097152 found.0) (sym name) found.2;
      faulty = fault image.0.imem found.0 ∙ found.3;
      told = found.4;
    }

faulty_image : (parts : List HandedPart) (job : Job) (h : Held) (f : Refusal) → Comes h (job_plan parts job) (Err f) → f.status ≡ 4 → IsFaulty job h f
faulty_image parts (run job) h f c four =
    power_on_faulty job h f
    (of_power_on job (report_step (board_of parts job.part) job.cycles job.trace) (λ f. ⊥) h f (λ chip. tt) c (λ none. none)) four (run job) refl refl (λ room bytes. refl)
faulty_image parts (debugs job) h f c four =
    power_on_faulty job.run h f
    (of_power_on job.run (commands_step (board_of parts job.run.part) job) (HasStatus 10) h f (commands_step_ends (board_of parts job.run.part) job) c
    (λ ten. grind (arith, four, ten))) four (debugs job) refl refl (λ room bytes. refl)
faulty_image parts (demos job) h f c four = absurd (cc)
faulty_image parts (makes job) h f c four =
    let image = image_after_room job.chip (λ room. wrapped_reading room job.payload) _ h f c four in
    let found = file_refusal h (payload_fault image.0) (λ b. image_of (padded b)) job.payload f image.2 in
    record {
      room = image.0;
      bytes = found.0;
      fault = found.1;
      of_room = image.1;
      is_read = found.2;
      faulty = found.3;
      told = found.4;
    }
faulty_image parts (checks job) h f c four =
    let image = image_after_room job.chip (λ room. image_reading Direct room job.image) _ h f c four in
    let found = file_refusal h (boot_fault Direct image.0) (λ b. b) job.image f image.2 in
    record {
      room = image.0;
      bytes = found.0;
      fault = found.1;
      of_room = image.1;
      is_read = found.2;
      faulty = found.3;
      told = found.4;
    }

pub refused_image : (parts : List HandedPart) (job : Option Job) (c : Call) → Keeps (plan_of parts job) c → c.status ≡ 4 → IsRefusedImage job c
refused_image parts None c k four = absurd (elim (no_job parts None c k refl).1.statuses [
  | inl e ↦ absurd (grind (arith, four, e))
  | inr other ↦ elim other [ inl e ↦ absurd (grind (arith, four, e)) | inr e ↦ absurd (grind (arith, four, e.1)) ]
])
refused_image parts (Some job) c k four =
    let r = end_status (job_plan parts job) c k (λ e. absurd (grind (arith, four, e))) (λ e. absurd (grind (arith, four, e))) (λ e. absurd (grind (arith, four, e))) in
    by_end r.0 r.1 r.2 r.3
  where
    by_end : (r : Result Done Refusal) → Comes c.before (job_plan parts job) r → c.status ≡ (ended r).status → Tells (ended r) c → IsRefusedImage (Some job) c
    by_end (Ok d) comes same t = absurd (grind (arith, four, same))
    by_end (Err f) comes same t =
        let found = faulty_image parts job c.before f comes (sym same ∙ four) in
        record {
          asked = job;
          is_job = refl;
          room = found.room;
          bytes = found.bytes;
          fault = found.fault;
          of_room = found.of_room;
          is_read = found.is_read;
          faulty = found.faulty;
          text = subst (λ e. WritesText e.text c) found.told (answers_from (refused f) c t (λ e. absurd (grind (arith, four, e))) (λ e. absurd (grind (arith, four, e)))).text;
        }

-- 10 comes of the file of commands alone
faulty_commands : (parts : List HandedPart) (job : Debug) (h : Held) (f : Refusal) → Comes h (debug_plan parts job) (Err f) → f.status ≡ 10
    → (chip : ChipState) × Comes h (power_on_reading job.run) (Ok chip) × Comes h (commands_reading job.commands) (Err f)
faulty_commands parts job h f c ten = by_power_on (comes_split h (power_on_reading job.run) (commands_step (board_of parts job.run.part) job) (Err f) c)
  where
    not_file : IsFileFault f → ⊥
    not_file (inl e) = grind (arith, ten, e)
    not_file (inr (inl e)) = grind (arith, ten, e)
    not_file (inr (inr e)) = grind (arith, ten, e)

    by_commands : (chip : ChipState) → Comes h (power_on_reading job.run) (Ok chip)
        → ((e : Refusal) × (◌≡◌ {A = Result Done Refusal} (Err f) (Err e)) × Comes h (commands_reading job.commands) (Err e))
        ⊎ ((commands : List Command) × Comes h (commands_reading job.commands) (Ok commands)
        × Comes h (session_step (board_of parts job.run.part) job.run.cycles chip commands) (Err f))
        → (chip : ChipState) × Comes h (power_on_reading job.run) (Ok chip) × Comes h (commands_reading job.commands) (Err f)
    by_commands chip p (inl x) = (chip, p, subst (λ e. Comes h (commands_reading job.commands) (Err e)) (sym (err_same x.1)) x.2)
    by_commands chip p (inr x) = absurd (cc)

    by_power_on : ((e : Refusal) × (◌≡◌ {A = Result Done Refusal} (Err f) (Err e)) × Comes h (power_on_reading job.run) (Err e))
        ⊎ ((chip : ChipState) × Comes h (power_on_reading job.run) (Ok chip) × Comes h (commands_step (board_of parts job.run.part) job chip) (Err f))
        → (chip : ChipState) × Comes h (power_on_reading job.run) (Ok chip) × Comes h (commands_reading job.commands) (Err f)
    by_power_on (inl x) = absurd (not_file (subst IsFileFault (sym (err_same x.1)) (comes_ends Any IsFileFault h (power_on_reading job.run) (Err x.0) (power_on_ends job.run) x.2)))
    by_power_on (inr x) = by_commands x.0 x.1 (comes_split h (commands_reading job.commands) (session_step (board_of parts job.run.part) job.run.cycles x.0) (Err f) x.2)

-- a job without a file of commands
not_ten : (job : Job) (plan : Reading Done) (h : Held) (f : Refusal) → Ends (MakesOut (Some job)) IsFileFault plan → Comes h plan (Err f) → f.status ≡ 10 → ⊥
not_ten job plan h f e c ten = by_status (comes_ends (MakesOut (Some job)) IsFileFault h plan (Err f) e c)
  where
    by_status : IsFileFault f → ⊥
    by_status (inl e) = grind (arith, ten, e)
    by_status (inr (inl e)) = grind (arith, ten, e)
    by_status (inr (inr e)) = grind (arith, ten, e)

pub refused_commands : (parts : List HandedPart) (job : Option Job) (c : Call) → Keeps (plan_of parts job) c → c.status ≡ 10 → IsRefusedCommands job c
refused_commands parts None c k ten = absurd (elim (no_job parts None c k refl).1.statuses [
  | inl e ↦ absurd (grind (arith, ten, e))
  | inr other ↦ elim other [ inl e ↦ absurd (grind (arith, ten, e)) | inr e ↦ absurd (grind (arith, ten, e.1)) ]
])
refused_commands parts (Some job) c k ten =
    let r = end_status (job_plan parts job) c k (λ e. absurd (grind (arith, ten, e))) (λ e. absurd (grind (arith, ten, e))) (λ e. absurd (grind (arith, ten, e))) in
    by_end r.0 r.1 r.2 r.3
  where
    by_job : (asked : Job) (f : Refusal) → Comes c.before (job_plan parts asked) (Err f) → f.status ≡ 10 → WritesText f.text c → IsRefusedCommands (Some asked) c
    by_job (run asked) f comes told text = absurd (not_ten (run asked) (run_plan parts asked) c.before f (run_ends parts asked) comes told)
    by_job (debugs asked) f comes told text =
        let commands = faulty_commands parts asked c.before f comes told in
        let found = commands_refusal c.before asked.commands f commands.2 in
        record {
          asked = asked;
          is_job = refl;
          chip = commands.0;
          bytes = found.0;
          number = found.1;
          of_chip = commands.1;
          is_read = found.2;
          faulty = found.3;
          text = subst (λ e. WritesText e.text c) found.4 text;
        }
    by_job (demos asked) f comes told text = absurd (cc)
    by_job (makes asked) f comes told text = absurd (not_ten (makes asked) (making_plan asked) c.before f (making_ends asked) comes told)
    by_job (checks asked) f comes told text = absurd (not_ten (checks asked) (checking_plan asked) c.before f (checking_ends asked) comes told)

    by_end : (r : Result Done Refusal) → Comes c.before (job_plan parts job) r → c.status ≡ (ended r).status → Tells (ended r) c → IsRefusedCommands (Some job) c
    by_end (Ok d) comes same t = absurd (grind (arith, ten, same))
    by_end (Err f) comes same t =
        by_job job f comes (sym same ∙ ten) (answers_from (refused f) c t (λ e. absurd (grind (arith, ten, e))) (λ e. absurd (grind (arith, ten, e)))).text

-- a demo reads no file, and has the statuses 0, 7 and 9
pub demo_only : (parts : List HandedPart) (job : Option Job) (c : Call) → Keeps (plan_of parts job) c → (demo : Demo) → job ≡ Some (demos demo)
    → (c.after.read_faults ≡ c.before.read_faults) × ((c.status ≡ 0) ⊎ ((c.status ≡ 7) ⊎ (c.status ≡ 9)))
demo_only parts job c k demo same = of_demo (subst (λ j. Keeps (plan_of parts j) c) same k)
  where
    ended_well : Keeps (demo_plan demo) c → c.status ≢ 3 → c.status ≢ 7 → c.status ≢ 9 → c.status ≡ 0
    ended_well k three seven nine =
        let r = end_status (demo_plan demo) c k three seven nine in
        r.2 ∙ ap (λ e. (ended e).status) r.1

    by_status : Keeps (demo_plan demo) c → (c.status ≡ 0) ⊎ ((c.status ≡ 7) ⊎ (c.status ≡ 9))
    by_status k = elim (decided c.status 3) [
      | inl e ↦ absurd ((k.refused e).misses.asked)
      | inr three ↦ elim (decided c.status 7) [
        | inl e ↦ inr (inl e)
        | inr seven ↦ elim (decided c.status 9) [ inl e ↦ inr (inr e) | inr nine ↦ inl (ended_well k three seven nine) ]
      ]
    ]

    of_demo : Keeps (demo_plan demo) c → (c.after.read_faults ≡ c.before.read_faults) × ((c.status ≡ 0) ⊎ ((c.status ≡ 7) ⊎ (c.status ≡ 9)))
    of_demo k = (k.no_reads (λ name limit a. a), by_status k)
