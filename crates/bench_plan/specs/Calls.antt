-- A call that tells an answer (definitions).
use Rattle.std.specs.Prelude.{◌≡◌, ◌≢◌, ℕ, ◌≤◌, ◌⊎◌, IsTrue, List, Option, Some, None}
use Rattle.bench_shelf.specs.Held.{Held}
use Rattle.soc_words.specs.Causes.{Rose, appended, AppendsBeginning}
use Rattle.bench_plan.specs.Answers.{Answer, File, refused}
use Rattle.bench_plan.specs.declared.stop.Stop.{Stop}
use Rattle.bench_plan.specs.declared.stop.Stop.TheVariants.{Refused, Memory}

-- a call over a shelf and a sink: what the shelf held before it and after it, what was written to the sink, how often the sink had
-- failed, and the status
pub record Call : Type 0 where
  pub before : Held
  pub after : Held
  pub written : Option (List ℕ)
  pub written_after : Option (List ℕ)
  pub sink_faults : ℕ
  pub sink_faults_after : ℕ
  pub status : ℕ

-- the call over this shelf and this sink, by what the shelf holds, what the sink has written and how often it has failed
abbrev pub call_of : {S O : Type 0} → (S → Held) → (O → Option (List ℕ)) → (O → ℕ) → S → S → O → O → ℕ → Call
call_of held written faults shelf shelf_after out out_after status = record {
  before = held shelf;
  after = held shelf_after;
  written = written out;
  written_after = written out_after;
  sink_faults = faults out;
  sink_faults_after = faults out_after;
  status = status;
}

-- the file, if there is one, has its bytes
abbrev pub IsMade : Option File → Held → Type 0
IsMade None h = Unit {0}
IsMade (Some f) h = IsTrue h.discloses → h.file f.name ≡ Some f.bytes

-- only this file may have changed, and no write failed where there is none
abbrev pub ChangesOnly : Option File → Held → Held → Type 0
ChangesOnly None old new = (new.write_faults ≡ old.write_faults) × ((q : List ℕ) → new.file q ≡ old.file q)
ChangesOnly (Some f) old new = (q : List ℕ) → (q ≡ f.name → ⊥) → new.file q ≡ old.file q

-- the file that is to be made couldn't be written
abbrev pub FailsWrite : Option File → Call → Type 0
FailsWrite out c = (f : File) × (out ≡ Some f) × Rose c.before.write_faults c.after.write_faults

-- a beginning of the text was appended, and all of it where the sink didn't fail
abbrev pub WritesText : List ℕ → Call → Type 0
WritesText text c = AppendsBeginning c.written c.written_after text × ((Rose c.sink_faults c.sink_faults_after → ⊥) → c.written_after ≡ appended c.written text)

-- an answer is told: with its status, or with 9, or with 7 where its status is 0. A beginning of the text is appended, and all of it where
-- memory is had and the sink doesn't fail; the file is made, where memory is had and the shelf doesn't fail
pub record Tells (told : Answer) (c : Call) : Type 0 where
  pub disclosure : c.after.discloses ≡ c.before.discloses
  pub reads : c.after.read_faults ≡ c.before.read_faults
  pub writes_later : c.before.write_faults ≤ c.after.write_faults
  pub sink_faults_later : c.sink_faults ≤ c.sink_faults_after
  pub statuses : (c.status ≡ told.status) ⊎ ((c.status ≡ 9) ⊎ ((told.status ≡ 0) × (c.status ≡ 7)))
  pub beginning : AppendsBeginning c.written c.written_after told.text
  pub whole : c.status ≡ told.status → (c.written_after ≡ appended c.written told.text) ⊎ Rose c.sink_faults c.sink_faults_after
  pub made : c.status ≡ told.status → IsMade told.out c.after
  pub cut_short : c.status ≡ 7 → FailsWrite told.out c ⊎ (Rose c.sink_faults c.sink_faults_after × IsMade told.out c.after)
  pub no_fault : c.status ≡ 0 → (c.sink_faults_after ≡ c.sink_faults) × (c.after.write_faults ≡ c.before.write_faults) × (c.written_after ≡ appended c.written told.text)
  pub changes : ChangesOnly told.out c.before c.after

-- an answer without a file is told to a sink, whatever shelf stands beside it
abbrev pub TellsText : Answer → Option (List ℕ) → Option (List ℕ) → ℕ → ℕ → ℕ → Type 0
TellsText told written written_after sink_faults sink_faults_after status = (h : Held) → Tells told (record {
  before = h;
  after = h;
  written = written;
  written_after = written_after;
  sink_faults = sink_faults;
  sink_faults_after = sink_faults_after;
  status = status;
})

abbrev pub Says : {O : Type 0} → Answer → (O → Option (List ℕ)) → (O → ℕ) → O → O → ℕ → Type 0
Says told written faults old new status = TellsText told (written old) (written new) (faults old) (faults new) status

-- why a job isn't done is told: a refusal by its line, want of memory by its status alone
abbrev pub TellsStop : Stop → Option (List ℕ) → Option (List ℕ) → ℕ → ℕ → ℕ → Type 0
TellsStop (Refused refusal) written written_after sink_faults sink_faults_after status =
    (refusal.status ≢ 7) × (refusal.status ≢ 9) × TellsText (refused refusal) written written_after sink_faults sink_faults_after status
TellsStop Memory written written_after sink_faults sink_faults_after status = (status ≡ 9) × (written_after ≡ written) × (sink_faults_after ≡ sink_faults)

abbrev pub Stops : {O : Type 0} → Stop → (O → Option (List ℕ)) → (O → ℕ) → O → O → ℕ → Type 0
Stops stop written faults old new status = TellsStop stop (written old) (written new) (faults old) (faults new) status
