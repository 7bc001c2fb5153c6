-- What a top call keeps to, whatever its shelf and its sink do (definitions).
use Rattle.std.specs.Prelude.{◌≡◌, ◌≢◌, ℕ, ◌≤◌, ◌⊎◌, IsTrue, List, Option, Some, Result, Ok}
use Rattle.soc_words.specs.Causes.{Rose, appended, AppendsBeginning}
use Rattle.bench_plan.specs.Answers.{Answer, Done, File, answer_in, ended, missed}
use Rattle.bench_plan.specs.Calls.{Call, ChangesOnly, FailsWrite, IsMade, Tells, WritesText}
use Rattle.bench_plan.specs.Readings.{Refusal, Reading}
use Rattle.bench_plan.specs.Steps.{Asks, Comes, Misses}

abbrev pub answer_of : Reading Done → Call → Answer
answer_of plan c = answer_in c.before.file plan

-- the plan may make a file of this name
abbrev pub MayMake : Reading Done → Call → List ℕ → Type 0
MayMake plan c name = (d : Done) × (f : File) × Comes c.before plan (Ok d) × (d.out ≡ Some f) × (name ≡ f.name)

-- no read and no put failed, and no write of a file that the plan may make
pub record IsFaultless (plan : Reading Done) (c : Call) : Type 0 where
  pub reads : Rose c.before.read_faults c.after.read_faults → ⊥
  pub writes : (name : List ℕ) → MayMake plan c name → Rose c.before.write_faults c.after.write_faults → ⊥
  pub sink_faults : Rose c.sink_faults c.sink_faults_after → ⊥

-- the files afterwards are those of the answer
abbrev pub LeavesFiles : Option File → Call → Type 0
LeavesFiles out c = IsMade out c.after × ChangesOnly out c.before c.after

-- the answer was told whole
pub record TellsWhole (told : Answer) (c : Call) : Type 0 where
  pub status : c.status ≡ told.status
  pub text : c.written_after ≡ appended c.written told.text
  pub files : LeavesFiles told.out c

-- the answer was told with its status
pub record Answers (told : Answer) (c : Call) : Type 0 where
  pub status : c.status ≡ told.status
  pub text : WritesText told.text c
  pub files : LeavesFiles told.out c

-- the answer's status is 0, and it was cut short
pub record CutsShort (told : Answer) (c : Call) : Type 0 where
  pub done : told.status ≡ 0
  pub text : AppendsBeginning c.written c.written_after told.text
  pub files : (Rose c.before.write_faults c.after.write_faults → ⊥) → LeavesFiles told.out c
  pub why : Rose c.sink_faults c.sink_faults_after ⊎ FailsWrite told.out c

-- a file isn't read, and its line was told
pub record Refuses (plan : Reading Done) (c : Call) : Type 0 where
  pub line : List ℕ
  pub misses : Misses c.before c.after plan line
  pub text : WritesText line c
  -- no write failed
  pub writes : c.after.write_faults ≡ c.before.write_faults
  pub answers : IsTrue c.before.discloses → (answer_of plan c ≡ missed line) ⊎ Rose c.before.read_faults c.after.read_faults

-- a beginning of what the plan comes to was appended
pub record BeginsAnswer (plan : Reading Done) (c : Call) : Type 0 where
  pub end : Result Done Refusal
  pub comes : Comes c.before plan end
  pub text : AppendsBeginning c.written c.written_after (ended end).text

-- a beginning of the line of a file that isn't read was appended
pub record BeginsRefusal (plan : Reading Done) (c : Call) : Type 0 where
  pub line : List ℕ
  pub misses : Misses c.before c.after plan line
  pub text : AppendsBeginning c.written c.written_after line

-- no read failed, and what the plan comes to was told
pub record Follows (plan : Reading Done) (c : Call) : Type 0 where
  pub end : Result Done Refusal
  pub comes : Comes c.before plan end
  pub tells : Tells (ended end) c

-- the answer is told whole, or want of memory with a beginning of it
abbrev pub IsTold : Reading Done → Call → Type 0
IsTold plan c = TellsWhole (answer_of plan c) c ⊎ ((c.status ≡ 9) × AppendsBeginning c.written c.written_after (answer_of plan c).text)

pub record Keeps (plan : Reading Done) (c : Call) : Type 0 where
  -- over a shelf that discloses its files, where nothing fails, the answer is told whole, or memory is told
  pub complete : IsTrue c.before.discloses → IsFaultless plan c → IsTold plan c
  -- over such a shelf, whatever fails
  pub answered : IsTrue c.before.discloses → c.status ≢ 3 → c.status ≢ 7 → c.status ≢ 9 → Answers (answer_of plan c) c
  pub cut_short : IsTrue c.before.discloses → c.status ≡ 7 → CutsShort (answer_of plan c) c
  -- over any shelf
  pub refused : c.status ≡ 3 → Refuses plan c
  pub want_of_memory : c.status ≡ 9 → (c.written_after ≡ c.written) ⊎ (BeginsAnswer plan c ⊎ BeginsRefusal plan c)
  pub ran : c.status ≢ 3 → c.status ≢ 9 → Follows plan c
  -- each status has its cause
  pub read : c.status ≡ 3 → Rose c.before.read_faults c.after.read_faults ⊎ (IsTrue c.before.discloses × ((answer_of plan c).status ≡ 3))
  pub write : c.status ≡ 7 → Rose c.sink_faults c.sink_faults_after ⊎ ((name : List ℕ) × MayMake plan c name × Rose c.before.write_faults c.after.write_faults)
  pub done : c.status ≡ 0 → (c.after.read_faults ≡ c.before.read_faults) × (c.after.write_faults ≡ c.before.write_faults) × (c.sink_faults_after ≡ c.sink_faults)
  pub no_reads : ((name : List ℕ) (limit : ℕ) → Asks c.before plan name limit → ⊥) → c.after.read_faults ≡ c.before.read_faults
  pub no_writes : ((q : List ℕ) → MayMake plan c q → ⊥) → c.after.write_faults ≡ c.before.write_faults
  -- only the file that the plan makes may have changed, and no count falls
  pub kept : c.status ≢ 0 → c.status ≢ 7 → c.status ≢ 9 → (q : List ℕ) → c.after.file q ≡ c.before.file q
  pub others : (q : List ℕ) → (MayMake plan c q → ⊥) → c.after.file q ≡ c.before.file q
  pub disclosure : c.after.discloses ≡ c.before.discloses
  pub reads_later : c.before.read_faults ≤ c.after.read_faults
  pub writes_later : c.before.write_faults ≤ c.after.write_faults
  pub sink_faults_later : c.sink_faults ≤ c.sink_faults_after
