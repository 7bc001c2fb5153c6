-- What reading for a job comes to (definitions).
use Rattle.std.specs.Prelude.{◌≡◌, ◌≢◌, ℕ, ◌<◌, ◌≤◌, ◌⊎◌, false, IsTrue, List, length, Option, Some, None, Result, Ok, Err}
use Rattle.bench_shelf.specs.Held.{Held, Stays}
use Rattle.soc_words.specs.Causes.{Rose}
use Rattle.bench_plan.specs.Answers.{long_text, unread_text}
use Rattle.bench_plan.specs.Readings.{Refusal, Reading, gives, refuses, asks}
use Rattle.bench_plan.specs.declared.stop.Stop.{Stop}
use Rattle.bench_plan.specs.declared.stop.Stop.TheVariants.{Refused, Memory}

-- these are the bytes that were read of a file, which is within its limit; of a shelf that discloses its files, they are the file's
abbrev pub IsRead : Held → List ℕ → ℕ → List ℕ → Type 0
IsRead h name limit bytes = (length bytes ≤ limit) × (IsTrue h.discloses → h.file name ≡ Some bytes)

-- over the files as they were read the reading comes to this
abbrev pub Comes : {A : Type 0} → Held → Reading A → Result A Refusal → Type 0
Comes h (gives a) r = r ≡ Ok a
Comes h (refuses refusal) r = r ≡ Err refusal
Comes h (asks name limit next) r = (bytes : List ℕ) × IsRead h name limit bytes × Comes h (next bytes) r

-- the reading asks for this file, and refuses none before it
abbrev pub Asks : {A : Type 0} → Held → Reading A → List ℕ → ℕ → Type 0
Asks h (gives a) name limit = ⊥
Asks h (refuses refusal) name limit = ⊥
Asks h (asks n l next) name limit = ((name ≡ n) × (limit ≡ l)) ⊎ ((bytes : List ℕ) × IsRead h n l bytes × Asks h (next bytes) name limit)

-- why a file isn't read: it isn't there, or a read failed
abbrev pub IsUnread : Held → Held → List ℕ → Type 0
IsUnread old new name = (IsTrue old.discloses × (old.file name ≡ None)) ⊎ Rose old.read_faults new.read_faults

-- the file is there and longer than the limit
abbrev pub IsLong : ℕ → Option (List ℕ) → Type 0
IsLong limit file = (bytes : List ℕ) × (file ≡ Some bytes) × (limit < length bytes)

-- why a file is refused as too long: it is, or the shelf discloses no file and a read failed
abbrev pub IsTooLong : Held → Held → List ℕ → ℕ → Type 0
IsTooLong old new name limit =
    (IsTrue old.discloses × IsLong limit (old.file name)) ⊎ ((old.discloses ≡ false) × Rose old.read_faults new.read_faults)

-- the line of a file that isn't read, and why. The reading asks for it, and refuses no file before it
pub record Misses {A : Type 0} (old new : Held) (p : Reading A) (text : List ℕ) : Type 0 where
  pub name : List ℕ
  pub limit : ℕ
  pub asked : Asks old p name limit
  pub why : ((text ≡ unread_text name) × IsUnread old new name) ⊎ ((text ≡ long_text name) × IsTooLong old new name limit)

-- what a reading comes to, and why. Memory may be wanted anywhere; where no file is asked for, no read fails
abbrev pub Results : {A : Type 0} → Held → Held → Reading A → Result A Stop → Type 0
Results old new p (Ok a) = (new.read_faults ≡ old.read_faults) × Comes old p (Ok a)
Results old new p (Err (Refused refusal)) =
    ((new.read_faults ≡ old.read_faults) × (refusal.status ≢ 3) × Comes old p (Err refusal)) ⊎ ((refusal.status ≡ 3) × Misses old new p refusal.text)
Results old new p (Err Memory) = (new.read_faults ≡ old.read_faults) ⊎ ((name : List ℕ) × (limit : ℕ) × Asks old p name limit)

-- what the reading asks for was read between two moments of a shelf, and no file was changed
pub record ReadsBy {A : Type 0} (old new : Held) (p : Reading A) (result : Result A Stop) : Type 0 where
  pub stays : Stays old new
  pub results : Results old new p result

-- a call that reads what the reading asks for, by what the shelf holds
abbrev pub Reads : {S A : Type 0} → (S → Held) → S → S → Reading A → Result A Stop → Type 0
Reads held old new p result = ReadsBy (held old) (held new) p result

-- a result, with its value changed
abbrev pub mapped : {A B : Type 0} → (A → B) → Result A Stop → Result B Stop
mapped f (Ok a) = Ok (f a)
mapped f (Err stop) = Err stop

-- what judging gives: what is meant, or memory was wanted
abbrev pub Judges : {A : Type 0} → Result A Refusal → Result A Stop → Type 0
Judges means (Ok a) = means ≡ Ok a
Judges means (Err (Refused refusal)) = (refusal.status ≢ 3) × (means ≡ Err refusal)
Judges means (Err Memory) = Unit {0}

-- the job is refused so, or memory was wanted for the line
abbrev pub IsRefusal : Refusal → Stop → Type 0
IsRefusal refusal (Refused f) = f ≡ refusal
IsRefusal refusal Memory = Unit {0}
