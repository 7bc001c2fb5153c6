-- The answer of a plan over given files (definitions).
use Rattle.std.specs.Prelude.{ℕ, ◌++◌, List, length, Option, Some, None, codes, nat_lt, if◌then◌else◌, Result, Ok, Err}
use Rattle.soc_words.specs.Text.{line}
use Rattle.bench_plan.specs.Readings.{Refusal, Reading, gives, refuses, asks}

-- a file by its name, and its bytes
pub record File : Type 0 where
  pub name : List ℕ
  pub bytes : List ℕ

-- a job that is done: its text, and the file that it makes, if it makes one
pub record Done : Type 0 where
  pub text : List ℕ
  pub out : Option File

pub record Answer : Type 0 where
  pub status : ℕ
  pub text : List ℕ
  pub out : Option File

unfoldable pub unread_text : List ℕ → List ℕ
unread_text name = line (codes "error read " ++ name)

unfoldable pub long_text : List ℕ → List ℕ
long_text name = line (codes "error long " ++ name)

abbrev pub refused : Refusal → Answer
refused refusal = record { status = refusal.status; text = refusal.text; out = None }

abbrev pub missed : List ℕ → Answer
missed text = record { status = 3; text = text; out = None }

abbrev pub done : Done → Answer
done d = record { status = 0; text = d.text; out = d.out }

-- the answer of a plan that comes to this
abbrev pub ended : Result Done Refusal → Answer
ended (Ok d) = done d
ended (Err refusal) = refused refusal

-- a file must be there and have at most this many bytes
abbrev pub by_file : List ℕ → ℕ → (List ℕ → Answer) → Option (List ℕ) → Answer
by_file name limit next None = missed (unread_text name)
by_file name limit next (Some bytes) = if nat_lt limit (length bytes) then missed (long_text name) else next bytes

-- the files are read one after another, and the first refusal is the answer
abbrev pub answer_in : (List ℕ → Option (List ℕ)) → Reading Done → Answer
answer_in files (gives d) = done d
answer_in files (refuses refusal) = refused refusal
answer_in files (asks name limit next) = by_file name limit (λ bytes. answer_in files (next bytes)) (files name)
