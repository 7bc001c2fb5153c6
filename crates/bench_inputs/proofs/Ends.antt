-- What the readings of a job may come to.
use Rattle.std.proofs.Common.{◌≡◌, ℕ, Bool, true, false, cond, List, Option, Some, None, Result, Ok, Err, refl}
use Rattle.std.specs.Str.{is_utf8}
use Rattle.command_text.specs.CommandFile.{commands_of}
use Rattle.command_text.specs.declared.command.Command.{Command}
use Rattle.bench_plan.proofs.Ends.{ends_then}
use Rattle.bench_plan.specs.Ends.{Ends, EndsBoth}
use Rattle.bench_plan.specs.Readings.{Refusal, judged}
use Rattle.bench_plan.specs.Steps.{Comes, IsRead}
use Rattle.bench_shelf.specs.Held.{Held}
use Rattle.chip_base.specs.Settings.{Values}
use Rattle.chip_base.specs.declared.boot.Boot.{Boot}
use Rattle.chip_base.specs.declared.script.Script.{Script}
use Rattle.image_tool.specs.declared.faults.ImageFault.{ImageFault}
use Rattle.script_text.specs.ChipFile.{chip_of}
use Rattle.script_text.specs.Faults.{KeyFaultAt as AtKey, faulty_key}
use Rattle.script_text.specs.ScriptFile.{script_of}
use Rattle.script_text.specs.declared.chip.KeyFault.{KeyFault}
use Rattle.script_text.specs.declared.chip.KeyFault.TheVariants.{Key, Range}
use Rattle.script_text.specs.declared.script_fault.ScriptFault.{ScriptFault}
use Rattle.bench_inputs.specs.Inputs.{boot_fault, commands_in, commands_read, commands_reading, imem_step, image_in, image_reading, meaning, payload_fault, room_reading, script_in, script_read, script_reading, settings_in, settings_of, settings_reading, unless, wrapped_in, wrapped_reading}
use Rattle.bench_inputs.specs.Lines.{command_refusal, image_refusal, key_refusal, toml_refusal}

-- any value
abbrev pub Any : {A : Type 0} → A → Type 0
Any a = Unit {0}

abbrev pub HasStatus : ℕ → Refusal → Type 0
HasStatus n f = f.status ≡ n

judged_ends : {A : Type 0} (P : A → Type 0) (Q : Refusal → Type 0) (r : Result A Refusal) → EndsBoth P Q r → Ends P Q (judged r)
judged_ends P Q (Ok a) e = e
judged_ends P Q (Err f) e = e

-- a chip file is refused with 6
key_ends : (kind : KeyFault) (name : List ℕ) → (key_refusal kind name).status ≡ 6
key_ends Key name = refl
key_ends Range name = refl

settings_of_ends : (o : Option (Result Values AtKey)) → EndsBoth Any (HasStatus 6) (settings_of o)
settings_of_ends None = refl
settings_of_ends (Some (Ok v)) = tt
settings_of_ends (Some (Err f)) = key_ends f.kind (faulty_key f)

settings_in_ends : (t : Bool) (o : Option (Result Values AtKey)) → EndsBoth Any (HasStatus 6) (cond t (settings_of o) (Err toml_refusal))
settings_in_ends true o = settings_of_ends o
settings_in_ends false o = refl

pub settings_ends : (name : Option (List ℕ)) → Ends Any (HasStatus 6) (settings_reading name)
settings_ends None = tt
settings_ends (Some name) = λ b. judged_ends Any (HasStatus 6) (settings_in b) (settings_in_ends (is_utf8 b) (chip_of b))

pub room_ends : (name : Option (List ℕ)) → Ends Any (HasStatus 6) (room_reading name)
room_ends None = tt
room_ends (Some name) = ends_then Any Any (HasStatus 6) (settings_reading (Some name)) imem_step (settings_ends (Some name)) (λ v u. tt)

-- an image is refused with 4, and so is a payload
unless_ends : {A : Type 0} (found : Option ImageFault) (a : A) → EndsBoth Any (HasStatus 4) (unless found a)
unless_ends None a = tt
unless_ends (Some fault) a = refl

pub image_ends : (boot : Boot) (room : ℕ) (name : List ℕ) → Ends Any (HasStatus 4) (image_reading boot room name)
image_ends boot room name = λ b. judged_ends Any (HasStatus 4) (image_in boot room b) (unless_ends (boot_fault boot room b) b)

pub wrapped_ends : (room : ℕ) (name : List ℕ) → Ends Any (HasStatus 4) (wrapped_reading room name)
wrapped_ends room name = λ b. judged_ends Any (HasStatus 4) (wrapped_in room b) (unless_ends (payload_fault room b) _)

-- a script is refused with 5
script_read_ends : (r : Result Script ScriptFault) → EndsBoth Any (HasStatus 5) (script_read r)
script_read_ends (Ok s) = tt
script_read_ends (Err f) = refl

pub script_ends : (name : Option (List ℕ)) → Ends Any (HasStatus 5) (script_reading name)
script_ends None = tt
script_ends (Some name) = λ b. judged_ends Any (HasStatus 5) (script_in b) (script_read_ends (script_of b))

-- a command file is refused with 10
commands_read_ends : (r : Result (List Command) ℕ) → EndsBoth Any (HasStatus 10) (commands_read r)
commands_read_ends (Ok s) = tt
commands_read_ends (Err n) = refl

pub commands_ends : (name : List ℕ) → Ends Any (HasStatus 10) (commands_reading name)
commands_ends name = λ b. judged_ends Any (HasStatus 10) (commands_in b) (commands_read_ends (commands_of b))

-- a command file that is refused has a faulty line, and the line of the refusal tells it
pub commands_refusal : (h : Held) (name : List ℕ) (f : Refusal) → Comes h (commands_reading name) (Err f)
    → (bytes : List ℕ) × (number : ℕ) × IsRead h name 65536 bytes × (commands_of bytes ≡ Err number) × (f ≡ command_refusal number)
commands_refusal h name f c = let told = by_line (commands_of c.0) refl c.2 in (c.0, told.0, c.1, told.1, told.2)
  where
    err_same : {a b : Refusal} → ◌≡◌ {A = Result (List Command) Refusal} (Err a) (Err b) → a ≡ b
    err_same e = cc

    by_line : (r : Result (List Command) ℕ) → commands_of c.0 ≡ r → Comes h (judged (commands_read r)) (Err f)
        → (number : ℕ) × (commands_of c.0 ≡ Err number) × (f ≡ command_refusal number)
    by_line (Ok commands) e k = absurd (cc)
    by_line (Err number) e k = (number, e, err_same k)

-- an image or a payload that is refused has a fault, and the line tells it
pub file_refusal : {A : Type 0} (h : Held) (found : List ℕ → Option ImageFault) (given : List ℕ → A) (name : List ℕ) (f : Refusal)
    → Comes h (meaning 2097152 (λ b. unless (found b) (given b)) name) (Err f)
    → (bytes : List ℕ) × (fault : ImageFault) × IsRead h name 2097152 bytes × (found bytes ≡ Some fault) × (f ≡ image_refusal fault)
file_refusal {A = A} h found given name f c = let told = by_fault (found c.0) refl c.2 in (c.0, told.0, c.1, told.1, told.2)
  where
    err_same : {a b : Refusal} → ◌≡◌ {A = Result A Refusal} (Err a) (Err b) → a ≡ b
    err_same e = cc

    by_fault : (o : Option ImageFault) → found c.0 ≡ o → Comes h (judged (unless o (given c.0))) (Err f)
        → (fault : ImageFault) × (found c.0 ≡ Some fault) × (f ≡ image_refusal fault)
    by_fault None e k = absurd (cc)
    by_fault (Some fault) e k = (fault, e, err_same k)
