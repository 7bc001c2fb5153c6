-- A law over definitions: the received entries of a serial front are given in the order in which they came, each once, and overrun tells
-- that one was lost.
use Rattle.std.specs.Prelude.{◌≡◌, ◌==◌, ℕ, Bool, true, false, ◌&&◌, not, nat_lt, List, [], ◌∷◌, ◌++◌, length, if◌then◌else◌}
use Rattle.chip_base.specs.declared.message.Up.{Up}
use Rattle.unit_fronts.specs.FrontCalls.{FrontCall, LoadFrom, StoreTo, UnitSays, after_calls}
use Rattle.unit_fronts.specs.SerialRegisters.{SerialRegisters, serial_is_open, has_received}
use Rattle.unit_fronts.specs.SerialFront.{SerialKind, serial_word, serial_after, serial_front}

-- a received entry comes to an open front
abbrev pub brings_entry : SerialRegisters → Up → Bool
brings_entry s up = serial_is_open s && not up.done && up.has

-- fewer than sixteen entries wait
abbrev pub has_room : SerialRegisters → Bool
has_room s = nat_lt (length s.received) 16

-- the entry that a call adds to those that wait
abbrev pub entry_queued : SerialRegisters → FrontCall → List ℕ
entry_queued s (LoadFrom reg) = []
entry_queued s (StoreTo reg word) = []
entry_queued s (UnitSays up) = if brings_entry s up && has_room s then up.word ∷ [] else []

-- the entry that a call gives: a load of DATA gives one where one waits
abbrev pub entry_given : SerialRegisters → FrontCall → List ℕ
entry_given s (LoadFrom reg) = if serial_is_open s && (reg == 4) && has_received s then serial_word s reg ∷ [] else []
entry_given s (StoreTo reg word) = []
entry_given s (UnitSays up) = []

unfoldable pub all_queued : SerialKind → SerialRegisters → List FrontCall → List ℕ
all_queued kind s [] = []
all_queued kind s (c ∷ cs) = entry_queued s c ++ all_queued kind (serial_after kind s c) cs

unfoldable pub all_given : SerialKind → SerialRegisters → List FrontCall → List ℕ
all_given kind s [] = []
all_given kind s (c ∷ cs) = entry_given s c ++ all_given kind (serial_after kind s c) cs

-- whatever is called, the entries that waited and came are those that were given and wait, in the same order
abbrev pub GivesInOrder : SerialKind → SerialRegisters → Type 0
GivesInOrder kind s = (calls : List FrontCall) → s.received ++ all_queued kind s calls ≡ all_given kind s calls ++ (after_calls (serial_front kind) s calls).received

-- an entry that finds sixteen
abbrev pub loses_entry : SerialRegisters → FrontCall → Bool
loses_entry s (LoadFrom reg) = false
loses_entry s (StoreTo reg word) = false
loses_entry s (UnitSays up) = brings_entry s up && not (has_room s)

-- a store to CTRL
abbrev pub clears_overrun : SerialRegisters → FrontCall → Bool
clears_overrun s (LoadFrom reg) = false
clears_overrun s (StoreTo reg word) = serial_is_open s && (reg == 0)
clears_overrun s (UnitSays up) = false

-- what a call does to overrun
pub record MarksOverrun (old : SerialRegisters) (call : FrontCall) (new : SerialRegisters) : Type 0 where
  -- an entry that finds sixteen sets it and is lost
  pub lost : loses_entry old call ≡ true → new.overrun ≡ true
  pub kept : loses_entry old call ≡ true → new.received ≡ old.received
  -- a store to CTRL clears it
  pub cleared : clears_overrun old call ≡ true → new.overrun ≡ false
  -- nothing else changes it
  pub still : loses_entry old call ≡ false → clears_overrun old call ≡ false → new.overrun ≡ old.overrun
