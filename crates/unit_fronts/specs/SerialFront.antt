-- A definition: the front of a unit that takes entries: CTRL at offset 0, received entries at DATA, offset 4, and its data registers.
use Rattle.std.specs.Prelude.{◌==◌, ℕ, Bool, Option, None, Some, if◌then◌else◌}
use Rattle.chip_base.specs.declared.message.Down.{Down}
use Rattle.chip_base.specs.declared.message.Down.TheVariants.{Set}
use Rattle.unit_fronts.specs.FrontCalls.{FrontCall, FrontMeaning, LoadFrom, StoreTo, UnitSays}
use Rattle.unit_fronts.specs.SerialRegisters.{SerialRegisters, serial_is_open, serial_control, oldest_received, without_oldest, serial_control_stored, spent, serial_arrived, serial_front_reset}

-- what is special to the front of one unit
pub record SerialKind : Type 0 where
  -- the bits of a word that CTRL keeps
  pub kept : ℕ → ℕ
  -- which registers take entries
  pub takes : ℕ → Bool
  -- what is sent of a word that is stored to such a register
  pub entry : ℕ → ℕ → ℕ

-- what a load of a register gives; a closed front gives 0
abbrev pub serial_word : SerialRegisters → ℕ → ℕ
serial_word s reg = if serial_is_open s then (if reg == 0 then serial_control s else if reg == 4 then oldest_received s else 0) else 0

-- the front after a load of a register: one of DATA takes the oldest entry
abbrev pub serial_loaded : SerialRegisters → ℕ → SerialRegisters
serial_loaded s reg = if serial_is_open s then (if reg == 4 then without_oldest s else s) else s

-- the front after a store to a register
abbrev pub serial_stored : SerialKind → SerialRegisters → ℕ → ℕ → SerialRegisters
serial_stored kind s reg word =
    if serial_is_open s then (if reg == 0 then serial_control_stored s (kind.kept word) else if kind.takes reg then spent s else s) else s

-- an entry is sent where there is a credit
abbrev pub entry_sent : SerialRegisters → ℕ → ℕ → Option Down
entry_sent s reg word = if s.credits == 0 then None else Some (Set reg word)

-- the message that a store to a register sends to the unit
abbrev pub serial_sent : SerialKind → SerialRegisters → ℕ → ℕ → Option Down
serial_sent kind s reg word =
    if serial_is_open s then (if reg == 0 then Some (Set 0 (kind.kept word)) else if kind.takes reg then entry_sent s reg (kind.entry reg word) else None) else None

-- the front after a call
abbrev pub serial_after : SerialKind → SerialRegisters → FrontCall → SerialRegisters
serial_after kind s (LoadFrom reg) = serial_loaded s reg
serial_after kind s (StoreTo reg word) = serial_stored kind s reg word
serial_after kind s (UnitSays up) = serial_arrived s up

-- what the calls do; the last answer opens the front in its reset state
abbrev pub serial_front : SerialKind → FrontMeaning SerialRegisters
serial_front kind = record {
  word = serial_word;
  sent = serial_sent kind;
  after = serial_after kind;
  front_reset = serial_front_reset;
  closed_word = λ reg. 0;
  opened = λ up. serial_front_reset 0;
}
