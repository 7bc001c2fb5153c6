-- A definition: what the fronts of the serial units keep: control bits, received entries, credits and the answers that they wait for.
use Rattle.std.specs.Prelude.{◌==◌, ℕ, ◌+◌, ◌-◌, ◌/◌, ◌%◌, ◌^◌, Bool, true, false, ◌&&◌, nat_lt, min, List, [], ◌∷◌, ◌++◌, length, drop, get_or, if◌then◌else◌}
use Rattle.chip_base.specs.Bits.{bit_if}
use Rattle.chip_base.specs.declared.message.Up.{Up}
use Rattle.unit_fronts.specs.Owed.{is_open_at, one_more}

pub record SerialRegisters : Type 0 where
  -- the bits of CTRL that a store writes
  pub kept : ℕ
  -- a received entry was lost since the last store to CTRL
  pub overrun : Bool
  -- received entries that weren't read yet, oldest first
  pub received : List ℕ
  -- how many entries may still be sent to the unit
  pub credits : ℕ
  -- how many answers to a Reset are still to come; the front is open where there are none
  pub owed : ℕ

-- the reset state of a front that waits for this many answers
abbrev pub serial_front_reset : ℕ → SerialRegisters
serial_front_reset owed = record { kept = 0; overrun = false; received = []; credits = 16; owed = owed }

abbrev pub serial_is_open : SerialRegisters → Bool
serial_is_open s = is_open_at s.owed

abbrev pub has_received : SerialRegisters → Bool
has_received s = nat_lt 0 (length s.received)

-- CTRL as a load gives it: the kept bits, receive not empty, transmit full, overrun and busy
abbrev pub serial_control : SerialRegisters → ℕ
serial_control s = s.kept + bit_if 16 (has_received s) + bit_if 21 (s.credits == 0) + bit_if 30 s.overrun
    + bit_if 31 (nat_lt s.credits 16)

-- the oldest received entry, and 0 where there is none
abbrev pub oldest_received : SerialRegisters → ℕ
oldest_received s = get_or s.received 0 0

-- without its oldest received entry
abbrev pub without_oldest : SerialRegisters → SerialRegisters
without_oldest s = record s { received = drop 1 s.received }

-- with these kept bits, after a store to CTRL
abbrev pub serial_control_stored : SerialRegisters → ℕ → SerialRegisters
serial_control_stored s kept = record s { kept = kept; overrun = false }

-- with one credit less, where there is one
abbrev pub spent : SerialRegisters → SerialRegisters
spent s = record s { credits = s.credits - 1 }

-- with one credit more, and never more than sixteen
abbrev pub credited : SerialRegisters → Bool → SerialRegisters
credited s credit = if credit then record s { credits = min 16 (s.credits + 1) } else s

-- with one received entry more; where sixteen wait it is lost
abbrev pub received_by : SerialRegisters → Bool → ℕ → SerialRegisters
received_by s has word =
    if has then (if nat_lt (length s.received) 16 then record s { received = s.received ++ word ∷ [] } else record s { overrun = true }) else s

-- an open front drops a message that says that a Reset was done
abbrev pub serial_arrived_open : SerialRegisters → Up → SerialRegisters
serial_arrived_open s up = if up.done then s else received_by (credited s up.credit) up.has up.word

-- a closed front hears nothing but that a Reset was done
abbrev pub serial_arrived_closed : SerialRegisters → Up → SerialRegisters
serial_arrived_closed s up = if up.done then record s { owed = s.owed - 1 } else s

abbrev pub serial_arrived : SerialRegisters → Up → SerialRegisters
serial_arrived s up = if serial_is_open s then serial_arrived_open s up else serial_arrived_closed s up

-- interrupt enable (bit 22 of CTRL) together with a received entry
abbrev pub serial_line : SerialRegisters → Bool
serial_line s = s.kept / 2 ^ 22 % 2 == 1 && has_received s

-- one answer more is owed, up to 8,192, and all else is reset
abbrev pub serial_closed : SerialRegisters → SerialRegisters
serial_closed s = serial_front_reset (one_more s.owed)
