-- A definition: the front of the pulse-width modulation unit: CTRL at offset 0, DUTY0 to DUTY3 at 4, 8, 12 and 16.
use Rattle.std.specs.Prelude.{◌==◌, ℕ, ◌-◌, ◌/◌, ◌%◌, not, ◌&&◌, List, [], ◌∷◌, get_or, set, Option, None, Some, if◌then◌else◌, bit_and}
use Rattle.chip_base.specs.declared.message.Down.{Down}
use Rattle.chip_base.specs.declared.message.Down.TheVariants.{Set}
use Rattle.chip_base.specs.declared.message.Up.{Up}
use Rattle.unit_fronts.specs.FrontCalls.{FrontCall, FrontMeaning, LoadFrom, StoreTo, UnitSays}
use Rattle.unit_fronts.specs.Owed.{is_open_at, one_more}

pub record PwmRegisters : Type 0 where
  -- the bits of CTRL that a store writes
  pub control : ℕ
  -- the duties of the four channels
  pub duties : List ℕ
  -- how many answers to a Reset are still to come
  pub owed : ℕ

-- the reset state of a front that waits for this many answers
abbrev pub pwm_front_reset : ℕ → PwmRegisters
pwm_front_reset owed = record { control = 0; duties = 0 ∷ 0 ∷ 0 ∷ 0 ∷ []; owed = owed }

-- the channel whose duty stands at an offset
abbrev pub channel_at : ℕ → ℕ
channel_at reg = reg / 4 - 1

-- what a load of a register gives; a closed front gives 0
abbrev pub pwm_word : PwmRegisters → ℕ → ℕ
pwm_word s reg = if is_open_at s.owed then (if reg == 0 then s.control else get_or s.duties (channel_at reg) 0) else 0

-- the part of a stored word that a register keeps: of CTRL enable (0) and prescaler (3 to 5), of a duty the low eight bits
abbrev pub pwm_kept : ℕ → ℕ → ℕ
pwm_kept reg word = if reg == 0 then bit_and word 0x39 else word % 256

-- an open front after a store of the part that is kept
abbrev pub pwm_stored_open : PwmRegisters → ℕ → ℕ → PwmRegisters
pwm_stored_open s reg word = if reg == 0 then record s { control = word } else record s { duties = set s.duties (channel_at reg) word }

-- the front after a store to a register
abbrev pub pwm_stored : PwmRegisters → ℕ → ℕ → PwmRegisters
pwm_stored s reg word = if is_open_at s.owed then pwm_stored_open s reg (pwm_kept reg word) else s

-- the message that a store sends to the unit: the kept word
abbrev pub pwm_sent : PwmRegisters → ℕ → ℕ → Option Down
pwm_sent s reg word = if is_open_at s.owed then Some (Set reg (pwm_kept reg word)) else None

-- an open front hears nothing, and a closed one counts the answers
abbrev pub pwm_arrived : PwmRegisters → Up → PwmRegisters
pwm_arrived s up = if up.done && not (is_open_at s.owed) then record s { owed = s.owed - 1 } else s

-- one answer more is owed, and all else is reset
abbrev pub pwm_closed : PwmRegisters → PwmRegisters
pwm_closed s = pwm_front_reset (one_more s.owed)

-- the front after a call
abbrev pub pwm_after : PwmRegisters → FrontCall → PwmRegisters
pwm_after s (LoadFrom reg) = s
pwm_after s (StoreTo reg word) = pwm_stored s reg word
pwm_after s (UnitSays up) = pwm_arrived s up

-- what the calls do; the last answer opens the front in its reset state
abbrev pub pwm_front : FrontMeaning PwmRegisters
pwm_front = record {
  word = pwm_word;
  sent = pwm_sent;
  after = pwm_after;
  front_reset = pwm_front_reset;
  closed_word = λ reg. 0;
  opened = λ up. pwm_front_reset 0;
}
