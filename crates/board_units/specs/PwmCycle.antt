-- One cycle of the pulse-width modulation unit: a definition.
use Rattle.std.specs.Prelude.{◌==◌, ℕ, ◌+◌, ◌%◌, ◌^◌, Bool, ◌&&◌, nat_lt, nat_le, get_or, set, Option, None, Some, if◌then◌else◌}
use Rattle.chip_base.specs.UnitTable.{unit_row}
use Rattle.chip_base.specs.declared.chip_unit.ChipUnit.TheVariants.{Pwm}
use Rattle.chip_base.specs.Given.{Given}
use Rattle.chip_base.specs.declared.message.Down.{Down}
use Rattle.chip_base.specs.declared.message.Down.TheVariants.{Reset, Set}
use Rattle.chip_base.specs.Messages.{done_up}
use Rattle.chip_base.specs.Prescalers.{prescaler_of}
use Rattle.board_units.specs.Messages.{change_event}
use Rattle.board_units.specs.PwmState.{PwmState, pwm_reset}

-- a new control word
abbrev pub configured : PwmState → ℕ → PwmState
configured s control = record s { enabled = control % 2 == 1; prescaler = prescaler_of control }

-- a new duty of a channel: the low eight bits of a word
abbrev pub with_duty : PwmState → ℕ → ℕ → PwmState
with_duty s channel word = record s { duties = set s.duties channel (word % 256) }

-- after a register was set: the control word at 0, the duties at 4, 8, 12 and 16
abbrev pub set_in : PwmState → ℕ → ℕ → PwmState
set_in s reg word =
    if reg == 0 then configured s word
    else if reg == 4 then with_duty s 0 word
    else if reg == 8 then with_duty s 1 word
    else if reg == 12 then with_duty s 2 word
    else if reg == 16 then with_duty s 3 word
    else s

-- a channel's output is high in the steps below its duty
abbrev pub is_high : PwmState → ℕ → Bool
is_high s channel = s.enabled && nat_lt s.step (get_or s.duties channel 0)

-- the bit of a channel in the mask
abbrev pub channel_bit : PwmState → ℕ → ℕ
channel_bit s channel = if is_high s channel then 2 ^ channel else 0

-- the outputs of the four channels, as bits of a word
abbrev pub outputs_of : PwmState → ℕ
outputs_of s = channel_bit s 0 + channel_bit s 1 + channel_bit s 2 + channel_bit s 3

-- one cycle more of the step, and the next step where the prescaler is reached
abbrev pub counted : PwmState → PwmState
counted s =
    if s.enabled then (if nat_le s.prescaler (s.count + 1) then record s { count = 0; step = (s.step + 1) % 256 } else record s { count = s.count + 1 })
    else record s { count = 0; step = 0 }

-- the outputs of this cycle, and the count after it
abbrev pub shown : PwmState → ℕ → Given PwmState
shown s now = record { unit = counted (record s { mask = outputs_of s }); up = None; event = change_event now (unit_row Pwm).number s.mask (outputs_of s) }

-- a Reset makes all outputs low
abbrev pub reset : PwmState → ℕ → Given PwmState
reset s now = record { unit = pwm_reset; up = Some done_up; event = change_event now (unit_row Pwm).number s.mask 0 }

-- one cycle: the message first, then the outputs
unfoldable pub pwm_cycle : PwmState → ℕ → Option Down → Given PwmState
pwm_cycle s now None = shown s now
pwm_cycle s now (Some Reset) = reset s now
pwm_cycle s now (Some (Set reg word)) = shown (set_in s reg word) now
