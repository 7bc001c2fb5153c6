-- A definition: the timer and the software interrupts.
use Rattle.std.specs.Prelude.{◌==◌, ℕ, ◌+◌, ◌-◌, ◌*◌, ◌%◌, ◌^◌, nat_le, if◌then◌else◌}
use Rattle.chip_base.specs.Bits.{high_of, high_set, low_of, low_set}

-- for each hart the bit of its software interrupt and the time at which its timer interrupt comes, and the time
pub record ClintState : Type 0 where
  pub msip0 : ℕ
  pub msip1 : ℕ
  pub mtimecmp0 : ℕ
  pub mtimecmp1 : ℕ
  pub mtime : ℕ

-- the state at reset: no interrupt comes before the time is at its last value
abbrev pub reset_clint : ClintState
reset_clint = record { msip0 = 0; msip1 = 0; mtimecmp0 = 2 ^ 64 - 1; mtimecmp1 = 2 ^ 64 - 1; mtime = 0 }

-- what a load of a register gives: at the first two offsets the software interrupts, then the two words of each mtimecmp, low word
-- first, and those of mtime
abbrev pub clint_word : ClintState → ℕ → ℕ
clint_word s offset =
    if offset == 0 then s.msip0
    else (if offset == 4 then s.msip1
    else (if offset == 0x4000 then low_of s.mtimecmp0
    else (if offset == 0x4004 then high_of s.mtimecmp0
    else (if offset == 0x4008 then low_of s.mtimecmp1
    else (if offset == 0x400c then high_of s.mtimecmp1
    else (if offset == 0xbff8 then low_of s.mtime
    else high_of s.mtime))))))

-- the state after a store to a register; a software interrupt keeps bit 0 of its word
abbrev pub clint_stored : ClintState → ℕ → ℕ → ClintState
clint_stored s offset word =
    if offset == 0 then record s { msip0 = word % 2 }
    else (if offset == 4 then record s { msip1 = word % 2 }
    else (if offset == 0x4000 then record s { mtimecmp0 = low_set s.mtimecmp0 word }
    else (if offset == 0x4004 then record s { mtimecmp0 = high_set s.mtimecmp0 word }
    else (if offset == 0x4008 then record s { mtimecmp1 = low_set s.mtimecmp1 word }
    else (if offset == 0x400c then record s { mtimecmp1 = high_set s.mtimecmp1 word }
    else (if offset == 0xbff8 then record s { mtime = low_set s.mtime word }
    else record s { mtime = high_set s.mtime word }))))))

-- one more cycle
abbrev pub clint_ticked : ClintState → ClintState
clint_ticked s = record s { mtime = (s.mtime + 1) % 2 ^ 64 }

-- bit 3 is the software interrupt, and bit 7 is set where the time has come
abbrev pub hart_lines : ℕ → ℕ → ℕ → ℕ
hart_lines msip mtimecmp mtime = msip * 2 ^ 3 + (if nat_le mtimecmp mtime then 2 ^ 7 else 0)

-- the two bits of a hart
abbrev pub clint_mip : ClintState → ℕ → ℕ
clint_mip s hart = if hart == 0 then hart_lines s.msip0 s.mtimecmp0 s.mtime else hart_lines s.msip1 s.mtimecmp1 s.mtime
