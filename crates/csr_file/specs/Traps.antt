-- A definition: traps, returns from them and interrupts, as in the privileged manual, chapter "Machine-Level ISA".
use Rattle.std.specs.Prelude.{◌==◌, ℕ, ◌+◌, ◌*◌, ◌/◌, ◌%◌, ◌^◌, Bool, List, [], ◌∷◌, Option, None, bit_and, if◌then◌else◌, ◌&&◌}
use Rattle.std.specs.Int.{bit_at}
use Rattle.std.specs.List.{find}
use Rattle.std.specs.Option.{option_map}
use mathlib.Core.Bool.{not}
use Rattle.csr_file.specs.Causes.{interrupt_cause, is_interrupt}
use Rattle.csr_file.specs.State.{CsrsState}
use Rattle.csr_file.specs.Table.{at_reset}
use Rattle.csr_file.specs.declared.names.Csr.TheVariants.{Mstatus}

-- interrupts are enabled: MIE, bit 3 of mstatus, is 1
abbrev pub enabled : CsrsState → Bool
enabled s = bit_at s.mstatus 3 == 1

-- mstatus with these two bits, MIE and MPIE; all others are as at reset
abbrev pub mstatus_with : ℕ → ℕ → ℕ
mstatus_with mie mpie = at_reset 0 0 Mstatus + mie * 2 ^ 3 + mpie * 2 ^ 7

-- the state after a trap: MPIE is what MIE was, and MIE is 0
unfoldable pub trapped : CsrsState → ℕ → ℕ → ℕ → CsrsState
trapped s pc cause value = record s { mepc = pc; mcause = cause; mtval = value; mstatus = mstatus_with 0 (bit_at s.mstatus 3) }

-- where a trap goes: an interrupt has its own entry where bit 0 of mtvec is 1
unfoldable pub target : ℕ → ℕ → ℕ
target mtvec cause =
    let base = mtvec / 4 * 4 in
    if is_interrupt cause && mtvec % 2 == 1 then (base + 4 * (cause % 2 ^ 31)) % 2 ^ 32 else base

-- the state after mret: MIE is what MPIE was, and MPIE is 1
unfoldable pub returned : CsrsState → CsrsState
returned s = record s { mstatus = mstatus_with (bit_at s.mstatus 7) 1 }

-- the numbers of the interrupts, the first taken first
abbrev pub interrupt_order : List ℕ
interrupt_order = 11 ∷ 3 ∷ 7 ∷ 16 ∷ 17 ∷ 18 ∷ 19 ∷ 20 ∷ 21 ∷ 22 ∷ 23 ∷ 24 ∷ 25 ∷ 26 ∷ 27 ∷ 28 ∷ 29 ∷ 30 ∷ 31 ∷ []

-- the cause of the first interrupt of the order whose bit is set
abbrev pub first_cause : ℕ → Option ℕ
first_cause ready = option_map interrupt_cause (find (λ number. bit_at ready number == 1) interrupt_order)

-- the cause of the interrupt that is taken, where `mip` is what the lines give
unfoldable pub pending_in : CsrsState → ℕ → Option ℕ
pending_in s mip = if enabled s then first_cause (bit_and mip s.mie) else None

-- some interrupt is pending and enabled by mie, whatever MIE is
unfoldable pub wakes_in : CsrsState → ℕ → Bool
wakes_in s mip = not (bit_and mip s.mie == 0)

-- one more turn
abbrev pub after_tick : CsrsState → CsrsState
after_tick s = record s { mcycle = (s.mcycle + 1) % 2 ^ 64 }

-- one more retired instruction
abbrev pub after_retire : CsrsState → CsrsState
after_retire s = record s { minstret = (s.minstret + 1) % 2 ^ 64 }
