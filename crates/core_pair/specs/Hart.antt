-- A definition: what software sees of a hart, and how an instruction or a trap leaves it.
use Rattle.std.specs.Prelude.{◌==◌, ℕ, List, slice_set, if◌then◌else◌}
use Rattle.csr_file.specs.State.{CsrsState}
use Rattle.csr_file.specs.Traps.{trapped, target, after_retire}

-- its registers, pc and CSRs, its number among them
pub record HartState : Type 0 where
  pub regs : List ℕ
  pub pc : ℕ
  pub csrs : CsrsState

-- the registers after a write; x0 keeps zero
abbrev pub with_register : List ℕ → ℕ → ℕ → List ℕ
with_register regs number value = if number == 0 then regs else slice_set regs number value

-- an instruction is done: its register has the value, and pc is the next address
unfoldable pub completed : HartState → ℕ → ℕ → ℕ → HartState
completed h rd value next = record h { regs = with_register h.regs rd value; pc = next }

-- the same, and it is counted as retired
unfoldable pub retired : HartState → ℕ → ℕ → ℕ → HartState
retired h rd value next = completed (record h { csrs = after_retire h.csrs }) rd value next

-- the hart enters a trap; it isn't counted
unfoldable pub entered : HartState → ℕ → ℕ → HartState
entered h cause value = record h { pc = target h.csrs.mtvec cause; csrs = trapped h.csrs h.pc cause value }

-- what an instruction or a trap comes to: the hart after it, and the cycles that it takes
pub record Outcome : Type 0 where
  pub hart : HartState
  pub cycles : ℕ

-- an instruction that isn't counted
abbrev pub completes : HartState → ℕ → ℕ → ℕ → ℕ → Outcome
completes h rd value next cycles = record { hart = completed h rd value next; cycles = cycles }

-- an instruction that is counted
abbrev pub retires : HartState → ℕ → ℕ → ℕ → ℕ → Outcome
retires h rd value next cycles = record { hart = retired h rd value next; cycles = cycles }

-- a trap
abbrev pub traps : HartState → ℕ → ℕ → Outcome
traps h cause value = record { hart = entered h cause value; cycles = 6 }
