-- A definition: how many cycles an instruction takes.
use Rattle.std.specs.Prelude.{ℕ, ◌+◌, Bool, true, false, if◌then◌else◌}
use Rattle.rv_decode.specs.declared.instr.Op.{Op}
use Rattle.rv_decode.specs.declared.effect.CostKind.{CostKind}
use Rattle.rv_decode.specs.declared.effect.CostKind.TheVariants.{Simple, ByAmount, Multiply, ByTaken, Transfer, Access, System}
use Rattle.rv_decode.specs.Rows.{row_of}

-- the cycles of a kind, at a shift's amount and for a branch that is taken or isn't
abbrev pub kind_cycles : CostKind → ℕ → Bool → ℕ
kind_cycles Simple amount taken = 2
kind_cycles ByAmount amount taken = 3 + amount
kind_cycles Multiply amount taken = 36
kind_cycles ByTaken amount taken = if taken then 6 else 3
kind_cycles Transfer amount taken = 6
kind_cycles Access amount taken = 5
kind_cycles System amount taken = 3

-- the cycles of a row: a shift counts its amount, a branch whether it is taken; a row that traps counts the trap
abbrev pub cost_of : Op → ℕ → Bool → ℕ
cost_of op amount taken = kind_cycles (row_of op).cost amount taken

-- whether the amount counts
abbrev pub counts_amount : CostKind → Bool
counts_amount Simple = false
counts_amount ByAmount = true
counts_amount Multiply = false
counts_amount ByTaken = false
counts_amount Transfer = false
counts_amount Access = false
counts_amount System = false

-- the row is a shift
abbrev pub is_shift : Op → Bool
is_shift op = counts_amount (row_of op).cost
