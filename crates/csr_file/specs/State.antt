-- A definition: the words of a hart's CSRs that change, and its number.
use Rattle.std.specs.Prelude.{ℕ}

-- words of 32 bits, but for the counters mcycle and minstret, which have 64, and the number of the hart, 0 or 1
pub record CsrsState : Type 0 where
  pub hart : ℕ
  pub mstatus : ℕ
  pub mie : ℕ
  pub mtvec : ℕ
  pub mscratch : ℕ
  pub mepc : ℕ
  pub mcause : ℕ
  pub mtval : ℕ
  pub mcycle : ℕ
  pub minstret : ℕ
