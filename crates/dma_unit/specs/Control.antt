-- A law over definitions: the bits of CTRL, read and written.
use Rattle.std.specs.Prelude.{◌≡◌, ◌<◌, ◌↔◌, ℕ, ◌/◌, ◌%◌, ◌^◌, true}
use Rattle.std.specs.Int.{bit_at}
use Rattle.dma_unit.specs.declared.state.DmaState.TheVariants.{Idle, Reading, Done, Fault}
use Rattle.dma_unit.specs.DmaRegisters.{DmaRegisters, is_busy, dma_word}

-- the word that a load of CTRL gives, bit by bit
pub record TellsDmaControl (now : DmaRegisters) (word : ℕ) : Type 0 where
  pub busy : (bit_at word 0 ≡ 1) ↔ (is_busy now.state ≡ true)
  pub interrupt : (bit_at word 1 ≡ 1) ↔ (now.interrupt ≡ true)
  pub source_fixed : (bit_at word 2 ≡ 1) ↔ (now.source_fixed ≡ true)
  pub destination_fixed : (bit_at word 3 ≡ 1) ↔ (now.destination_fixed ≡ true)
  pub at_end : (bit_at word 8 ≡ 1) ↔ (now.state ≡ Done)
  pub refused : (bit_at word 9 ≡ 1) ↔ (now.state ≡ Fault)
  -- the other bits read zero
  pub below_done : word / 2 ^ 4 % 2 ^ 4 ≡ 0
  pub above_fault : word / 2 ^ 10 ≡ 0

-- a store to CTRL while no copy is under way
pub record StartsCopy (old : DmaRegisters) (word : ℕ) (new : DmaRegisters) : Type 0 where
  -- interrupt enable, source fixed and destination fixed are read as they were stored
  pub kept : dma_word new 0 / 2 % 2 ^ 3 ≡ word / 2 % 2 ^ 3
  -- bit 0 starts a copy of COUNT words
  pub starts : bit_at word 0 ≡ 1 → 0 < old.count → new.state ≡ Reading
  -- a copy of no words is at its end
  pub ends : bit_at word 0 ≡ 1 → old.count ≡ 0 → new.state ≡ Done
  pub rests : bit_at word 0 ≡ 0 → new.state ≡ Idle
