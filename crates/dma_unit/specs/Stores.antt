-- A law over definitions: what a store does to the words that loads give.
use Rattle.std.specs.Prelude.{◌≡◌, ◌≢◌, ℕ, ◌%◌, ◌^◌, true, false}
use Rattle.soc_words.specs.Registers.{SetsAt}
use Rattle.dma_unit.specs.Control.{StartsCopy}
use Rattle.dma_unit.specs.DmaRegisters.{DmaRegisters, is_busy, dma_word}

-- while no copy is under way, a store to CTRL (0) sets its bits and no other store does, loads of SRC (4) and DST (8) give the word that was stored there last, and a load of COUNT (12) its low
-- 16 bits; no store changes FAULT (16)
pub record SetsRegister (old : DmaRegisters) (reg word : ℕ) (new : DmaRegisters) : Type 0 where
  pub control : reg ≡ 0 → StartsCopy old word new
  pub control_stays : reg ≢ 0 → dma_word new 0 ≡ dma_word old 0
  pub source : SetsAt reg 4 word (dma_word old 4) (dma_word new 4)
  pub destination : SetsAt reg 8 word (dma_word old 8) (dma_word new 8)
  pub count : SetsAt reg 12 (word % 2 ^ 16) (dma_word old 12) (dma_word new 12)
  pub fault : dma_word new 16 ≡ dma_word old 16

-- while a copy is under way, a store changes nothing
pub record StoresWord (old : DmaRegisters) (reg word : ℕ) (new : DmaRegisters) : Type 0 where
  pub busy : is_busy old.state ≡ true → new ≡ old
  pub at_rest : is_busy old.state ≡ false → SetsRegister old reg word new
