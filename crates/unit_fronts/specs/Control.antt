-- A law over definitions: what a load of CTRL tells of a serial front, and what a store to it changes.
use Rattle.std.specs.Prelude.{◌≡◌, ◌≢◌, ◌<◌, ◌↔◌, ℕ, ◌/◌, ◌%◌, ◌^◌, true, bit_and, length}
use Rattle.std.specs.Int.{bit_at}
use Rattle.unit_fronts.specs.SerialRegisters.{SerialRegisters, serial_control}

-- the bits of CTRL that a store may write: enable (0), prescaler (3 to 5), baud (6 to 15) and interrupt enable (22)
abbrev pub writable : ℕ
writable = 0x0040fff9

-- a word has none but these bits
abbrev pub IsWritable : ℕ → Type 0
IsWritable word = bit_and word writable ≡ word

-- the word that a load of CTRL gives, bit by bit
pub record TellsControl (front : SerialRegisters) (word : ℕ) : Type 0 where
  pub enable : bit_at word 0 ≡ bit_at front.kept 0
  pub prescaler : word / 2 ^ 3 % 2 ^ 3 ≡ front.kept / 2 ^ 3 % 2 ^ 3
  pub baud : word / 2 ^ 6 % 2 ^ 10 ≡ front.kept / 2 ^ 6 % 2 ^ 10
  pub interrupts : bit_at word 22 ≡ bit_at front.kept 22
  -- a received entry waits
  pub received : (bit_at word 16 ≡ 1) ↔ (0 < length front.received)
  -- no entry may be sent
  pub full : (bit_at word 21 ≡ 1) ↔ (front.credits ≡ 0)
  pub overrun : (bit_at word 30 ≡ 1) ↔ (front.overrun ≡ true)
  -- the unit has yet to give back a credit
  pub busy : (bit_at word 31 ≡ 1) ↔ (front.credits < 16)
  -- the other bits read zero
  pub below_prescaler : word / 2 % 2 ^ 2 ≡ 0
  pub below_full : word / 2 ^ 17 % 2 ^ 4 ≡ 0
  pub below_overrun : word / 2 ^ 23 % 2 ^ 7 ≡ 0

-- what a store to an open front's CTRL changes; a store to DATA leaves what was stored there
pub record SetsControl (old : SerialRegisters) (reg word : ℕ) (new : SerialRegisters) : Type 0 where
  -- a load gives enable, prescaler, baud and interrupt enable as they were stored
  pub enable : reg ≡ 0 → bit_at (serial_control new) 0 ≡ bit_at word 0
  pub prescaler : reg ≡ 0 → serial_control new / 2 ^ 3 % 2 ^ 3 ≡ word / 2 ^ 3 % 2 ^ 3
  pub baud : reg ≡ 0 → serial_control new / 2 ^ 6 % 2 ^ 10 ≡ word / 2 ^ 6 % 2 ^ 10
  pub interrupts : reg ≡ 0 → bit_at (serial_control new) 22 ≡ bit_at word 22
  pub elsewhere : reg ≢ 0 → new.kept ≡ old.kept

-- the same of the SPI unit's CTRL, which has a divider (6 to 9) in place of baud
pub record SetsSpiControl (old : SerialRegisters) (reg word : ℕ) (new : SerialRegisters) : Type 0 where
  pub enable : reg ≡ 0 → bit_at (serial_control new) 0 ≡ bit_at word 0
  pub prescaler : reg ≡ 0 → serial_control new / 2 ^ 3 % 2 ^ 3 ≡ word / 2 ^ 3 % 2 ^ 3
  pub divider : reg ≡ 0 → serial_control new / 2 ^ 6 % 2 ^ 4 ≡ word / 2 ^ 6 % 2 ^ 4
  pub above_divider : reg ≡ 0 → serial_control new / 2 ^ 10 % 2 ^ 6 ≡ 0
  pub interrupts : reg ≡ 0 → bit_at (serial_control new) 22 ≡ bit_at word 22
  pub elsewhere : reg ≢ 0 → new.kept ≡ old.kept

-- the same of the stream link's CTRL, which has enable and interrupt enable alone
pub record SetsSlinkControl (old : SerialRegisters) (reg word : ℕ) (new : SerialRegisters) : Type 0 where
  pub enable : reg ≡ 0 → bit_at (serial_control new) 0 ≡ bit_at word 0
  pub above_enable : reg ≡ 0 → serial_control new / 2 % 2 ^ 15 ≡ 0
  pub interrupts : reg ≡ 0 → bit_at (serial_control new) 22 ≡ bit_at word 22
  pub elsewhere : reg ≢ 0 → new.kept ≡ old.kept

-- neither prescaler nor baud: bits 1 to 15 of a word are zero, as of every control word of the stream link
abbrev pub HasNoRate : ℕ → Type 0
HasNoRate word = word / 2 % 2 ^ 15 ≡ 0
