-- A law over definitions: what the calls of the pins' front do to each pin.
use Rattle.std.specs.Prelude.{◌≡◌, ◌<◌, ℕ, ◌-◌, min, max, true, false}
use Rattle.std.specs.Int.{bit_at}
use Rattle.chip_base.specs.declared.message.Up.{Up}
use Rattle.unit_fronts.specs.Owed.{is_open_at}
use Rattle.unit_fronts.specs.GpioFront.{GpioRegisters}

-- after a word from the unit a pin is pending exactly where it was, or where it is high now and was low before
pub record MarksRises (old : GpioRegisters) (up : Up) (new : GpioRegisters) : Type 0 where
  pub pending : is_open_at old.owed ≡ true → up.done ≡ false → up.has ≡ true → (pin : ℕ) → pin < 32
      → bit_at new.pending pin ≡ max (bit_at old.pending pin) (min (bit_at up.word pin) (1 - bit_at old.inputs pin))
  -- nothing else makes a pin pending
  pub reset_done : up.done ≡ true → new.pending ≡ old.pending
  pub without_word : up.has ≡ false → new.pending ≡ old.pending
  pub closed : is_open_at old.owed ≡ false → new.pending ≡ old.pending

-- a store to PENDING clears exactly the pins whose bits it has as 1
abbrev pub ClearsStored : GpioRegisters → ℕ → ℕ → GpioRegisters → Type 0
ClearsStored old reg word new = is_open_at old.owed ≡ true → reg ≡ 12 → (pin : ℕ) → pin < 32
    → bit_at new.pending pin ≡ min (bit_at old.pending pin) (1 - bit_at word pin)
