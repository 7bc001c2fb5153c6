-- What the calls of the pins' front do to each pin.
use Rattle.std.proofs.Common.{◌≡◌, ◌<◌, ℕ, ◌-◌, ◌^◌, bit_and, min, max, true, false, sym, ap, ◌∙◌}
use Rattle.std.proofs.lemmas.Bool.{true≢false, false≢true}
use Rattle.std.proofs.lemmas.Nat.Bits.{bit_at_and, bit_at_not, bit_at_or}
use Rattle.std.specs.Int.{bit_at, bit_not, w32}
use Rattle.chip_base.specs.declared.message.Up.{Up}
use Rattle.unit_fronts.specs.Owed.{is_open_at}
use Rattle.unit_fronts.specs.GpioFront.{GpioRegisters, rises, gpio_heard}
use Rattle.unit_fronts.specs.GpioRises.{MarksRises}

-- a bit of a word without the bits of another
pub cleared_pin : (a word pin : ℕ) → word < 2 ^ 32 → pin < 32
    → bit_at (bit_and a (bit_not w32 word)) pin ≡ min (bit_at a pin) (1 - bit_at word pin)
cleared_pin a word pin h k = bit_at_and a (bit_not w32 word) pin ∙ ap (min (bit_at a pin)) (bit_at_not w32 word pin h k)

-- what a word from the unit does to each pin
pub marks_heard : (s : GpioRegisters) (up : Up) (new : GpioRegisters) → new ≡ gpio_heard s up.word → up.done ≡ false → up.has ≡ true → is_open_at s.owed ≡ true
    → s.inputs < 2 ^ 32 → MarksRises s up new
marks_heard s up new e d w o h = rw e record {
  pending = λ x y z pin k.
      bit_at_or s.pending (rises s.inputs up.word) pin ∙ ap (max (bit_at s.pending pin)) (cleared_pin up.word s.inputs pin h k);
  reset_done = λ x. absurd (false≢true (sym d ∙ x));
  without_word = λ x. absurd (true≢false (sym w ∙ x));
  closed = λ x. absurd (true≢false (sym o ∙ x));
}
