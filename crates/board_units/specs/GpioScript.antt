-- The pins in a cycle, and over many: laws over definitions.
use Rattle.std.specs.Prelude.{◌≡◌, ◌==◌, ◌<◌, ℕ, suc, Bool, true, ◌&&◌, nat_le, List, [], ◌∷◌, Option, if◌then◌else◌}
use Rattle.std.specs.Int.{bit_at}
use Rattle.chip_base.specs.Runs.{unit_after}
use Rattle.chip_base.specs.Steps.{are_pins}
use Rattle.chip_base.specs.declared.message.Down.{Down}
use Rattle.chip_base.specs.declared.script.PinStep.{PinStep}
use Rattle.board_units.specs.GpioCycle.{gpio_cycle}
use Rattle.board_units.specs.GpioState.{GpioState, gpio_start}

-- 1 for high and 0 for low
abbrev pub level_bit : Bool → ℕ
level_bit level = if level then 1 else 0

-- the level of a pin after those pin changes that count, by their cycle: its last one decides
abbrev pub level_by : (ℕ → Bool) → ℕ → List PinStep → ℕ → ℕ
level_by counts pin [] level = level
level_by counts pin (p ∷ rest) level = level_by counts pin rest (if counts p.cycle && (p.pin == pin) then level_bit p.level else level)

-- after a cycle each pin has the level that a valid script gives it in this very cycle, or else the one before
abbrev pub ChangesNow : GpioState → ℕ → ℕ → Type 0
ChangesNow s now after = are_pins s.pins ≡ true → (pin : ℕ) → pin < 32
    → bit_at after pin ≡ level_by (λ cycle. cycle == now) pin s.pins (bit_at s.inputs pin)

-- from power-on before the cycle 0, each pin has in each cycle the level that a valid script has given it, whatever the messages are
abbrev pub FollowsScript : List PinStep → Type 0
FollowsScript pins = are_pins pins ≡ true → (downs : ℕ → Option Down) (now pin : ℕ) → pin < 32
    → bit_at (unit_after gpio_cycle (gpio_start pins) 0 downs (suc now)).inputs pin ≡ level_by (λ cycle. nat_le cycle now) pin pins 0
