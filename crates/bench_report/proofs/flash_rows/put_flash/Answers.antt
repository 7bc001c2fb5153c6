use Rattle.std.proofs.Common.{◌≡◌, ℕ, Bool, ◌&&◌, nat_lt, Some, None, true, false, if◌then◌else◌, refl, ◌∙◌, ap, sym}
use Rattle.std.specs.Option.{is_some}
use Rattle.bench_shelf.proofs.Writing.{writes_begin}
use Rattle.spi_flash.specs.Flash.{FlashState, byte_of, flash_at, flash_size}
use Rattle.bench_report.proofs.flash_rows.put_flash.Goals as goal

shows : (fitted : Bool) (byte : ℕ) → is_some (if fitted && nat_lt 0 flash_size then Some byte else None) ≡ fitted
shows true byte = refl
shows false byte = refl

-- a flash shows a byte at its first address where it is fitted
first_byte : (f : FlashState) → is_some (flash_at f 0) ≡ f.fitted
first_byte f = shows f.fitted (byte_of f.cells 0)

pub returns-then-is_some : goal.returns-then-is_some
returns-then-is_some g c board s h =
    let fitted : s.units.spi.unit.flash.fitted ≡ true
    = sym (first_byte s.units.spi.unit.flash) ∙ ap is_some (sym (c.flash.ensures board s h)) ∙ sym c.is_some.ensures ∙ c.if-is_some.true in
    rw fitted (c.put_rows.ensures board s h fitted)

pub returns-else-is_some : goal.returns-else-is_some
returns-else-is_some g c board s h =
    let fitted : s.units.spi.unit.flash.fitted ≡ false
    = sym (first_byte s.units.spi.unit.flash) ∙ ap is_some (sym (c.flash.ensures board s h)) ∙ sym c.is_some.ensures ∙ c.if-is_some.false in
    rw fitted (writes_begin _ _ _)
