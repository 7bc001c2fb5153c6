use Rattle.std.proofs.Common.{◌≡◌, ℕ, ◌<◌, ◌^◌, Some, true, arith}
use Rattle.std.proofs.lemmas.Bool.Decides.{nat_tests}
use Rattle.spi_flash.specs.Flash.{FlashState, byte_of, flash_at}
use Rattle.bench_report.proofs.flash_rows.byte.Goals as goal

-- a fitted flash has a byte at each of its addresses
byte_there : (f : FlashState) (at : ℕ) → f.fitted ≡ true → at < 2 ^ 23 → flash_at f at ≡ Some (byte_of f.cells at)
byte_there f at e below = grind (arith, nat_tests)

pub returns-in-Some : goal.returns-in-Some
returns-in-Some g c board s h fitted = let here = c.in-Some.ensures board s h in let there = byte_there s.units.spi.unit.flash c.args.at fitted c.requires in cc

pub returns-in-None : goal.returns-in-None
returns-in-None g c board s h fitted = let here = c.in-None.ensures board s h in let there = byte_there s.units.spi.unit.flash c.args.at fitted c.requires in absurd (cc)
