-- What core 0 can begin with.
use Rattle.std.proofs.Common.{◌≡◌, ℕ, arith, Bool, true, false, cond, List, length, Some, None, refl, ap}
use Rattle.std.specs.Prelude.{is_none, nat_le, nat_lt}
use Rattle.std.proofs.lemmas.Bool.Decides.{nat_tests}
use Rattle.bench_inputs.specs.Inputs.{boot_fault}
use Rattle.chip_base.specs.declared.boot.Boot.{Boot}
use Rattle.chip_base.specs.declared.boot.Boot.TheVariants.{Direct, Monitor, Raw}
use Rattle.chip_hub.specs.Start.{fits_in}
use Rattle.image_tool.specs.declared.faults.ImageFault.{ImageFault}

passed : (t : Bool) (fault : ImageFault) → cond t (Some fault) None ≡ None → t ≡ false
passed true fault none = absurd (cc)
passed false fault none = refl

at_most : (n room : ℕ) → nat_lt room n ≡ false → nat_le n room ≡ true
at_most n room h = grind (arith, nat_tests, h)

-- for the power_on that is read: a file without a fault fits
pub fitting : (boot : Boot) (bytes : List ℕ) (room : ℕ) → boot_fault boot room bytes ≡ None → fits_in boot bytes room ≡ true
fitting Raw bytes room none = at_most (length bytes) room (passed _ _ none)
fitting Direct bytes room none = ap is_none none
fitting Monitor bytes room none = refl
