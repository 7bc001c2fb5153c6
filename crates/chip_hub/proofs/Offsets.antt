-- Each register of the address map is one that its part of the chip has.
use Rattle.std.proofs.Common.{◌≡◌, ℕ, ◌-◌, ◌*◌, ◌/◌, ◌%◌, ◌^◌, List, [], ◌∷◌, Option, Some, None, Result, Ok, Err, refl, ap, sym, ◌∙◌, arith, subst}
use Rattle.std.specs.Prelude.{◌==◌, ◌&&◌, Bool, true, false, nat_lt, nat_le, if◌then◌else◌}
use Rattle.std.specs.List.{list_all}
use Rattle.std.proofs.lemmas.Bool.Decides.{nat_tests}
use Rattle.soc_bus.specs.Map.{Register, registers, word_in, device_of, region_of, reached, is_narrow, admitted}
use Rattle.soc_bus.specs.Access.{width_bytes}
use Rattle.soc_bus.specs.declared.access.BusFault.TheVariants.{Misaligned, Narrow}
use Rattle.soc_bus.specs.declared.access.Request.{Request}
use Rattle.soc_bus.specs.declared.access.BusFault.{BusFault}
use Rattle.soc_bus.specs.declared.access.Region.{Region}
use Rattle.soc_bus.specs.declared.access.Region.TheVariants.{Imem, Dmem}
use Rattle.chip_hub.specs.Offsets.{fits_at, register_fits}

-- the rule holds of the whole table
all_fit : list_all register_fits registers ≡ true
unfolding registers
all_fit = refl

both : (a b : Bool) → (a && b) ≡ true → (a ≡ true) × (b ≡ true)
both true true e = (refl, refl)
both true false e = absurd (cc)
both false b e = absurd (cc)

some_same : (a b : Region) → Some a ≡ Some b → a ≡ b
some_same a b e = cc

word_fits : (address : ℕ) (region : Region) (rs : List Register) → list_all register_fits rs ≡ true → word_in address rs ≡ Some region
    → fits_at address region ≡ true
word_fits address region [] a e = absurd (cc)
word_fits address region (r ∷ rs) a e =
    let here : (b : Bool) → (r.address == address) ≡ b → fits_at address region ≡ true = word_fits_by address region r rs a e (word_fits address region rs) in
    here (r.address == address) refl
  where
    word_fits_by : (address : ℕ) (region : Region) (r : Register) (rs : List Register) → list_all register_fits (r ∷ rs) ≡ true
        → word_in address (r ∷ rs) ≡ Some region → (list_all register_fits rs ≡ true → word_in address rs ≡ Some region → fits_at address region ≡ true)
        → (b : Bool) → (r.address == address) ≡ b → fits_at address region ≡ true
    word_fits_by address region r rs a e more true t =
        let same : r.address ≡ address = grind (arith, nat_tests) in
        let found : Some r.region ≡ Some region = sym (ap (λ b. if b then Some r.region else word_in address rs) t) ∙ e in
        subst (λ at. fits_at at region ≡ true) same (subst (λ what. fits_at r.address what ≡ true) (some_same r.region region found) (both (register_fits r) (list_all register_fits rs) a).0)
    word_fits_by address region r rs a e more false t =
        more (both (register_fits r) (list_all register_fits rs) a).1 (sym (ap (λ b. if b then Some r.region else word_in address rs) t) ∙ e)

region_fits : (imem dmem address : ℕ) (region : Region) → region_of imem dmem address ≡ Some region → fits_at (4 * (address / 4)) region ≡ true
region_fits imem dmem address region e =
    let here : (b : Bool) → nat_lt address imem ≡ b → fits_at (4 * (address / 4)) region ≡ true = by_imem imem dmem address region e in
    here (nat_lt address imem) refl
  where
    by_dmem : (dmem address : ℕ) (region : Region) → (b : Bool) → (if b then Some Dmem else device_of address) ≡ Some region
        → fits_at (4 * (address / 4)) region ≡ true
    by_dmem dmem address region true e = subst (λ what. fits_at (4 * (address / 4)) what ≡ true) (some_same Dmem region e) refl
    by_dmem dmem address region false e = word_fits (4 * (address / 4)) region registers all_fit e

    by_imem : (imem dmem address : ℕ) (region : Region) → region_of imem dmem address ≡ Some region → (b : Bool) → nat_lt address imem ≡ b
        → fits_at (4 * (address / 4)) region ≡ true
    by_imem imem dmem address region e true t =
        let found : Some Imem ≡ Some region
        = sym (ap (λ b. if b then Some Imem else (if nat_le (2 ^ 31) address && nat_lt (address - 2 ^ 31) dmem then Some Dmem else device_of address)) t) ∙ e in
        subst (λ what. fits_at (4 * (address / 4)) what ≡ true) (some_same Imem region found) refl
    by_imem imem dmem address region e false t =
        by_dmem dmem address region (nat_le (2 ^ 31) address && nat_lt (address - 2 ^ 31) dmem)
        (sym (ap (λ b. if b then Some Imem else (if nat_le (2 ^ 31) address && nat_lt (address - 2 ^ 31) dmem then Some Dmem else device_of address)) t) ∙ e)

-- a request that is admitted reaches a register that its part of the chip has
pub admitted_fits : (r : Request) (imem dmem : ℕ) (region : Region) → admitted r imem dmem ≡ Ok region → fits_at (4 * (r.addr / 4)) region ≡ true
admitted_fits r imem dmem region e =
    by_alignment r imem dmem region (r.addr % width_bytes r.width == 0) e
  where
    ok_same : (a b : Region) → ◌≡◌ {A = Result Region BusFault} (Ok a) (Ok b) → a ≡ b
    ok_same a b e = cc

    by_narrow : (r : Request) (imem dmem : ℕ) (region found : Region) → region_of imem dmem r.addr ≡ Some found → (b : Bool)
        → (if b then Err Narrow else Ok found) ≡ Ok region → fits_at (4 * (r.addr / 4)) region ≡ true
    by_narrow r imem dmem region found f true e = absurd (cc)
    by_narrow r imem dmem region found f false e =
        subst (λ what. fits_at (4 * (r.addr / 4)) what ≡ true) (ok_same found region e) (region_fits imem dmem r.addr found f)

    by_region : (r : Request) (imem dmem : ℕ) (region : Region) → (o : Option Region) → region_of imem dmem r.addr ≡ o → reached r o ≡ Ok region
        → fits_at (4 * (r.addr / 4)) region ≡ true
    by_region r imem dmem region None f e = absurd (cc)
    by_region r imem dmem region (Some found) f e = by_narrow r imem dmem region found f (is_narrow r found) e

    by_alignment : (r : Request) (imem dmem : ℕ) (region : Region) → (b : Bool)
        → (if b then reached r (region_of imem dmem r.addr) else Err Misaligned) ≡ Ok region → fits_at (4 * (r.addr / 4)) region ≡ true
    by_alignment r imem dmem region true e = by_region r imem dmem region (region_of imem dmem r.addr) refl e
    by_alignment r imem dmem region false e = absurd (cc)
