-- The search for a register by the units and the parts of the hub that have one at its address.
use Rattle.std.proofs.Common.{◌≡◌, ℕ, ◌+◌, ◌-◌, ◌*◌, ◌/◌, Bool, true, false, List, [], ◌∷◌, ◌++◌, Option, Some, None, refl, ap, sym, ◌∙◌, arith, if◌then◌else◌}
use Rattle.std.specs.Prelude.{◌==◌, ◌&&◌, flat_map, map, nat_le}
use Rattle.std.specs.List.{find, list_any}
use Rattle.std.specs.Option.{option_map}
use Rattle.std.proofs.lemmas.Bool.Decides.{nat_tests}
use Rattle.chip_base.specs.UnitTable.{all_parts, all_units, part_row, unit_row}
use Rattle.chip_base.specs.declared.chip_unit.ChipUnit.{ChipUnit}
use Rattle.chip_base.specs.declared.chip_unit.HubPart.{HubPart}
use Rattle.soc_bus.specs.Map.{Register, device_of, part_region, part_registers, registers, unit_registers, word_in}
use Rattle.soc_bus.specs.Parts.{first_of, found_at, part_at, unit_at, unit_region}
use Rattle.soc_bus.specs.declared.access.Region.{Region}
use Rattle.soc_bus.specs.declared.access.Region.TheVariants.{Device}

-- the registers of one device, from its base and its offsets
device : ℕ → (ℕ → Region) → List ℕ → List Register
device base region offsets = map (λ o. record { address = base + o; region = region o }) offsets

in_two : (a : ℕ) (rs ss : List Register) → word_in a (rs ++ ss) ≡ first_of (word_in a rs) (word_in a ss)
in_two a [] ss = refl
in_two a (r ∷ rs) ss = by_first a r rs ss (in_two a rs ss) (r.address == a) refl
  where
    by_first : (a : ℕ) (r : Register) (rs ss : List Register) → word_in a (rs ++ ss) ≡ first_of (word_in a rs) (word_in a ss)
        → (b : Bool) → (r.address == a) ≡ b → word_in a ((r ∷ rs) ++ ss) ≡ first_of (word_in a (r ∷ rs)) (word_in a ss)
    by_first a r rs ss rest true e = rw e refl
    by_first a r rs ss rest false e = rw e rest

same_place : (base a o : ℕ) → (base + o == a) ≡ (nat_le base a && (o == a - base))
same_place base a o = grind (arith, nat_tests)

-- a device's registers have that of an address where it is at or above the base, and its offset is one of the device's
in_device : (a base : ℕ) (region : ℕ → Region) (offsets : List ℕ)
    → word_in a (device base region offsets) ≡ (if nat_le base a && list_any (λ o. o == a - base) offsets then Some (region (a - base)) else None)
unfolding device
in_device a base region [] = by_base (nat_le base a) refl
  where
    by_base : (b : Bool) → nat_le base a ≡ b → ◌≡◌ {A = Option Region} None (if nat_le base a && false then Some (region (a - base)) else None)
    by_base true e = rw e refl
    by_base false e = rw e refl
in_device a base region (o ∷ os) = by_offset a base region o os (in_device a base region os) (nat_le base a) (o == a - base) refl refl
  where
    by_offset : (a base : ℕ) (region : ℕ → Region) (o : ℕ) (os : List ℕ)
        → word_in a (device base region os) ≡ (if nat_le base a && list_any (λ o. o == a - base) os then Some (region (a - base)) else None)
        → (above here : Bool) → nat_le base a ≡ above → (o == a - base) ≡ here
        → word_in a (device base region (o ∷ os)) ≡ (if nat_le base a && list_any (λ o. o == a - base) (o ∷ os) then Some (region (a - base)) else None)
    by_offset a base region o os rest true true e f =
        let met : (base + o == a) ≡ true = same_place base a o ∙ rw (e, f) refl in
        let same : o ≡ a - base = grind (arith, nat_tests) in
        rw (met, e, f) (ap (λ n. Some (region n)) same)
    by_offset a base region o os rest true false e f =
        let met : (base + o == a) ≡ false = same_place base a o ∙ rw (e, f) refl in
        rw (met, f) rest
    by_offset a base region o os rest false here e f =
        let met : (base + o == a) ≡ false = same_place base a o ∙ rw e refl in
        let none : word_in a (device base region os) ≡ None = rest ∙ rw e refl in
        rw (met, e) none

in_units : (a : ℕ) (units : List ChipUnit) → word_in a (flat_map unit_registers units) ≡ option_map (unit_region a) (find (unit_at a) units)
unfolding device
in_units a [] = refl
in_units a (u ∷ us) =
    in_two a (unit_registers u) (flat_map unit_registers us)
    ∙ by_first a u us (in_device a (unit_row u).base (λ o. Device (unit_row u).number o) (unit_row u).offsets) (in_units a us) (unit_at a u) refl
  where
    by_first : (a : ℕ) (u : ChipUnit) (us : List ChipUnit) → word_in a (unit_registers u) ≡ (if unit_at a u then Some (unit_region a u) else None)
        → word_in a (flat_map unit_registers us) ≡ option_map (unit_region a) (find (unit_at a) us) → (b : Bool) → unit_at a u ≡ b
        → first_of (word_in a (unit_registers u)) (word_in a (flat_map unit_registers us)) ≡ option_map (unit_region a) (find (unit_at a) (u ∷ us))
    by_first a u us here rest true e = rw (here, e) refl
    by_first a u us here rest false e = rw (here, e) rest

in_parts : (a : ℕ) (parts : List HubPart) → word_in a (flat_map part_registers parts) ≡ option_map part_region (find (part_at a) parts)
unfolding device
in_parts a [] = refl
in_parts a (p ∷ ps) =
    in_two a (part_registers p) (flat_map part_registers ps)
    ∙ by_first a p ps (in_device a (part_row p).base (λ o. part_region p) (part_row p).offsets) (in_parts a ps) (part_at a p) refl
  where
    by_first : (a : ℕ) (p : HubPart) (ps : List HubPart) → word_in a (part_registers p) ≡ (if part_at a p then Some (part_region p) else None)
        → word_in a (flat_map part_registers ps) ≡ option_map part_region (find (part_at a) ps) → (b : Bool) → part_at a p ≡ b
        → first_of (word_in a (part_registers p)) (word_in a (flat_map part_registers ps)) ≡ option_map part_region (find (part_at a) (p ∷ ps))
    by_first a p ps here rest true e = rw (here, e) refl
    by_first a p ps here rest false e = rw (here, e) rest

-- the device of an address is found by units and parts
pub device_found : (a : ℕ) → found_at (4 * (a / 4)) ≡ device_of a
unfolding registers
device_found a =
    sym (in_two (4 * (a / 4)) (flat_map unit_registers all_units) (flat_map part_registers all_parts)
    ∙ ap (λ x. first_of x (word_in (4 * (a / 4)) (flat_map part_registers all_parts))) (in_units (4 * (a / 4)) all_units)
    ∙ ap (first_of (option_map (unit_region (4 * (a / 4))) (find (unit_at (4 * (a / 4))) all_units))) (in_parts (4 * (a / 4)) all_parts))
