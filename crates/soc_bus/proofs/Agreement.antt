-- The map and the memories agree.
use Rattle.std.proofs.Common.{◌≡◌, ℕ, ◌+◌, ◌-◌, ◌*◌, ◌/◌, ◌%◌, ◌^◌, ◌<◌, ◌≤◌, ◌⊎◌, inl, inr, Bool, true, false, List, [], ◌∷◌, length, refl, subst, arith}
use Rattle.std.specs.Prelude.{◌==◌, ◌&&◌, nat_le, nat_lt, not, Some, Option, IfSome, if◌then◌else◌}
use Rattle.std.specs.Option.{MatchOption}
use Rattle.std.proofs.lemmas.Bool.Decides.{nat_tests}
use Rattle.soc_bus.specs.Access.{width_bytes}
use Rattle.soc_bus.specs.Map.{Agrees, Register, device_of, is_memory, region_of, registers, word_in}
use Rattle.soc_bus.specs.Memory.{IsSize, MemoryState, place_of}
use Rattle.soc_bus.proofs.Bytes.{has_bytes}
use Rattle.std.proofs.lemmas.Bool.{cases_lt}
use Rattle.soc_bus.specs.declared.access.Region.{Region}
use Rattle.soc_bus.specs.declared.access.Request.{Request}
use Rattle.soc_bus.specs.declared.access.Width.{Width}
use Rattle.soc_bus.specs.declared.access.Width.TheVariants.{Byte, Half, Word}

-- no register belongs to a memory
abbrev are_devices : List Register → Bool
are_devices [] = true
are_devices (r ∷ rs) = not (is_memory r.region) && are_devices rs

either : {T : Type 0} (b : Bool) (x y : T) (P : T → Type 0) → P x → P y → P (if b then x else y)
either true x y P px py = px
either false x y P px py = py

word_device : (rs : List Register) (a : ℕ) → are_devices rs ≡ true → IfSome (word_in a rs) (λ g. is_memory g ≡ false)
word_device [] a h = tt
word_device (r ∷ rs) a h =
    let here : is_memory r.region ≡ false = grind arith in
    let there : IfSome (word_in a rs) (λ g. is_memory g ≡ false) = word_device rs a (grind arith) in
    either (r.address == a) (Some r.region) (word_in a rs) (λ o. IfSome o (λ g. is_memory g ≡ false)) here there

device_device : (a : ℕ) → IfSome (device_of a) (λ g. is_memory g ≡ false)
unfolding registers
device_device a = word_device registers (4 * (a / 4)) refl

-- an aligned access that begins in a memory ends in it
fits : (width : Width) (a size : ℕ) → a % width_bytes width ≡ 0 → size % 4096 ≡ 0 → a < size → a + width_bytes width ≤ size
fits Byte a size aligned pages within = omega arith
fits Half a size aligned pages within = omega arith
fits Word a size aligned pages within = omega arith

from_dmem : (width : Width) (a : ℕ) → a % width_bytes width ≡ 0 → 2 ^ 31 ≤ a → (a - 2 ^ 31) % width_bytes width ≡ 0
from_dmem Byte a aligned above = omega arith
from_dmem Half a aligned above = omega arith
from_dmem Word a aligned above = omega arith

-- what lies at an address agrees with the place of an access there
region_agrees : (m : MemoryState) (width : Width) (a : ℕ) → IsSize (length m.imem) → IsSize (length m.dmem)
    → a % width_bytes width ≡ 0 → (a < length m.imem) ⊎ (length m.imem ≤ a)
    → (a < 2 ^ 31) ⊎ (2 ^ 31 ≤ a) → (a - 2 ^ 31 < length m.dmem) ⊎ (length m.dmem ≤ a - 2 ^ 31)
    → IfSome (region_of (length m.imem) (length m.dmem) a)
    (λ g. MatchOption (place_of m a (width_bytes width)) (is_memory g ≡ false) (λ p. g ≡ p.0))
region_agrees m width a si sd aligned (inl below) half there =
    let room = fits width a (length m.imem) aligned si.pages below in
    let t1 : nat_lt a (length m.imem) ≡ true = grind (arith, nat_tests) in
    let t2 : nat_le (2 ^ 31) a ≡ false = grind (arith, nat_tests, si.to) in
    let t3 : nat_le (a + width_bytes width) (length m.imem) ≡ true = grind (arith, nat_tests) in
    rw (t1, t2, t3) refl
region_agrees m width a si sd aligned (inr past) (inl low) there =
    let some = has_bytes width in
    let t1 : nat_lt a (length m.imem) ≡ false = grind (arith, nat_tests) in
    let t2 : nat_le (2 ^ 31) a ≡ false = grind (arith, nat_tests) in
    let t3 : nat_le (a + width_bytes width) (length m.imem) ≡ false = grind (arith, nat_tests) in
    rw (t1, t2, t3) (device_device a)
region_agrees m width a si sd aligned (inr past) (inr high) (inl below) =
    let room = fits width (a - 2 ^ 31) (length m.dmem) (from_dmem width a aligned high) sd.pages below in
    let t1 : nat_lt a (length m.imem) ≡ false = grind (arith, nat_tests) in
    let t2 : nat_le (2 ^ 31) a ≡ true = grind (arith, nat_tests) in
    let t3 : nat_lt (a - 2 ^ 31) (length m.dmem) ≡ true = grind (arith, nat_tests) in
    let t4 : nat_le (a - 2 ^ 31 + width_bytes width) (length m.dmem) ≡ true = grind (arith, nat_tests) in
    rw (t1, t2, t3, t4) refl
region_agrees m width a si sd aligned (inr past) (inr high) (inr over) =
    let some = has_bytes width in
    let t1 : nat_lt a (length m.imem) ≡ false = grind (arith, nat_tests) in
    let t2 : nat_le (2 ^ 31) a ≡ true = grind (arith, nat_tests) in
    let t3 : nat_lt (a - 2 ^ 31) (length m.dmem) ≡ false = grind (arith, nat_tests) in
    let t4 : nat_le (a - 2 ^ 31 + width_bytes width) (length m.dmem) ≡ false = grind (arith, nat_tests) in
    rw (t1, t2, t3, t4) (device_device a)

-- the region of an aligned access agrees with its place
pub some_agrees : (m : MemoryState) (r : Request) (imem dmem : ℕ) (region : Region) → IsSize imem → IsSize dmem
    → r.addr % width_bytes r.width ≡ 0 → region_of imem dmem r.addr ≡ Some region
    → length m.imem ≡ imem → length m.dmem ≡ dmem → Agrees m r region
some_agrees m r imem dmem region si sd aligned is ei ed =
    let all = region_agrees m r.width r.addr (rw ei si) (rw ed sd) aligned (cases_lt _ _) (cases_lt _ _) (cases_lt _ _) in
    let here : region_of (length m.imem) (length m.dmem) r.addr ≡ Some region = rw (ei, ed) is in
    subst (λ (o : Option Region). IfSome o (Agrees m r)) here all
