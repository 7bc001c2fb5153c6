-- The fixed bits of CSRs: a write of the word that a CSR holds would keep it.
use Rattle.std.proofs.Common.{◌≡◌, ℕ, ◌%◌, ◌/◌, ◌*◌, ◌^◌, ◌<◌, ap, arith, sym, ◌∙◌, bit_and, bit_or, lit≤, Bool, true, false, refl, if◌then◌else◌}
use Rattle.std.specs.Int.Bits.{and_self}
use Rattle.std.proofs.lemmas.Nat.Bits.{bit_at_or, bit_at_and, same_from_bits}
use Rattle.csr_file.specs.Table.{IsKeptBy}
use Rattle.csr_file.specs.Traps.{mstatus_with}
use Rattle.csr_file.specs.declared.names.Csr.TheVariants.{Mstatus}
use Rattle.std.specs.Int.{bit_at}
use Rattle.std.proofs.lemmas.Nat.{and_assoc, and_mod, and_le_r}
use Rattle.std.proofs.lemmas.Nat.Bits.{and_high_mask}

-- a mask twice is the mask once
pub masked_twice : (value mask : ℕ) → bit_and (bit_and value mask) mask ≡ bit_and value mask
masked_twice value mask = and_assoc mask value mask ∙ ap (λ m. bit_and value m) (and_self mask)

both_kept : (v m o i : ℕ) → bit_at (bit_or (bit_and (bit_or (bit_and v m) o) m) o) i ≡ bit_at (bit_or (bit_and v m) o) i
both_kept v m o i = grind (arith, bit_at_or, bit_at_and)

-- bits kept beside fixed ones, twice, are the same once
pub beside_twice : (value mask ones : ℕ) → bit_or (bit_and (bit_or (bit_and value mask) ones) mask) ones ≡ bit_or (bit_and value mask) ones
beside_twice value mask ones = same_from_bits _ _ (both_kept value mask ones)

-- what a trap and a return make of mstatus
pub status_fixed : (mie mpie : Bool) → IsKeptBy Mstatus (mstatus_with (if mie then 1 else 0) (if mpie then 1 else 0))
status_fixed true true = refl
status_fixed true false = refl
status_fixed false true = refl
status_fixed false false = refl

halved : (n : ℕ) → n % 2 ≡ 0 → n / 2 ^ 1 * 2 ^ 1 ≡ n
halved n even = grind arith

pub even_fixed : (n : ℕ) → n < 2 ^ 32 → n % 2 ≡ 0 → bit_and n 0xfffffffe ≡ n
even_fixed n bound even = and_high_mask 32 1 (lit≤ tt) n bound ∙ halved n even

zero_and : (n : ℕ) → bit_and n 0 ≡ 0
zero_and n = grind (arith, and_le_r n 0)

pub fixed_even : (n : ℕ) → bit_and n 0xfffffffe ≡ n → n % 2 ≡ 0
fixed_even n fixed = sym (ap (λ w. w % 2 ^ 1) fixed) ∙ and_mod n 0xfffffffe 1 ∙ zero_and (n % 2 ^ 1)
