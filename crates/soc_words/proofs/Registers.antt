-- Which register of a device a store sets.
use Rattle.std.proofs.Common.{◌≡◌, ◌≢◌, ℕ, true, false, refl, sym, ◌∙◌, arith}
use Rattle.std.specs.Prelude.{◌==◌}
use Rattle.std.proofs.lemmas.Bool.Decides.{nat_tests}
use Rattle.soc_words.specs.Registers.{SetsAt}

-- an offset that was found by a test, and one that was ruled out
pub same_as : (reg offset : ℕ) → (reg == offset) ≡ true → reg ≡ offset
same_as reg offset e = grind (arith, nat_tests)

pub other_than : (reg offset : ℕ) → (reg == offset) ≡ false → reg ≢ offset
other_than reg offset e = grind (arith, nat_tests)

-- a store here is no store to another register
pub apart : (reg here offset : ℕ) → (reg == here) ≡ true → here ≢ offset → reg ≢ offset
apart reg here offset e n same = n (sym (same_as reg here e) ∙ same)

-- the register that is stored to gets what it keeps
pub sets : (reg offset kept before : ℕ) → reg ≡ offset → SetsAt reg offset kept before kept
sets reg offset kept before e = record { there = λ same. refl; elsewhere = λ other. absurd (other e) }

-- any other register stays
pub leaves : (reg offset kept before : ℕ) → reg ≢ offset → SetsAt reg offset kept before before
leaves reg offset kept before e = record { there = λ same. absurd (e same); elsewhere = λ other. refl }
