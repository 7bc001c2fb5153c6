-- A store sets the register at its offset, and no other.
use Rattle.std.proofs.Common.{◌≡◌, ℕ, ◌%◌, ◌^◌, Bool, true, false, refl, sym, ◌∙◌, arith, subst}
use Rattle.std.specs.Prelude.{◌==◌}
use Rattle.std.proofs.lemmas.Bool.{true≢false, false≢true}
use Rattle.dma_unit.specs.DmaRegisters.{DmaRegisters, is_busy, dma_stored, stored_at_rest}
use Rattle.soc_words.proofs.Registers.{apart, leaves, other_than, same_as, sets}
use Rattle.dma_unit.proofs.Control.{starts_copy}
use Rattle.dma_unit.specs.Stores.{SetsRegister, StoresWord}

sets_register : (c : DmaRegisters) (reg word : ℕ) (b0 b4 b8 b12 : Bool) → (reg == 0) ≡ b0 → (reg == 4) ≡ b4 → (reg == 8) ≡ b8 → (reg == 12) ≡ b12
    → SetsRegister c reg word (stored_at_rest c reg word)
sets_register c reg word true b4 b8 b12 p q r t = rw p record {
  control = λ here. starts_copy c word;
  control_stays = λ other. absurd (other (same_as reg 0 p));
  source = leaves reg 4 word _ (apart reg 0 4 p (omega arith));
  destination = leaves reg 8 word _ (apart reg 0 8 p (omega arith));
  count = leaves reg 12 _ _ (apart reg 0 12 p (omega arith));
  fault = refl;
}
sets_register c reg word false true b8 b12 p q r t = rw (p, q) record {
  control = λ here. absurd (other_than reg 0 p here);
  control_stays = λ other. refl;
  source = sets reg 4 word _ (same_as reg 4 q);
  destination = leaves reg 8 word _ (apart reg 4 8 q (omega arith));
  count = leaves reg 12 _ _ (apart reg 4 12 q (omega arith));
  fault = refl;
}
sets_register c reg word false false true b12 p q r t = rw (p, q, r) record {
  control = λ here. absurd (other_than reg 0 p here);
  control_stays = λ other. refl;
  source = leaves reg 4 word _ (other_than reg 4 q);
  destination = sets reg 8 word _ (same_as reg 8 r);
  count = leaves reg 12 _ _ (apart reg 8 12 r (omega arith));
  fault = refl;
}
sets_register c reg word false false false true p q r t = rw (p, q, r, t) record {
  control = λ here. absurd (other_than reg 0 p here);
  control_stays = λ other. refl;
  source = leaves reg 4 word _ (other_than reg 4 q);
  destination = leaves reg 8 word _ (other_than reg 8 r);
  count = sets reg 12 (word % 2 ^ 16) _ (same_as reg 12 t);
  fault = refl;
}
sets_register c reg word false false false false p q r t = rw (p, q, r, t) record {
  control = λ here. absurd (other_than reg 0 p here);
  control_stays = λ other. refl;
  source = leaves reg 4 word _ (other_than reg 4 q);
  destination = leaves reg 8 word _ (other_than reg 8 r);
  count = leaves reg 12 _ _ (other_than reg 12 t);
  fault = refl;
}

stores_by : (c : DmaRegisters) (reg word : ℕ) (busy : Bool) → is_busy c.state ≡ busy → StoresWord c reg word (dma_stored c reg word)
stores_by c reg word true p = record { busy = λ b. rw p refl; at_rest = λ b. absurd (true≢false (sym p ∙ b)) }
stores_by c reg word false p = record {
  busy = λ b. absurd (false≢true (sym p ∙ b));
  at_rest = λ b. rw p (sets_register c reg word _ _ _ _ refl refl refl refl);
}

pub stores : (c : DmaRegisters) (reg word : ℕ) (new : DmaRegisters) → new ≡ dma_stored c reg word → StoresWord c reg word new
stores c reg word new e = subst (λ n. StoresWord c reg word n) (sym e) (stores_by c reg word _ refl)
