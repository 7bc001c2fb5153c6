-- A store sets the register at its offset, and no other.
use Rattle.std.proofs.Common.{◌≡◌, ◌⊎◌, inl, inr, ◌<◌, ℕ, ◌/◌, ◌%◌, ◌^◌, bit_and, Bool, true, false, List, [], ◌∷◌, length, refl, sym, ap, ◌∙◌, arith, subst}
use Rattle.std.proofs.lemmas.Nat.{and_mask, and_mod, and_shr}
use Rattle.std.specs.Prelude.{◌==◌}
use Rattle.soc_words.proofs.Registers.{apart, leaves, other_than, same_as, sets}
use Rattle.unit_fronts.specs.GpioFront.{GpioRegisters, gpio_stored}
use Rattle.unit_fronts.specs.LoadsAfterStore.{StoresDuties, StoresPins, StoresWatchdog}
use Rattle.unit_fronts.specs.Owed.{is_open_at}
use Rattle.unit_fronts.specs.PwmFront.{PwmRegisters, pwm_stored}
use Rattle.unit_fronts.specs.WdtFront.{WatchdogRegisters, watchdog_kept, watchdog_stored}

pins_by : (s : GpioRegisters) (reg word : ℕ) (b4 b8 b12 : Bool) → is_open_at s.owed ≡ true → (reg == 4) ≡ b4 → (reg == 8) ≡ b8 → (reg == 12) ≡ b12
    → StoresPins s reg word (gpio_stored s reg word)
pins_by s reg word true b8 b12 o p q r = rw (o, p) record {
  inputs = rw o refl;
  outputs = rw o (sets reg 4 word _ (same_as reg 4 p));
  enable = rw o (leaves reg 8 word _ (apart reg 4 8 p (omega arith)));
  pending = λ other. rw o refl;
}
pins_by s reg word false true b12 o p q r = rw (o, p, q) record {
  inputs = rw o refl;
  outputs = rw o (leaves reg 4 word _ (other_than reg 4 p));
  enable = rw o (sets reg 8 word _ (same_as reg 8 q));
  pending = λ other. rw o refl;
}
pins_by s reg word false false true o p q r = rw (o, p, q, r) record {
  inputs = rw o refl;
  outputs = rw o (leaves reg 4 word _ (other_than reg 4 p));
  enable = rw o (leaves reg 8 word _ (other_than reg 8 q));
  pending = λ other. absurd (other (same_as reg 12 r));
}
pins_by s reg word false false false o p q r = rw (o, p, q, r) record {
  inputs = rw o refl;
  outputs = rw o (leaves reg 4 word _ (other_than reg 4 p));
  enable = rw o (leaves reg 8 word _ (other_than reg 8 q));
  pending = λ other. rw o refl;
}

-- what a store does to the words of the pins' registers
pub stores_pins : (s : GpioRegisters) (reg word : ℕ) (new : GpioRegisters) → new ≡ gpio_stored s reg word → is_open_at s.owed ≡ true → StoresPins s reg word new
stores_pins s reg word new e o = subst (λ n. StoresPins s reg word n) (sym e) (pins_by s reg word _ _ _ o refl refl refl)

duties_by : (control d0 d1 d2 d3 owed reg word : ℕ) → is_open_at owed ≡ true → (reg ≡ 0) ⊎ (reg ≡ 4) ⊎ (reg ≡ 8) ⊎ (reg ≡ 12) ⊎ (reg ≡ 16)
    → StoresDuties (record { control = control; duties = d0 ∷ d1 ∷ d2 ∷ d3 ∷ []; owed = owed }) reg word
    (pwm_stored (record { control = control; duties = d0 ∷ d1 ∷ d2 ∷ d3 ∷ []; owed = owed }) reg word)
duties_by control d0 d1 d2 d3 owed reg word o (inl r) = rw (o, r) record {
  control = rw o (sets 0 0 _ _ refl);
  duty0 = rw o (leaves 0 4 _ _ (omega arith));
  duty1 = rw o (leaves 0 8 _ _ (omega arith));
  duty2 = rw o (leaves 0 12 _ _ (omega arith));
  duty3 = rw o (leaves 0 16 _ _ (omega arith));
}
duties_by control d0 d1 d2 d3 owed reg word o (inr (inl r)) = rw (o, r) record {
  control = rw o (leaves 4 0 _ _ (omega arith));
  duty0 = rw o (sets 4 4 _ _ refl);
  duty1 = rw o (leaves 4 8 _ _ (omega arith));
  duty2 = rw o (leaves 4 12 _ _ (omega arith));
  duty3 = rw o (leaves 4 16 _ _ (omega arith));
}
duties_by control d0 d1 d2 d3 owed reg word o (inr (inr (inl r))) = rw (o, r) record {
  control = rw o (leaves 8 0 _ _ (omega arith));
  duty0 = rw o (leaves 8 4 _ _ (omega arith));
  duty1 = rw o (sets 8 8 _ _ refl);
  duty2 = rw o (leaves 8 12 _ _ (omega arith));
  duty3 = rw o (leaves 8 16 _ _ (omega arith));
}
duties_by control d0 d1 d2 d3 owed reg word o (inr (inr (inr (inl r)))) = rw (o, r) record {
  control = rw o (leaves 12 0 _ _ (omega arith));
  duty0 = rw o (leaves 12 4 _ _ (omega arith));
  duty1 = rw o (leaves 12 8 _ _ (omega arith));
  duty2 = rw o (sets 12 12 _ _ refl);
  duty3 = rw o (leaves 12 16 _ _ (omega arith));
}
duties_by control d0 d1 d2 d3 owed reg word o (inr (inr (inr (inr r)))) = rw (o, r) record {
  control = rw o (leaves 16 0 _ _ (omega arith));
  duty0 = rw o (leaves 16 4 _ _ (omega arith));
  duty1 = rw o (leaves 16 8 _ _ (omega arith));
  duty2 = rw o (leaves 16 12 _ _ (omega arith));
  duty3 = rw o (sets 16 16 _ _ refl);
}

duties_in : (control owed : ℕ) (duties : List ℕ) (reg word : ℕ) → length duties ≡ 4 → is_open_at owed ≡ true
    → (reg ≡ 0) ⊎ (reg ≡ 4) ⊎ (reg ≡ 8) ⊎ (reg ≡ 12) ⊎ (reg ≡ 16)
    → StoresDuties (record { control = control; duties = duties; owed = owed }) reg word
    (pwm_stored (record { control = control; duties = duties; owed = owed }) reg word)
duties_in control owed (d0 ∷ d1 ∷ d2 ∷ d3 ∷ []) reg word l o r = duties_by control d0 d1 d2 d3 owed reg word o r
duties_in control owed [] reg word l o r = absurd (omega (arith, l))
duties_in control owed (d0 ∷ []) reg word l o r = absurd (omega (arith, l))
duties_in control owed (d0 ∷ d1 ∷ []) reg word l o r = absurd (omega (arith, l))
duties_in control owed (d0 ∷ d1 ∷ d2 ∷ []) reg word l o r = absurd (omega (arith, l))
duties_in control owed (d0 ∷ d1 ∷ d2 ∷ d3 ∷ d4 ∷ rest) reg word l o r = absurd (omega (arith, l))

-- what a store does to the words of the duties' registers
pub stores_duties : (s : PwmRegisters) (reg word : ℕ) (new : PwmRegisters) → new ≡ pwm_stored s reg word → length s.duties ≡ 4
    → (reg ≡ 0) ⊎ (reg ≡ 4) ⊎ (reg ≡ 8) ⊎ (reg ≡ 12) ⊎ (reg ≡ 16) → is_open_at s.owed ≡ true → StoresDuties s reg word new
stores_duties s reg word new e l r o = subst (λ n. StoresDuties s reg word n) (sym e) (duties_in s.control s.owed s.duties reg word l o r)

-- the fields of the part that the watchdog's CTRL keeps
record KeepsWatchdog (word kept : ℕ) : Type 0 where
  enable : kept % 2 ≡ word % 2
  between : kept / 2 % 2 ^ 7 ≡ 0
  timeout : kept / 2 ^ 8 ≡ word / 2 ^ 8

keeps_watchdog : (word : ℕ) → word < 2 ^ 32 → KeepsWatchdog word (watchdog_kept word)
keeps_watchdog word below = record {
  enable =
      let low : watchdog_kept word % 2 ^ 1 ≡ word % 2 ^ 1 % 2 ^ 1 = and_mod word 0xffffff01 1 ∙ and_mask (word % 2 ^ 1) 1 in
      omega (arith, low);
  between =
      let none : watchdog_kept word / 2 ^ 1 % 2 ^ 7 ≡ bit_and (word / 2 ^ 1 % 2 ^ 7) 0
      = ap (λ n. n % 2 ^ 7) (and_shr word 0xffffff01 1) ∙ and_mod (word / 2 ^ 1) 0x7fffff80 7 in
      let zero_there : bit_and (word / 2 ^ 1 % 2 ^ 7) 0 ≡ word / 2 ^ 1 % 2 ^ 7 % 2 ^ 0 = and_mask (word / 2 ^ 1 % 2 ^ 7) 0 in
      omega (arith, none, zero_there);
  timeout =
      let high : watchdog_kept word / 2 ^ 8 ≡ word / 2 ^ 8 % 2 ^ 24 = and_shr word 0xffffff01 8 ∙ and_mask (word / 2 ^ 8) 24 in
      omega (arith, high, below);
}

watchdog_by : (s : WatchdogRegisters) (reg word : ℕ) (control : Bool) → is_open_at s.owed ≡ true → (reg == 0) ≡ control → word < 2 ^ 32
    → StoresWatchdog s reg word (watchdog_stored s reg word)
watchdog_by s reg word true o c below =
    let k : KeepsWatchdog word (watchdog_kept word) = keeps_watchdog word below in
    rw (o, c) record {
      enable = λ r. rw o k.enable;
      between = λ r. rw o k.between;
      timeout = λ r. rw o k.timeout;
      elsewhere = λ other. absurd (other (same_as reg 0 c));
      feed = rw o refl;
      cause = refl;
    }
watchdog_by s reg word false o c below = rw (o, c) record {
  enable = λ r. absurd (other_than reg 0 c r);
  between = λ r. absurd (other_than reg 0 c r);
  timeout = λ r. absurd (other_than reg 0 c r);
  elsewhere = λ other. refl;
  feed = rw o refl;
  cause = refl;
}

-- what a store does to the words of the watchdog's registers
pub stores_watchdog : (s : WatchdogRegisters) (reg word : ℕ) (new : WatchdogRegisters) → new ≡ watchdog_stored s reg word → word < 2 ^ 32 → is_open_at s.owed ≡ true → StoresWatchdog s reg word new
stores_watchdog s reg word new e below o = subst (λ n. StoresWatchdog s reg word n) (sym e) (watchdog_by s reg word _ o refl below)

-- a store to CTRL of the watchdog's open front keeps what CTRL keeps
pub control_of_watchdog : (s : WatchdogRegisters) (reg word : ℕ) (new : WatchdogRegisters) → is_open_at s.owed ≡ true → reg ≡ 0
    → new ≡ record s { control = watchdog_kept word } → new ≡ watchdog_stored s reg word
control_of_watchdog s reg word new o r e =
    let stored : watchdog_stored s reg word ≡ record s { control = watchdog_kept word } = rw (o, r) refl in
    e ∙ sym stored
