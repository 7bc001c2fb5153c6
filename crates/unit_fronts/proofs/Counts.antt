-- What the calls of a front do to its credits and to the answers that it waits for.
use Rattle.std.proofs.Common.{◌≡◌, ◌≤◌, ◌<◌, ℕ, ◌+◌, min, Bool, true, false, eqb, ltb, [], ◌∷◌, ◌++◌, length, None, Some, refl, sym, cond, ◌∙◌, arith}
use Rattle.std.proofs.lemmas.Bool.{true≢false, false≢true}
use Rattle.std.proofs.lemmas.Bool.Decides.{nat_tests}
use Rattle.chip_base.specs.declared.message.Down.TheVariants.{Set}
use Rattle.chip_base.specs.declared.message.Up.{Up}
use Rattle.chip_base.specs.Messages.{entry_in}
use Rattle.unit_fronts.specs.SerialRegisters.{SerialRegisters, serial_is_open, credited, received_by, serial_arrived}
use Rattle.unit_fronts.specs.SerialFront.{SerialKind, serial_loaded, serial_stored, serial_sent}
use Rattle.unit_fronts.specs.Counts.{SpendsCredits, HearsUnit}

is_zero : (a : ℕ) → eqb a 0 ≡ true → a ≡ 0
is_zero a h = grind (arith, nat_tests)

not_zero : (a : ℕ) → eqb a 0 ≡ false → 0 < a
not_zero a h = grind (arith, nat_tests)

spends_by : (kind : SerialKind) (s : SerialRegisters) (reg word : ℕ) (open_now control entry empty : Bool) → kind.takes 0 ≡ false → serial_is_open s ≡ open_now
    → eqb reg 0 ≡ control → kind.takes reg ≡ entry → eqb s.credits 0 ≡ empty → SpendsCredits kind.takes s (serial_sent kind s reg word) (serial_stored kind s reg word)
spends_by kind s reg word false b e d z p q t r = rw p record { credits = omega arith; owed = refl }
spends_by kind s reg word true true e d z p q t r =
    let none : entry_in kind.takes (Some (Set 0 (kind.kept word))) ≡ 0 = rw z refl in
    rw (p, q) record { credits = omega (arith, none); owed = refl }
spends_by kind s reg word true false false d z p q t r = rw (p, q, t) record { credits = omega arith; owed = refl }
spends_by kind s reg word true false true true z p q t r =
    let none : s.credits ≡ 0 = is_zero s.credits r in
    rw (p, q, t, r) record { credits = omega arith; owed = refl }
spends_by kind s reg word true false true false z p q t r =
    let some : 0 < s.credits = not_zero s.credits r in
    let one : entry_in kind.takes (Some (Set reg (kind.entry reg word))) ≡ 1 = rw t refl in
    rw (p, q, t, r) record { credits = omega (arith, some, one); owed = refl }

-- a store uses a credit exactly where it sends an entry
pub spends : (kind : SerialKind) (s : SerialRegisters) (reg word : ℕ) → kind.takes 0 ≡ false → SpendsCredits kind.takes s (serial_sent kind s reg word) (serial_stored kind s reg word)
spends kind s reg word z = spends_by kind s reg word _ _ _ _ z refl refl refl refl

received-credits : (s : SerialRegisters) (has : Bool) (word : ℕ) → (received_by s has word).credits ≡ s.credits
received-credits s false word = refl
received-credits s true word = received_in (ltb (length s.received) 16)
  where
    received_in : (b : Bool) → (cond b (record s { received = s.received ++ word ∷ [] }) (record s { overrun = true })).credits ≡ s.credits
    received_in true = refl
    received_in false = refl

credited-credits : (s : SerialRegisters) (credit : Bool) → s.credits ≤ 16 → (credited s credit).credits ≡ min 16 (s.credits + cond credit 1 0)
credited-credits s true h = refl
credited-credits s false h = omega arith

hears_by : (s : SerialRegisters) (up : Up) (open_now done : Bool) → serial_is_open s ≡ open_now → up.done ≡ done → s.credits ≤ 16 → HearsUnit s up (serial_arrived s up)
hears_by s up true true p q h = rw (p, q) record {
  credits = λ o d. absurd (omega arith);
  kept = λ o d. refl;
  still = λ o. absurd (true≢false (sym p ∙ o));
  answers = λ o. absurd (true≢false (sym p ∙ o));
}
hears_by s up true false p q h = rw (p, q) record {
  credits = λ o d. received-credits (credited s up.credit) up.has up.word ∙ credited-credits s up.credit h;
  kept = λ o d. absurd (omega arith);
  still = λ o. absurd (true≢false (sym p ∙ o));
  answers = λ o. absurd (true≢false (sym p ∙ o));
}
hears_by s up false true p q h =
    let z : 0 < s.owed = not_zero s.owed p in
    rw (p, q) record {
      credits = λ o d. absurd (false≢true (sym p ∙ o));
      kept = λ o d. absurd (false≢true (sym p ∙ o));
      still = λ o. refl;
      answers = λ o. omega arith;
    }
hears_by s up false false p q h = rw (p, q) record {
  credits = λ o d. absurd (false≢true (sym p ∙ o));
  kept = λ o d. absurd (false≢true (sym p ∙ o));
  still = λ o. refl;
  answers = λ o. omega arith;
}

-- what an arrival does
pub hears : (s : SerialRegisters) (up : Up) → s.credits ≤ 16 → HearsUnit s up (serial_arrived s up)
hears s up h = hears_by s up _ _ refl refl h

loads_by : (takes : ℕ → Bool) (s : SerialRegisters) (reg : ℕ) (open_now at_received : Bool) → serial_is_open s ≡ open_now → eqb reg 4 ≡ at_received
    → SpendsCredits takes s None (serial_loaded s reg)
loads_by takes s reg false b p q = rw p record { credits = omega arith; owed = refl }
loads_by takes s reg true true p q = rw (p, q) record { credits = omega arith; owed = refl }
loads_by takes s reg true false p q = rw (p, q) record { credits = omega arith; owed = refl }

-- a load changes neither the credits nor the answers that are owed
pub loads : (takes : ℕ → Bool) (s : SerialRegisters) (reg : ℕ) → SpendsCredits takes s None (serial_loaded s reg)
loads takes s reg = loads_by takes s reg _ _ refl refl
