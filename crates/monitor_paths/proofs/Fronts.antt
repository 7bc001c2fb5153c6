-- What an arrival and a touch of the hub do to SPI's front.
use Rattle.std.proofs.Common.{◌≡◌, ◌≤◌, ◌<◌, ◌^◌, ℕ, zero, suc, ◌+◌, ◌-◌, ◌⊎◌, inl, inr, min, Bool, true, false, ◌++◌, length, Option, None, Some, refl, sym, ◌∙◌, arith, append-nil, subst}
use Rattle.std.specs.Prelude.{◌==◌, nat_lt}
use Rattle.std.proofs.lemmas.Bool.Decides.{nat_tests}
use Rattle.chip_base.specs.Messages.{at_either_data, credit_in, done_in, reset_in}
use Rattle.chip_base.specs.declared.message.Down.{Down}
use Rattle.chip_base.specs.declared.message.Up.{Up}
use Rattle.unit_fronts.specs.Control.{IsWritable}
use Rattle.unit_fronts.specs.SerialFront.{serial_loaded, serial_sent, serial_stored}
use Rattle.unit_fronts.specs.SerialRegisters.{SerialRegisters, credited, received_by, serial_arrived, serial_is_open}
use Rattle.unit_fronts.specs.SpiFront.{spi_kind}
use Rattle.unit_fronts.proofs.Control.{spi_part, spi_small}
use Rattle.monitor_paths.specs.FlashPath.{heard_by}
use Rattle.monitor_paths.specs.OnLinks.{words_in}

pub zero_or : (n : ℕ) → (n ≡ 0) ⊎ (1 ≤ n)
zero_or zero = inl refl
zero_or (suc n) = inr (omega arith)

pub owes_none : (s : SerialRegisters) → serial_is_open s ≡ true → s.owed ≡ 0
owes_none s e = grind (arith, nat_tests)

pub owes_some : (s : SerialRegisters) → serial_is_open s ≡ false → 1 ≤ s.owed
owes_some s e = grind (arith, nat_tests)

pub is_open : (s : SerialRegisters) → s.owed ≡ 0 → serial_is_open s ≡ true
is_open s e = grind (arith, nat_tests)

pub is_closed : (s : SerialRegisters) → 1 ≤ s.owed → serial_is_open s ≡ false
is_closed s e = grind (arith, nat_tests)

-- what an arrival does
pub record Hears (s : SerialRegisters) (up : Option Up) (new : SerialRegisters) : Type 0 where
  pub still : s.owed ≡ 0 → new.owed ≡ 0
  pub owed : 1 ≤ s.owed → new.owed + done_in up ≡ s.owed
  pub kept : new.kept ≡ s.kept
  pub received : 1 ≤ s.owed → new.received ≡ s.received
  pub credits : 1 ≤ s.owed → new.credits ≡ s.credits
  pub takes : s.owed ≡ 0 → done_in up ≡ 0 → length s.received < 16 → new.received ≡ s.received ++ words_in up
  pub gains : s.owed ≡ 0 → done_in up ≡ 0 → s.credits + credit_in up ≤ 16 → new.credits ≡ s.credits + credit_in up

-- a word that comes is received where there is room
record Takes (s : SerialRegisters) (up : Up) (new : SerialRegisters) : Type 0 where
  owed : new.owed ≡ s.owed
  kept : new.kept ≡ s.kept
  received : length s.received < 16 → new.received ≡ s.received ++ words_in (Some up)
  credits : new.credits ≡ s.credits

takes_room : (s : SerialRegisters) (up : Up) (room : Bool) → nat_lt (length s.received) 16 ≡ room → up.has ≡ true → Takes s up (received_by s true up.word)
takes_room s up true e h = rw e record { owed = refl; kept = refl; received = λ l. rw h refl; credits = refl }
takes_room s up false e h = rw e record {
  owed = refl;
  kept = refl;
  received = λ l. let none : 16 ≤ length s.received = grind (arith, nat_tests) in absurd (omega (arith, l, none));
  credits = refl;
}

takes_by : (s : SerialRegisters) (up : Up) (has : Bool) → up.has ≡ has → Takes s up (received_by s up.has up.word)
takes_by s up true h = subst (λ b. Takes s up (received_by s b up.word)) (sym h) (takes_room s up _ refl h)
takes_by s up false h = rw h record { owed = refl; kept = refl; received = λ l. sym (append-nil s.received); credits = refl }

hears_open : (s : SerialRegisters) (up : Up) (credit : Bool) → up.credit ≡ credit → up.done ≡ false → s.owed ≡ 0 → Hears s (Some up) (received_by (credited s credit) up.has up.word)
hears_open s up true c d o = let t : Takes (credited s true) up (received_by (credited s true) up.has up.word) = takes_by (credited s true) up up.has refl in record {
  still = λ e. t.owed ∙ e;
  owed = λ e. absurd (omega (arith, e, o));
  kept = t.kept;
  received = λ e. absurd (omega (arith, e, o));
  credits = λ e. absurd (omega (arith, e, o));
  takes = λ e f l. t.received l;
  gains = λ e f l. let one : credit_in (Some up) ≡ 1 = rw c refl in let had : (received_by (credited s true) up.has up.word).credits ≡ min 16 (s.credits + 1) = t.credits in omega (arith, one, had, l);
}
hears_open s up false c d o = let t : Takes s up (received_by s up.has up.word) = takes_by s up up.has refl in record {
  still = λ e. t.owed ∙ e;
  owed = λ e. absurd (omega (arith, e, o));
  kept = t.kept;
  received = λ e. absurd (omega (arith, e, o));
  credits = λ e. absurd (omega (arith, e, o));
  takes = λ e f l. t.received l;
  gains = λ e f l. let none : credit_in (Some up) ≡ 0 = rw c refl in let had : (received_by s up.has up.word).credits ≡ s.credits = t.credits in omega (arith, none, had);
}

undone : (up : Up) → up.done ≡ false → done_in (Some up) ≡ 0
undone up d = rw d refl

done : (up : Up) → up.done ≡ true → done_in (Some up) ≡ 1
done up d = rw d refl

hears_by : (s : SerialRegisters) (up : Up) (open_now done_now : Bool) → serial_is_open s ≡ open_now → up.done ≡ done_now → Hears s (Some up) (serial_arrived s up)
hears_by s up true true e d = subst (λ q. Hears s (Some up) q) (rw (e, d) refl) same
  where
    same : Hears s (Some up) s
    same = record {
      still = λ o. o;
      owed = λ o. absurd (omega (arith, o, owes_none s e));
      kept = refl;
      received = λ o. refl;
      credits = λ o. refl;
      takes = λ o f. absurd (omega (arith, f, done up d));
      gains = λ o f. absurd (omega (arith, f, done up d));
    }
hears_by s up true false e d = subst (λ q. Hears s (Some up) q) (rw (e, d) refl) (hears_open s up up.credit refl d (owes_none s e))
hears_by s up false true e d = subst (λ q. Hears s (Some up) q) (rw (e, d) refl) fewer
  where
    fewer : Hears s (Some up) (record s { owed = s.owed - 1 })
    fewer = record {
      still = λ o. absurd (omega (arith, o, owes_some s e));
      owed = λ o. omega (arith, o, done up d);
      kept = refl;
      received = λ o. refl;
      credits = λ o. refl;
      takes = λ o f. absurd (omega (arith, f, done up d));
      gains = λ o f. absurd (omega (arith, f, done up d));
    }
hears_by s up false false e d = subst (λ q. Hears s (Some up) q) (rw (e, d) refl) same
  where
    same : Hears s (Some up) s
    same = record {
      still = λ o. o;
      owed = λ o. omega (arith, undone up d);
      kept = refl;
      received = λ o. refl;
      credits = λ o. refl;
      takes = λ o f. absurd (omega (arith, o, owes_some s e));
      gains = λ o f. absurd (omega (arith, o, owes_some s e));
    }

pub hears : (s : SerialRegisters) (up : Option Up) → Hears s up (heard_by s up)
hears s None = record {
  still = λ o. o;
  owed = λ o. omega arith;
  kept = refl;
  received = λ o. refl;
  credits = λ o. refl;
  takes = λ o f l. sym (append-nil s.received);
  gains = λ o f l. omega arith;
}
hears s (Some up) = hears_by s up _ _ refl refl

-- what a touch that isn't a Fire's does
pub record Touched (s : SerialRegisters) (sent : Option Down) (new : SerialRegisters) : Type 0 where
  pub owed : new.owed ≡ s.owed
  pub writable : IsWritable s.kept → IsWritable new.kept
  pub small : s.kept < 2 ^ 23 → new.kept < 2 ^ 23
  pub same : 1 ≤ s.owed → new ≡ s
  pub silent : 1 ≤ s.owed → sent ≡ None
  pub no_reset : reset_in sent ≡ 0

pub untouched : (s : SerialRegisters) → Touched s None s
untouched s = record { owed = refl; writable = λ k. k; small = λ k. k; same = λ l. refl; silent = λ l. refl; no_reset = refl }

stores_by : (s : SerialRegisters) (reg word : ℕ) (open_now control entry empty : Bool) → serial_is_open s ≡ open_now → (reg == 0) ≡ control → at_either_data reg ≡ entry
    → (s.credits == 0) ≡ empty → Touched s (serial_sent spi_kind s reg word) (serial_stored spi_kind s reg word)
stores_by s reg word false b c d o p q r = rw o (untouched s)
stores_by s reg word true true c d o p q r = rw (o, p) record {
  owed = refl;
  writable = λ k. spi_part word;
  small = λ k. spi_small word;
  same = λ l. absurd (omega (arith, l, owes_none s o));
  silent = λ l. absurd (omega (arith, l, owes_none s o));
  no_reset = refl;
}
stores_by s reg word true false false d o p q r = rw (o, p, q) (untouched s)
stores_by s reg word true false true true o p q r = rw (o, p, q, r) record {
  owed = refl;
  writable = λ k. k;
  small = λ k. k;
  same = λ l. absurd (omega (arith, l, owes_none s o));
  silent = λ l. refl;
  no_reset = refl;
}
stores_by s reg word true false true false o p q r = rw (o, p, q, r) record {
  owed = refl;
  writable = λ k. k;
  small = λ k. k;
  same = λ l. absurd (omega (arith, l, owes_none s o));
  silent = λ l. absurd (omega (arith, l, owes_none s o));
  no_reset = refl;
}

pub stores : (s : SerialRegisters) (reg word : ℕ) → Touched s (serial_sent spi_kind s reg word) (serial_stored spi_kind s reg word)
stores s reg word = stores_by s reg word _ _ _ _ refl refl refl refl

loads_by : (s : SerialRegisters) (reg : ℕ) (open_now datum : Bool) → serial_is_open s ≡ open_now → (reg == 4) ≡ datum → Touched s None (serial_loaded s reg)
loads_by s reg false d o p = rw o (untouched s)
loads_by s reg true true o p = rw (o, p) record {
  owed = refl;
  writable = λ k. k;
  small = λ k. k;
  same = λ l. absurd (omega (arith, l, owes_none s o));
  silent = λ l. refl;
  no_reset = refl;
}
loads_by s reg true false o p = rw (o, p) (untouched s)

pub loads : (s : SerialRegisters) (reg : ℕ) → Touched s None (serial_loaded s reg)
loads s reg = loads_by s reg _ _ refl refl
