-- The receive queue of a serial front is in order.
use Rattle.std.proofs.Common.{◌≡◌, ℕ, suc, Bool, true, false, cond, List, [], ◌∷◌, ◌++◌, length, refl, sym, ap, ◌∙◌, arith, subst, eqb, append_assoc, append-nil}
use Rattle.std.specs.Prelude.{◌&&◌, not, nat_lt, get_or, drop}
use Rattle.std.proofs.lemmas.Bool.{true≢false, false≢true}
use Rattle.std.proofs.lemmas.Bool.Decides.{nat_tests}
use Rattle.chip_base.specs.declared.message.Up.{Up}
use Rattle.unit_fronts.specs.FrontCalls.{FrontCall, LoadFrom, StoreTo, UnitSays, after_calls}
use Rattle.unit_fronts.specs.ReceiveQueue.{GivesInOrder, MarksOverrun, all_given, all_queued, clears_overrun, entry_given, entry_queued, has_room, loses_entry}
use Rattle.unit_fronts.specs.SerialRegisters.{SerialRegisters, credited, serial_arrived, serial_is_open}
use Rattle.unit_fronts.specs.SerialFront.{SerialKind, serial_after, serial_front, serial_loaded, serial_stored}

-- one call moves the queue by what it queues and gives
abbrev MovesQueue : SerialKind → SerialRegisters → FrontCall → Type 0
MovesQueue kind s call = s.received ++ entry_queued s call ≡ entry_given s call ++ (serial_after kind s call).received

oldest_first : (received : List ℕ) → received ++ [] ≡ (cond (nat_lt 0 (length received)) (get_or received 0 0 ∷ []) []) ++ drop 1 received
oldest_first [] = refl
oldest_first (x ∷ rest) = let some : nat_lt 0 (suc (length rest)) ≡ true = grind (arith, nat_tests) in rw some (append-nil (x ∷ rest))

not_control : (reg : ℕ) → eqb reg 4 ≡ true → eqb reg 0 ≡ false
not_control reg e = grind (arith, nat_tests)

load_moves : (kind : SerialKind) (s : SerialRegisters) (reg : ℕ) (open_now at_received : Bool) → serial_is_open s ≡ open_now → eqb reg 4 ≡ at_received
    → MovesQueue kind s (LoadFrom reg)
load_moves kind s reg false b p q = rw p (append-nil s.received)
load_moves kind s reg true true p q = rw (p, q, not_control reg q) (oldest_first s.received)
load_moves kind s reg true false p q = rw (p, q) (append-nil s.received)

store_moves : (kind : SerialKind) (s : SerialRegisters) (reg word : ℕ) (open_now control entry : Bool) → serial_is_open s ≡ open_now → eqb reg 0 ≡ control → kind.takes reg ≡ entry
    → MovesQueue kind s (StoreTo reg word)
store_moves kind s reg word false control entry p q t = rw p (append-nil s.received)
store_moves kind s reg word true true entry p q t = rw (p, q) (append-nil s.received)
store_moves kind s reg word true false true p q t = rw (p, q, t) (append-nil s.received)
store_moves kind s reg word true false false p q t = rw (p, q, t) (append-nil s.received)

credited_received : (s : SerialRegisters) (credit : Bool) → (credited s credit).received ≡ s.received
credited_received s true = refl
credited_received s false = refl

says_moves : (kind : SerialKind) (s : SerialRegisters) (up : Up) (open_now done credit has room : Bool) → serial_is_open s ≡ open_now → up.done ≡ done → up.credit ≡ credit
    → up.has ≡ has → has_room s ≡ room → MovesQueue kind s (UnitSays up)
says_moves kind s up false true credit has room p d c h r = rw (p, d) (append-nil s.received)
says_moves kind s up false false credit has room p d c h r = rw (p, d) (append-nil s.received)
says_moves kind s up true true credit has room p d c h r = rw (p, d) (append-nil s.received)
says_moves kind s up true false true false room p d c h r = rw (p, d, c, h) (append-nil s.received)
says_moves kind s up true false false false room p d c h r = rw (p, d, c, h) (append-nil s.received)
says_moves kind s up true false true true true p d c h r = rw (p, d, c, h, r) refl
says_moves kind s up true false false true true p d c h r = rw (p, d, c, h, r) refl
says_moves kind s up true false true true false p d c h r = rw (p, d, c, h, r) (append-nil s.received)
says_moves kind s up true false false true false p d c h r = rw (p, d, c, h, r) (append-nil s.received)

moves_queue : (kind : SerialKind) (s : SerialRegisters) (call : FrontCall) → MovesQueue kind s call
moves_queue kind s (LoadFrom reg) = load_moves kind s reg _ _ refl refl
moves_queue kind s (StoreTo reg word) = store_moves kind s reg word _ _ _ refl refl refl
moves_queue kind s (UnitSays up) = says_moves kind s up _ _ _ _ _ refl refl refl refl refl

-- loads of DATA give the entries in the order in which they came
pub gives_in_order : (kind : SerialKind) (s : SerialRegisters) → GivesInOrder kind s
unfolding after_calls all_given all_queued
gives_in_order kind s [] = append-nil s.received
gives_in_order kind s (c ∷ cs) =
    let next : SerialRegisters = serial_after kind s c in
    let queued : List ℕ = entry_queued s c in
    let given : List ℕ = entry_given s c in
    sym (append_assoc s.received queued (all_queued kind next cs))
    ∙ ap (λ l. l ++ all_queued kind next cs) (moves_queue kind s c)
    ∙ append_assoc given next.received (all_queued kind next cs)
    ∙ ap (λ l. given ++ l) (gives_in_order kind next cs)
    ∙ sym (append_assoc given (all_given kind next cs) (after_calls (serial_front kind) next cs).received)

load_overrun : (s : SerialRegisters) (reg : ℕ) (open_now at_received : Bool) → serial_is_open s ≡ open_now → eqb reg 4 ≡ at_received
    → (serial_loaded s reg).overrun ≡ s.overrun
load_overrun s reg false b p q = rw p refl
load_overrun s reg true true p q = rw (p, q) refl
load_overrun s reg true false p q = rw (p, q) refl

-- a load leaves overrun
pub load_marks : (s : SerialRegisters) (reg : ℕ) (new : SerialRegisters) → new ≡ serial_loaded s reg → MarksOverrun s (LoadFrom reg) new
load_marks s reg new e = rw e record {
  lost = λ l. absurd (false≢true l);
  kept = λ l. absurd (false≢true l);
  cleared = λ l. absurd (false≢true l);
  still = λ l c. load_overrun s reg _ _ refl refl;
}

store_by : (kind : SerialKind) (s : SerialRegisters) (reg word : ℕ) (open_now control entry : Bool) → serial_is_open s ≡ open_now → eqb reg 0 ≡ control → kind.takes reg ≡ entry
    → MarksOverrun s (StoreTo reg word) (serial_stored kind s reg word)
store_by kind s reg word false control entry p q t = record {
  lost = λ l. absurd (false≢true l);
  kept = λ l. absurd (false≢true l);
  cleared = λ l. let e : clears_overrun s (StoreTo reg word) ≡ false = rw p refl in absurd (false≢true (sym e ∙ l));
  still = λ l c. rw p refl;
}
store_by kind s reg word true true entry p q t = record {
  lost = λ l. absurd (false≢true l);
  kept = λ l. absurd (false≢true l);
  cleared = λ l. rw (p, q) refl;
  still = λ l c. let e : clears_overrun s (StoreTo reg word) ≡ true = rw (p, q) refl in absurd (true≢false (sym e ∙ c));
}
store_by kind s reg word true false true p q t = record {
  lost = λ l. absurd (false≢true l);
  kept = λ l. absurd (false≢true l);
  cleared = λ l. let e : clears_overrun s (StoreTo reg word) ≡ false = rw (p, q) refl in absurd (false≢true (sym e ∙ l));
  still = λ l c. rw (p, q, t) refl;
}
store_by kind s reg word true false false p q t = record {
  lost = λ l. absurd (false≢true l);
  kept = λ l. absurd (false≢true l);
  cleared = λ l. let e : clears_overrun s (StoreTo reg word) ≡ false = rw (p, q) refl in absurd (false≢true (sym e ∙ l));
  still = λ l c. rw (p, q, t) refl;
}

-- a store to CTRL clears overrun
pub store_marks : (kind : SerialKind) (s : SerialRegisters) (reg word : ℕ) (new : SerialRegisters) → new ≡ serial_stored kind s reg word → MarksOverrun s (StoreTo reg word) new
store_marks kind s reg word new e = subst (λ n. MarksOverrun s (StoreTo reg word) n) (sym e) (store_by kind s reg word _ _ _ refl refl refl)

says_by : (s : SerialRegisters) (up : Up) (open_now done credit has room : Bool) → serial_is_open s ≡ open_now → up.done ≡ done → up.credit ≡ credit
    → up.has ≡ has → has_room s ≡ room → (loses_entry s (UnitSays up) ≡ open_now && not done && has && not room)
    × ((serial_arrived s up).overrun ≡ cond (open_now && not done && has && not room) true s.overrun)
    × (open_now && not done && has && not room ≡ true → (serial_arrived s up).received ≡ s.received)
says_by s up false true credit has room p d c h r = rw (p, d) (refl, refl, λ l. refl)
says_by s up false false credit has room p d c h r = rw (p, d) (refl, refl, λ l. refl)
says_by s up true true credit has room p d c h r = rw (p, d) (refl, refl, λ l. refl)
says_by s up true false true false room p d c h r = rw (p, d, c, h) (refl, refl, λ l. refl)
says_by s up true false false false room p d c h r = rw (p, d, c, h) (refl, refl, λ l. refl)
says_by s up true false true true true p d c h r = rw (p, d, c, h, r) (refl, refl, λ l. absurd (false≢true l))
says_by s up true false false true true p d c h r = rw (p, d, c, h, r) (refl, refl, λ l. absurd (false≢true l))
says_by s up true false true true false p d c h r = rw (p, d, c, h, r) (refl, refl, λ l. refl)
says_by s up true false false true false p d c h r = rw (p, d, c, h, r) (refl, refl, λ l. refl)

-- an entry that finds sixteen sets overrun and is lost
pub arrival_marks : (s : SerialRegisters) (up : Up) (new : SerialRegisters) → new ≡ serial_arrived s up → MarksOverrun s (UnitSays up) new
arrival_marks s up new e =
    let b = says_by s up _ _ _ _ _ refl refl refl refl refl in
    subst (λ n. MarksOverrun s (UnitSays up) n) (sym e) record {
      lost = λ l. b.1 ∙ ap (λ x. cond x true s.overrun) l;
      kept = λ l. b.2 l;
      cleared = λ l. absurd (false≢true l);
      still = λ l c. b.1 ∙ ap (λ x. cond x true s.overrun) l;
    }
