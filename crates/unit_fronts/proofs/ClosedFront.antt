-- A closed front changes by answers alone.
use Rattle.std.proofs.Common.{◌≡◌, ◌<◌, ℕ, ◌-◌, Bool, true, false, cond, List, [], ◌∷◌, None, Some, refl, sym, ap, ◌∙◌, arith, subst}
use Rattle.std.proofs.lemmas.Bool.Decides.{nat_tests}
use Rattle.chip_base.specs.declared.message.Up.{Up}
use Rattle.chip_base.specs.Messages.{done_in}
use Rattle.unit_fronts.specs.ClosedFront.{AwaitsAnswers}
use Rattle.unit_fronts.specs.FrontCalls.{FrontCall, FrontMeaning, LoadFrom, StoreTo, UnitSays, after_calls, answers_among, answers_in}
use Rattle.unit_fronts.specs.GpioFront.{gpio_after, gpio_arrived, gpio_front, gpio_front_reset}
use Rattle.unit_fronts.specs.Owed.{is_open_at, one_more}
use Rattle.unit_fronts.specs.PwmFront.{pwm_after, pwm_arrived, pwm_front, pwm_front_reset}
use Rattle.unit_fronts.specs.SerialRegisters.{SerialRegisters, serial_arrived, serial_closed, serial_front_reset}
use Rattle.unit_fronts.specs.SerialFront.{SerialKind, serial_after, serial_front}
use Rattle.unit_fronts.specs.WdtFront.{watchdog_after, watchdog_arrived, watchdog_front, watchdog_front_reset}

-- what each call does to a closed front in its reset state
record HoldsClosed {F : Type 0} (m : FrontMeaning F) : Type 0 where
  step : (owed : ℕ) (call : FrontCall) → answers_in call < owed → m.after (m.front_reset owed) call ≡ m.front_reset (owed - answers_in call)
  loads : (owed : ℕ) → 0 < owed → (reg : ℕ) → m.word (m.front_reset owed) reg ≡ m.closed_word reg
  stores : (owed : ℕ) → 0 < owed → (reg word : ℕ) → m.sent (m.front_reset owed) reg word ≡ None
  last : (up : Up) → done_in (Some up) ≡ 1 → m.after (m.front_reset 1) (UnitSays up) ≡ m.opened up

stays_closed : {F : Type 0} (m : FrontMeaning F) → HoldsClosed m → (calls : List FrontCall) (owed : ℕ) → answers_among calls < owed
    → after_calls m (m.front_reset owed) calls ≡ m.front_reset (owed - answers_among calls)
unfolding after_calls answers_among
stays_closed m h [] owed l = ap m.front_reset (omega arith)
stays_closed m h (c ∷ cs) owed l =
    ap (λ f. after_calls m f cs) (h.step owed c (omega (arith, l)))
    ∙ (stays_closed m h cs (owed - answers_in c) (omega (arith, l)) ∙ ap m.front_reset (omega arith))

awaits : {F : Type 0} (m : FrontMeaning F) → HoldsClosed m → (owed : ℕ) → AwaitsAnswers m owed (m.front_reset owed)
awaits m h owed = record {
  stays = λ calls l. stays_closed m h calls owed l;
  loads = λ calls l reg.
      ap (λ f. m.word f reg) (stays_closed m h calls owed l) ∙ h.loads (owed - answers_among calls) (omega (arith, l)) reg;
  stores = λ calls l reg word.
      ap (λ f. m.sent f reg word) (stays_closed m h calls owed l) ∙ h.stores (owed - answers_among calls) (omega (arith, l)) reg word;
  opens = λ calls up l done.
      let one : owed - answers_among calls ≡ 1 = omega (arith, l) in
      ap (λ f. m.after f (UnitSays up)) (stays_closed m h calls owed (omega (arith, l)) ∙ ap m.front_reset one) ∙ h.last up done;
}

closed_by : (owed : ℕ) → 0 < owed → is_open_at owed ≡ false
closed_by owed l = grind (arith, nat_tests)

less_none : (owed : ℕ) → owed ≡ owed - 0
less_none owed = omega arith

says_done : (up : Up) → done_in (Some up) ≡ 1 → up.done ≡ true
says_done up e = by_done up.done e
  where
    by_done : (b : Bool) → cond {A = ℕ} b 1 0 ≡ 1 → b ≡ true
    by_done true e = refl
    by_done false e = absurd (omega (arith, e))

-- the serial registers

serial_says : (owed : ℕ) (up : Up) (done : Bool) → up.done ≡ done → 0 < owed
    → serial_arrived (serial_front_reset owed) up ≡ serial_front_reset (owed - cond done 1 0)
serial_says owed up true p l = rw (closed_by owed l, p) refl
serial_says owed up false p l = rw (closed_by owed l, p) (ap serial_front_reset (less_none owed))

serial_step : (kind : SerialKind) (owed : ℕ) (call : FrontCall) → answers_in call < owed
    → serial_after kind (serial_front_reset owed) call ≡ serial_front_reset (owed - answers_in call)
serial_step kind owed (LoadFrom reg) l = rw (closed_by owed l) (ap serial_front_reset (less_none owed))
serial_step kind owed (StoreTo reg word) l = rw (closed_by owed l) (ap serial_front_reset (less_none owed))
serial_step kind owed (UnitSays up) l = serial_says owed up up.done refl (omega (arith, l))

serial_holds : (kind : SerialKind) → HoldsClosed (serial_front kind)
serial_holds kind = record {
  step = serial_step kind;
  loads = λ owed l reg. rw (closed_by owed l) refl;
  stores = λ owed l reg word. rw (closed_by owed l) refl;
  last = λ up done. rw (says_done up done) refl;
}

-- a closed serial front awaits its answers
pub serial_awaits : (kind : SerialKind) (s new : SerialRegisters) → new ≡ serial_closed s → AwaitsAnswers (serial_front kind) new.owed new
serial_awaits kind s new e = subst (λ f. AwaitsAnswers (serial_front kind) f.owed f) (sym e) (awaits (serial_front kind) (serial_holds kind) (one_more s.owed))

-- the pins

gpio_says : (owed : ℕ) (up : Up) (done : Bool) → up.done ≡ done → cond done 1 0 < owed
    → gpio_arrived (gpio_front_reset owed) up ≡ gpio_front_reset (owed - cond done 1 0)
gpio_says owed up true p l =
    let still : is_open_at (owed - 1) ≡ false = closed_by (owed - 1) (omega (arith, l)) in
    rw (closed_by owed (omega (arith, l)), p, still) refl
gpio_says owed up false p l = rw (closed_by owed l, p) (ap gpio_front_reset (less_none owed))

gpio_step : (owed : ℕ) (call : FrontCall) → answers_in call < owed
    → gpio_after (gpio_front_reset owed) call ≡ gpio_front_reset (owed - answers_in call)
gpio_step owed (LoadFrom reg) l = ap gpio_front_reset (less_none owed)
gpio_step owed (StoreTo reg word) l = rw (closed_by owed l) (ap gpio_front_reset (less_none owed))
gpio_step owed (UnitSays up) l = gpio_says owed up up.done refl l

gpio_last : (up : Up) (has : Bool) → up.has ≡ has → up.done ≡ true → gpio_arrived (gpio_front_reset 1) up ≡ gpio_front.opened up
gpio_last up true h d = rw (d, h) refl
gpio_last up false h d = rw (d, h) refl

gpio_holds : HoldsClosed gpio_front
gpio_holds = record {
  step = gpio_step;
  loads = λ owed l reg. rw (closed_by owed l) refl;
  stores = λ owed l reg word. rw (closed_by owed l) refl;
  last = λ up done. gpio_last up up.has refl (says_done up done);
}

-- a closed front of the pins awaits its answers
pub gpio_awaits : (owed : ℕ) → AwaitsAnswers gpio_front owed (gpio_front_reset owed)
gpio_awaits owed = awaits gpio_front gpio_holds owed

-- the duties

pwm_says : (owed : ℕ) (up : Up) (done : Bool) → up.done ≡ done → 0 < owed
    → pwm_arrived (pwm_front_reset owed) up ≡ pwm_front_reset (owed - cond done 1 0)
pwm_says owed up true p l = rw (closed_by owed l, p) refl
pwm_says owed up false p l = rw p (ap pwm_front_reset (less_none owed))

pwm_step : (owed : ℕ) (call : FrontCall) → answers_in call < owed
    → pwm_after (pwm_front_reset owed) call ≡ pwm_front_reset (owed - answers_in call)
pwm_step owed (LoadFrom reg) l = ap pwm_front_reset (less_none owed)
pwm_step owed (StoreTo reg word) l = rw (closed_by owed l) (ap pwm_front_reset (less_none owed))
pwm_step owed (UnitSays up) l = pwm_says owed up up.done refl (omega (arith, l))

pwm_holds : HoldsClosed pwm_front
pwm_holds = record {
  step = pwm_step;
  loads = λ owed l reg. rw (closed_by owed l) refl;
  stores = λ owed l reg word. rw (closed_by owed l) refl;
  last = λ up done. rw (says_done up done) refl;
}

-- a closed front of the duties awaits its answers
pub pwm_awaits : (owed : ℕ) → AwaitsAnswers pwm_front owed (pwm_front_reset owed)
pwm_awaits owed = awaits pwm_front pwm_holds owed

-- the watchdog

watchdog_says : (owed : ℕ) (up : Up) (done : Bool) → up.done ≡ done → cond done 1 0 < owed
    → watchdog_arrived (watchdog_front_reset owed) up ≡ watchdog_front_reset (owed - cond done 1 0)
watchdog_says owed up true p l = rw (closed_by owed (omega (arith, l)), p) refl
watchdog_says owed up false p l = rw p (ap watchdog_front_reset (less_none owed))

watchdog_step : (owed : ℕ) (call : FrontCall) → answers_in call < owed
    → watchdog_after (watchdog_front_reset owed) call ≡ watchdog_front_reset (owed - answers_in call)
watchdog_step owed (LoadFrom reg) l = ap watchdog_front_reset (less_none owed)
watchdog_step owed (StoreTo reg word) l = rw (closed_by owed l) (ap watchdog_front_reset (less_none owed))
watchdog_step owed (UnitSays up) l = watchdog_says owed up up.done refl (omega (arith, l))

watchdog_holds : HoldsClosed watchdog_front
watchdog_holds = record {
  step = watchdog_step;
  loads = λ owed l reg. rw (closed_by owed l) refl;
  stores = λ owed l reg word. rw (closed_by owed l) refl;
  last = λ up done. rw (says_done up done) refl;
}

-- a closed front of the watchdog awaits its answers
pub watchdog_awaits : (owed : ℕ) → AwaitsAnswers watchdog_front owed (watchdog_front_reset owed)
watchdog_awaits owed = awaits watchdog_front watchdog_holds owed
