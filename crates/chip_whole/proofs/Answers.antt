-- The answers that a front without entries waits for.
use Rattle.std.proofs.Common.{◌≡◌, ◌<◌, ℕ, zero, suc, ◌+◌, ◌-◌, Bool, true, false, eqb, List, [], ◌∷◌, ◌++◌, length, Option, None, Some, refl, sym, subst, ap, ◌∙◌, arith, length-append}
use Rattle.board_units.specs.GpioCycle.{gpio_cycle, input_up, moved as pins_moved}
use Rattle.board_units.specs.GpioState.{GpioState}
use Rattle.board_units.specs.PwmCycle.{pwm_cycle}
use Rattle.board_units.specs.PwmState.{PwmState}
use Rattle.board_units.specs.WatchdogCycle.{counted, watchdog_cycle}
use Rattle.board_units.specs.WatchdogState.{WatchdogState}
use Rattle.board_units.proofs.Count.{after_message, counted_less, counted_off, counted_out, cycle_counts, cycle_resets, cycle_rests}
use Rattle.chip_base.specs.declared.message.Down.{Down}
use Rattle.chip_base.specs.declared.message.Down.TheVariants.{Reset, Set}
use Rattle.chip_base.specs.declared.message.Up.{Up}
use Rattle.chip_base.specs.Messages.{reset_in, done_in}
use Rattle.chip_base.specs.Given.{Given}
use Rattle.chip_hub.proofs.Fronts.{CycleServes, HearsAnswers, ServesAnswers}
use Rattle.delay_line.specs.Queue.{empty_link}
use Rattle.soc_words.specs.Link.{count_on, link_first, link_moved}
use Rattle.soc_words.proofs.Links.{count_more}
use Rattle.unit_fronts.specs.Owed.{one_more}
use Rattle.chip_whole.specs.Credits.{AnswersComing, IsLine}
use Rattle.chip_whole.proofs.Credits.{count_empty, owed_few}

-- the front hears what arrives, and the unit answers what arrives
answers_taken : (owed arrived : ℕ) (d : Option Down) (downs : List (Option Down)) (w : Option Up) (ups : List (Option Up)) (up : Option Up)
    → HearsAnswers owed w arrived → done_in up ≡ reset_in d → AnswersComing owed (d ∷ downs) (w ∷ ups) → AnswersComing arrived downs (ups ++ up ∷ [])
answers_taken owed arrived d downs w ups up h u a = by_owed owed refl
  where
    dones : count_on done_in (ups ++ up ∷ []) ≡ count_on done_in ups + done_in up
    dones = count_more done_in ups up

    coming : owed ≡ reset_in d + count_on reset_in downs + (done_in w + count_on done_in ups)
    coming = a

    by_owed : (n : ℕ) → owed ≡ n → AnswersComing arrived downs (ups ++ up ∷ [])
    by_owed zero e = let none : arrived ≡ 0 = h.still e in omega (arith, none, coming, e, dones, u)
    by_owed (suc n) e = let left : arrived + done_in w ≡ owed = h.answers (omega (arith, e)) in omega (arith, left, coming, dones, u)

answers_closed : (owed : ℕ) (downs : List (Option Down)) (ups : List (Option Up)) → owed < 8192 → AnswersComing owed downs ups
    → AnswersComing (one_more owed) (downs ++ Some Reset ∷ []) ups
answers_closed owed downs ups l a =
    let resets : count_on reset_in (downs ++ Some Reset ∷ []) ≡ count_on reset_in downs + 1 = count_more reset_in downs (Some Reset) in
    let more : one_more owed ≡ owed + 1 = omega (arith, l) in
    omega (arith, a, resets, more)

-- a cycle of the front, its two lines and its unit; with a Fire the front closes
pub answers_keep : (owed arrived after : ℕ) (downs : List (Option Down)) (ups : List (Option Up)) (fired : Bool) (down : Option Down) (up : Option Up)
    → IsLine downs → IsLine ups → HearsAnswers owed (link_first ups) arrived → CycleServes one_more ServesAnswers fired arrived down after
    → done_in up ≡ reset_in (link_first downs) → AnswersComing owed downs ups → AnswersComing after (link_moved downs down) (link_moved ups up)
answers_keep owed arrived after [] ups fired down up l m h s u a = absurd (omega (arith, l.0))
answers_keep owed arrived after (d ∷ downs) [] fired down up l m h s u a = absurd (omega (arith, m.0))
answers_keep owed arrived after (d ∷ downs) (w ∷ ups) fired down up l m h s u a = by_fired fired refl
  where
    taken : AnswersComing arrived downs (ups ++ up ∷ [])
    taken = answers_taken owed arrived d downs w ups up h u a

    few : arrived < 8192
    few =
        let longer : length (ups ++ up ∷ []) ≡ length ups + 1 = length-append ups (up ∷ []) in
        owed_few arrived downs (ups ++ up ∷ []) (omega (arith, l.1)) (omega (arith, longer, m.1)) taken

    by_fired : (b : Bool) → fired ≡ b → AnswersComing after (downs ++ down ∷ []) (ups ++ up ∷ [])
    by_fired false e =
        let works : ServesAnswers arrived down after = s.works e in
        let resets : count_on reset_in (downs ++ down ∷ []) ≡ count_on reset_in downs + reset_in down = count_more reset_in downs down in
        omega (arith, taken, works.owed, works.no_reset, resets)
    by_fired true e =
        let shut : (after ≡ one_more arrived) × (down ≡ Some Reset) = s.closes e in
        subst (λ owed. AnswersComing owed (downs ++ down ∷ []) (ups ++ up ∷ [])) (sym shut.0)
        (subst (λ sent. AnswersComing (one_more arrived) (downs ++ sent ∷ []) (ups ++ up ∷ [])) (sym shut.1) (answers_closed arrived downs (ups ++ up ∷ []) few taken))

-- nothing is on its way
pub answers_start : (downs ups : ℕ) → AnswersComing 0 (empty_link downs) (empty_link ups)
answers_start downs ups =
    let resets : count_on reset_in (empty_link downs) ≡ 0 = count_empty reset_in downs refl in
    let dones : count_on done_in (empty_link ups) ≡ 0 = count_empty done_in ups refl in
    omega (arith, resets, dones)

-- the units answer exactly a Reset

pub gpio_answers : (s : GpioState) (now : ℕ) (down : Option Down) → done_in (gpio_cycle s now down).up ≡ reset_in down
unfolding gpio_cycle
gpio_answers s now None = unchanged s.inputs (pins_moved s now).inputs _ refl
  where
    unchanged : (before after : ℕ) (same : Bool) → eqb before after ≡ same → done_in (input_up before after None) ≡ 0
    unchanged before after true e = rw e refl
    unchanged before after false e = rw e refl
gpio_answers s now (Some Reset) = refl
gpio_answers s now (Some (Set reg word)) = unchanged s.inputs (pins_moved s now).inputs _ refl
  where
    unchanged : (before after : ℕ) (same : Bool) → eqb before after ≡ same → done_in (input_up before after (Some (Set reg word))) ≡ 0
    unchanged before after true e = rw e refl
    unchanged before after false e = rw e refl

pub pwm_answers : (s : PwmState) (now : ℕ) (down : Option Down) → done_in (pwm_cycle s now down).up ≡ reset_in down
unfolding pwm_cycle
pwm_answers s now None = refl
pwm_answers s now (Some Reset) = refl
pwm_answers s now (Some (Set reg word)) = refl

-- a watchdog that counts answers nothing
counted_answers : (s : WatchdogState) (now : ℕ) (on last : Bool) → s.enabled ≡ on → eqb (s.left - 1) 0 ≡ last → done_in (counted s now).up ≡ 0
counted_answers s now false last e l = ap (λ (g : Given WatchdogState). done_in g.up) (counted_off s now e)
counted_answers s now true false e l = ap (λ (g : Given WatchdogState). done_in g.up) (counted_less s now e l)
counted_answers s now true true e l = ap (λ (g : Given WatchdogState). done_in g.up) (counted_out s now e l)

wdt_silent : (s : WatchdogState) (now : ℕ) (down : Option Down) (fired : Bool) → s.fired ≡ fired → reset_in down ≡ 0 → done_in (watchdog_cycle s now down).up ≡ 0
wdt_silent s now down true f r = ap (λ (g : Given WatchdogState). done_in g.up) (cycle_rests s now down f r)
wdt_silent s now down false f r =
    ap (λ (g : Given WatchdogState). done_in g.up) (cycle_counts s now down f r) ∙ counted_answers (after_message s down) now _ _ refl refl

pub wdt_answers : (s : WatchdogState) (now : ℕ) (down : Option Down) → done_in (watchdog_cycle s now down).up ≡ reset_in down
wdt_answers s now None = wdt_silent s now None _ refl refl
wdt_answers s now (Some Reset) = ap (λ (g : Given WatchdogState). done_in g.up) (cycle_resets s now)
wdt_answers s now (Some (Set reg word)) = wdt_silent s now (Some (Set reg word)) _ refl refl
