-- Over many cycles the pins have the levels that a script gives them.
use Rattle.std.proofs.Common.{◌≡◌, ◌≢◌, ◌≤◌, ◌<◌, ℕ, zero, suc, ◌-◌, ◌^◌, ◌&&◌, min, max, eqb, leb, ltb, cond, Bool, true, false, List, [], ◌∷◌, Option, refl, sym, ap, subst, ◌∙◌, arith}
use Rattle.std.proofs.Math.Pow.{pow-lt}
use Rattle.std.proofs.lemmas.Bool.Decides.{nat_tests}
use Rattle.std.proofs.lemmas.Nat.Bits.{bit_at_and, bit_at_not, bit_at_or, bit_at-lt, bit_at-zero, bit_at-pow_same, bit_at-pow_other}
use Rattle.std.specs.Cmp.Derive.{both_true}
use Rattle.std.specs.Int.{bit_at, bit_not, w32}
use Rattle.chip_base.specs.declared.message.Down.{Down}
use Rattle.chip_base.specs.declared.script.PinStep.{PinStep}
use Rattle.chip_base.proofs.Runs.{after_more, after_none, given_from_zero}
use Rattle.chip_base.specs.Runs.{unit_after}
use Rattle.chip_base.specs.Steps.{are_pins, are_pins_from, is_pin}
use Rattle.board_units.specs.GpioCycle.{with_level, inputs_after, still_to_come, gpio_cycle}
use Rattle.board_units.specs.GpioScript.{ChangesNow, FollowsScript, level_bit, level_by}
use Rattle.board_units.specs.GpioState.{GpioState, gpio_start}
use Rattle.board_units.proofs.Compared.{at_most, is_at_most, is_below, is_from, later, not_below}
use Rattle.board_units.proofs.Pins.{left_true, right_true}

is_equal : (a b : ℕ) → eqb a b ≡ true → a ≡ b
is_equal a b h = grind (arith, nat_tests)

is_other : (a b : ℕ) → eqb a b ≡ false → b ≢ a
is_other a b h e = grind (arith, nat_tests)

single-bit : (pin q : ℕ) (same : Bool) → eqb pin q ≡ same → bit_at (2 ^ pin) q ≡ cond same 1 0
single-bit pin q true h = ap (λ i. bit_at (2 ^ pin) i) (sym (is_equal pin q h)) ∙ bit_at-pow_same pin
single-bit pin q false h = bit_at-pow_other pin q (is_other pin q h)

raised : (b : ℕ) (same : Bool) → b < 2 → max b (cond same 1 0) ≡ cond same 1 b
raised b true h = omega arith
raised b false h = omega arith

lowered : (b : ℕ) (same : Bool) → b < 2 → min b (1 - cond same 1 0) ≡ cond same 0 b
lowered b true h = omega arith
lowered b false h = omega arith

level-bit_by : (x q : ℕ) (p : PinStep) (high same : Bool) → p.level ≡ high → eqb p.pin q ≡ same → p.pin ≤ 31 → q < 32
    → bit_at (with_level x p) q ≡ cond same (level_bit high) (bit_at x q)
level-bit_by x q p true same l e k within = rw l
    (bit_at_or x (2 ^ p.pin) q ∙ ap (max (bit_at x q)) (single-bit p.pin q same e) ∙ raised (bit_at x q) same (bit_at-lt x q))
level-bit_by x q p false same l e k within = rw l
    (bit_at_and x (bit_not w32 (2 ^ p.pin)) q
    ∙ ap (min (bit_at x q)) (bit_at_not w32 (2 ^ p.pin) q (pow-lt {i = p.pin} {j = 32} (omega arith)) within ∙ ap (λ b. 1 - b) (single-bit p.pin q same e))
    ∙ lowered (bit_at x q) same (bit_at-lt x q))

level-bit : (x q : ℕ) (p : PinStep) → p.pin ≤ 31 → q < 32 → bit_at (with_level x p) q ≡ cond (eqb p.pin q) (level_bit p.level) (bit_at x q)
level-bit x q p k within = level-bit_by x q p _ _ refl refl k within

pin-of : (last : ℕ) (p : PinStep) (ps : List PinStep) → are_pins_from last (p ∷ ps) ≡ true → p.pin ≤ 31
pin-of last p ps h = is_at_most p.pin 31 (left_true (leb p.pin 31) (leb p.cycle (2 ^ 32 - 1))
    (left_true (is_pin p) (leb last p.cycle) (left_true (is_pin p && leb last p.cycle) (are_pins_from p.cycle ps) h)))

order-of : (last : ℕ) (p : PinStep) (ps : List PinStep) → are_pins_from last (p ∷ ps) ≡ true → last ≤ p.cycle
order-of last p ps h = is_at_most last p.cycle
    (right_true (is_pin p) (leb last p.cycle) (left_true (is_pin p && leb last p.cycle) (are_pins_from p.cycle ps) h))

rest-of : (last : ℕ) (p : PinStep) (ps : List PinStep) → are_pins_from last (p ∷ ps) ≡ true → are_pins_from p.cycle ps ≡ true
rest-of last p ps h = right_true (is_pin p && leb last p.cycle) (are_pins_from p.cycle ps) h

-- a part of a script in order may begin at any cycle that isn't later
from-lower : (last lower : ℕ) (p : PinStep) (ps : List PinStep) → lower ≤ p.cycle → are_pins_from last (p ∷ ps) ≡ true
    → are_pins_from lower (p ∷ ps) ≡ true
from-lower last lower p ps k h =
    both_true (both_true (left_true (is_pin p) (leb last p.cycle) (left_true (is_pin p && leb last p.cycle) (are_pins_from p.cycle ps) h))
    (at_most lower p.cycle k)) (rest-of last p ps h)

-- pin changes of cycles that don't count change no level
none-counts : (counts : ℕ → Bool) (last q : ℕ) (ps : List PinStep) (level : ℕ) → ((c : ℕ) → last ≤ c → counts c ≡ false)
    → are_pins_from last ps ≡ true → level_by counts q ps level ≡ level
none-counts counts last q [] level n h = refl
none-counts counts last q (p ∷ ps) level n h =
    let o : last ≤ p.cycle = order-of last p ps h in
    rw (n p.cycle o) (none-counts counts p.cycle q ps level (λ c k. n c (omega (arith, o, k))) (rest-of last p ps h))

not_equal : (a b : ℕ) → b < a → eqb a b ≡ false
not_equal a b h = grind (arith, nat_tests)

same_test : (a b : ℕ) → b ≤ a → eqb a b ≡ leb a b
same_test a b h = grind (arith, nat_tests)

-- the levels after a cycle, by the changes of this very cycle
inputs-level : (last now q : ℕ) (ps : List PinStep) (x : ℕ) → are_pins_from last ps ≡ true → q < 32
    → bit_at (inputs_after now ps x) q ≡ level_by (λ c. eqb c now) q ps (bit_at x q)
inputs-level last now q [] x h k = refl
inputs-level last now q (p ∷ ps) x h k = by_cycle _ _ refl refl (λ y. inputs-level p.cycle now q ps y (rest-of last p ps h) k)
  where
    by_cycle : (later same : Bool) → ltb now p.cycle ≡ later → eqb p.cycle now ≡ same
        → ((y : ℕ) → bit_at (inputs_after now ps y) q ≡ level_by (λ c. eqb c now) q ps (bit_at y q))
        → bit_at (inputs_after now (p ∷ ps) x) q ≡ level_by (λ c. eqb c now) q (p ∷ ps) (bit_at x q)
    by_cycle true same e f next =
        let o : now < p.cycle = is_below now p.cycle e in
        rw e (sym (none-counts (λ c. eqb c now) p.cycle q (p ∷ ps) (bit_at x q) (λ c m. not_equal c now (omega (arith, o, m)))
        (from-lower last p.cycle p ps (omega arith) h)))
    by_cycle false true e f next = rw (e, f) (next (with_level x p) ∙ ap (level_by (λ c. eqb c now) q ps) (level-bit x q p (pin-of last p ps h) k))
    by_cycle false false e f next = rw (e, f) (next x)

come-later : (t u : ℕ) (ps : List PinStep) → t ≤ u → still_to_come u (still_to_come t ps) ≡ still_to_come u ps
come-later t u [] k = refl
come-later t u (p ∷ ps) k = by_cycle _ refl (come-later t u ps k)
  where
    by_cycle : (later : Bool) → ltb t p.cycle ≡ later → still_to_come u (still_to_come t ps) ≡ still_to_come u ps
        → still_to_come u (still_to_come t (p ∷ ps)) ≡ still_to_come u (p ∷ ps)
    by_cycle true e next = rw e refl
    by_cycle false e next =
        let o : p.cycle ≤ t = is_from t p.cycle e in
        let f : ltb u p.cycle ≡ false = not_below u p.cycle (omega (arith, o, k)) in
        rw (e, f) next

come-valid : (last now : ℕ) (ps : List PinStep) → are_pins_from last ps ≡ true → are_pins_from 0 (still_to_come now ps) ≡ true
come-valid last now [] h = refl
come-valid last now (p ∷ ps) h = by_cycle _ refl (come-valid p.cycle now ps (rest-of last p ps h))
  where
    by_cycle : (later : Bool) → ltb now p.cycle ≡ later → are_pins_from 0 (still_to_come now ps) ≡ true
        → are_pins_from 0 (still_to_come now (p ∷ ps)) ≡ true
    by_cycle true e next = rw e (from-lower last 0 p ps (omega arith) h)
    by_cycle false e next = rw e next

-- where no change is of an earlier cycle, those of this cycle are all up to it
same-from : (last now q : ℕ) (ps : List PinStep) (level : ℕ) → are_pins_from last ps ≡ true → now ≤ last
    → level_by (λ c. eqb c now) q ps level ≡ level_by (λ c. leb c now) q ps level
same-from last now q [] level h k = refl
same-from last now q (p ∷ ps) level h k =
    let o : last ≤ p.cycle = order-of last p ps h in
    rw (same_test p.cycle now (omega (arith, o, k)))
    (same-from p.cycle now q ps (cond (leb p.cycle now && eqb p.pin q) (level_bit p.level) level) (rest-of last p ps h) (omega (arith, o, k)))

-- the changes of the next cycle, after those up to this one
next-level : (last now q : ℕ) (ps : List PinStep) (level : ℕ) → are_pins_from last ps ≡ true
    → level_by (λ c. eqb c (suc now)) q (still_to_come now ps) (level_by (λ c. leb c now) q ps level) ≡ level_by (λ c. leb c (suc now)) q ps level
next-level last now q [] level h = refl
next-level last now q (p ∷ ps) level h = by_cycle _ refl (λ l. next-level p.cycle now q ps l (rest-of last p ps h))
  where
    by_cycle : (later : Bool) → ltb now p.cycle ≡ later
        → ((l : ℕ) → level_by (λ c. eqb c (suc now)) q (still_to_come now ps) (level_by (λ c. leb c now) q ps l) ≡ level_by (λ c. leb c (suc now)) q ps l)
        → level_by (λ c. eqb c (suc now)) q (still_to_come now (p ∷ ps)) (level_by (λ c. leb c now) q (p ∷ ps) level)
        ≡ level_by (λ c. leb c (suc now)) q (p ∷ ps) level
    by_cycle true e next =
        let o : now < p.cycle = is_below now p.cycle e in
        let v : are_pins_from p.cycle (p ∷ ps) ≡ true = from-lower last p.cycle p ps (omega arith) h in
        rw e (ap (level_by (λ c. eqb c (suc now)) q (p ∷ ps))
        (none-counts (λ c. leb c now) p.cycle q (p ∷ ps) level (λ c m. later c now (omega (arith, o, m))) v)
        ∙ same-from p.cycle (suc now) q (p ∷ ps) level v (omega (arith, o)))
    by_cycle false e next =
        let o : p.cycle ≤ now = is_from now p.cycle e in
        let f : leb p.cycle now ≡ true = at_most p.cycle now o in
        let g : leb p.cycle (suc now) ≡ true = at_most p.cycle (suc now) (omega (arith, o)) in
        rw (e, f, g) (next (cond (eqb p.pin q) (level_bit p.level) level))

-- from power-on

abbrev pins_unit : List PinStep → (ℕ → Option Down) → ℕ → GpioState
pins_unit ps downs now = unit_after gpio_cycle (gpio_start ps) 0 downs now

record Moves (old : GpioState) (now : ℕ) (new : GpioState) : Type 0 where
  pins : new.pins ≡ still_to_come now old.pins
  inputs : new.inputs ≡ inputs_after now old.pins old.inputs

cycle-moves : (s : GpioState) (now : ℕ) (down : Option Down) → Moves s now (gpio_cycle s now down).unit
unfolding gpio_cycle
cycle-moves s now down = record { pins = refl; inputs = refl }

next-moves : (ps : List PinStep) (downs : ℕ → Option Down) (now : ℕ) → Moves (pins_unit ps downs now) now (pins_unit ps downs (suc now))
next-moves ps downs now =
    subst (Moves (pins_unit ps downs now) now) (sym (after_more gpio_cycle (gpio_start ps) 0 downs now))
    (subst (λ g. Moves (pins_unit ps downs now) now g.unit) (sym (given_from_zero gpio_cycle (gpio_start ps) downs now))
    (cycle-moves (pins_unit ps downs now) now (downs now)))

first-unit : (ps : List PinStep) (downs : ℕ → Option Down) → pins_unit ps downs 0 ≡ gpio_start ps
first-unit ps downs = after_none gpio_cycle (gpio_start ps) 0 downs

pins-are : (ps : List PinStep) (downs : ℕ → Option Down) (now : ℕ) → (pins_unit ps downs (suc now)).pins ≡ still_to_come now ps
pins-are ps downs zero = (next-moves ps downs 0).pins ∙ ap (λ u. still_to_come 0 u.pins) (first-unit ps downs)
pins-are ps downs (suc now) =
    (next-moves ps downs (suc now)).pins ∙ ap (still_to_come (suc now)) (pins-are ps downs now) ∙ come-later now (suc now) ps (omega arith)

levels-are : (ps : List PinStep) (downs : ℕ → Option Down) (now q : ℕ) → are_pins ps ≡ true → q < 32
    → bit_at (pins_unit ps downs (suc now)).inputs q ≡ level_by (λ c. leb c now) q ps 0
levels-are ps downs zero q v k =
    ap (λ w. bit_at w q) ((next-moves ps downs 0).inputs ∙ ap (λ u. inputs_after 0 u.pins u.inputs) (first-unit ps downs))
    ∙ inputs-level 0 0 q ps 0 v k ∙ ap (level_by (λ c. eqb c 0) q ps) (bit_at-zero q) ∙ same-from 0 0 q ps 0 v (omega arith)
levels-are ps downs (suc now) q v k =
    let u : GpioState = pins_unit ps downs (suc now) in
    ap (λ w. bit_at w q) ((next-moves ps downs (suc now)).inputs ∙ ap (λ pins. inputs_after (suc now) pins u.inputs) (pins-are ps downs now))
    ∙ inputs-level 0 (suc now) q (still_to_come now ps) u.inputs (come-valid 0 now ps v) k
    ∙ ap (level_by (λ c. eqb c (suc now)) q (still_to_come now ps)) (levels-are ps downs now q v k)
    ∙ next-level 0 now q ps 0 v

-- each pin has the level that a valid script gives it
pub follows_script : (ps : List PinStep) → FollowsScript ps
follows_script ps valid downs now pin k = levels-are ps downs now pin valid k

-- in a cycle only the changes of this very cycle count
pub changes_now : (s : GpioState) (now after : ℕ) → after ≡ inputs_after now s.pins s.inputs → ChangesNow s now after
changes_now s now after e valid pin k = ap (λ w. bit_at w pin) e ∙ inputs-level 0 now pin s.pins s.inputs valid k
