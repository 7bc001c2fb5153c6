-- Runs of the chip.
use Rattle.std.proofs.Common.{◌≡◌, ℕ, zero, suc, ◌+◌, List, [], refl, ap, ◌∙◌, arith, add-one}
use Rattle.chip_whole.specs.Chip.{Board, ChipState, after, start, tick}
use Rattle.chip_base.specs.Settings.{Values}
use Rattle.chip_base.specs.declared.boot.Boot.{Boot}
use Rattle.chip_base.specs.declared.script.Script.{Script}

pub after_zero : (board : Board) (c : ChipState) → after board c 0 ≡ c
unfolding after
after_zero board c = refl

pub after_more : (board : Board) (c : ChipState) (n : ℕ) → after board c (n + 1) ≡ tick board (after board c n)
unfolding after
after_more board c n = rw (add-one n) refl

cycle_tick : (board : Board) (c : ChipState) → (tick board c).cycle ≡ suc c.cycle
unfolding tick
cycle_tick board c = refl

-- the cycles that were run are counted
pub cycle_after : (board : Board) (c : ChipState) (n : ℕ) → (after board c n).cycle ≡ c.cycle + n
unfolding after
cycle_after board c zero = omega arith
cycle_after board c (suc n) =
    let before : (after board c n).cycle ≡ c.cycle + n = cycle_after board c n in
    cycle_tick board (after board c n) ∙ omega (arith, before)

-- a run goes on where another one ended
pub after_sum : (board : Board) (c : ChipState) (m n : ℕ) → after board c (m + n) ≡ after board (after board c m) n
unfolding after
after_sum board c m zero = ap (after board c) (omega arith)
after_sum board c m (suc n) =
    let more : m + suc n ≡ suc (m + n) = omega arith in
    ap (after board c) more ∙ ap (tick board) (after_sum board c m n)

-- a fact that each cycle keeps holds after any number of them
pub kept_after : (board : Board) (P : ChipState → Type 0) → ((c : ChipState) → P c → P (tick board c)) → (c : ChipState) (n : ℕ) → P c → P (after board c n)
unfolding after
kept_after board P step c zero h = h
kept_after board P step c (suc n) h = step (after board c n) (kept_after board P step c n h)

-- no event has come at power-on
pub start_events : (v : Values) (boot : Boot) (image : List ℕ) (script : Script) → (start v boot image script).events ≡ []
unfolding start
start_events v boot image script = refl

pub start_cycle : (v : Values) (boot : Boot) (image : List ℕ) (script : Script) → (start v boot image script).cycle ≡ 0
unfolding start
start_cycle v boot image script = refl
