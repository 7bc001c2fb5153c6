-- What a cycle of the stream link does to a word that comes, and the calls of its part.
use Rattle.std.proofs.Common.{◌≡◌, ◌≤◌, ℕ, ◌+◌, Bool, true, false, eqb, List, [], ◌++◌, length, map, Option, None, Some, refl, ap, subst, sym, ◌∙◌, arith, append-nil}
use Rattle.std.specs.Prelude.{nat_lt, option_to_list}
use Rattle.std.proofs.lemmas.Bool.Decides.{nat_tests}
use Rattle.bench_parts.specs.Behave.{Behaviour}
use Rattle.chip_base.specs.Messages.{at_either_data, entry_in, reset_in}
use Rattle.chip_base.specs.Runs.{ran, unit_after}
use Rattle.chip_base.specs.declared.message.Down.{Down}
use Rattle.chip_base.specs.declared.message.Down.TheVariants.{Reset, Set}
use Rattle.stream_link.specs.Laws.{asked_by, waiting_with, words_in}
use Rattle.stream_link.specs.StreamCycle.{stream_cycle}
use Rattle.stream_link.specs.StreamState.{StreamState}
use Rattle.stream_link.specs.declared.word.StreamWord.{StreamWord}
use Rattle.stream_link.proofs.Asks.{asks_in_order}

-- a message that is no entry brings no word
brings_none : (reg word : ℕ) (a b : Bool) → eqb reg 4 ≡ a → eqb reg 8 ≡ b
    → entry_in at_either_data (Some (Set reg word)) ≡ 0 → words_in (Some (Set reg word)) ≡ []
brings_none reg word true b p q none = absurd (let one : entry_in at_either_data (Some (Set reg word)) ≡ 1 = rw p refl in omega (arith, none, one))
brings_none reg word false true p q none = absurd (let one : entry_in at_either_data (Some (Set reg word)) ≡ 1 = rw (p, q) refl in omega (arith, none, one))
brings_none reg word false false p q none = rw (p, q) refl

-- where there is room for what comes, it waits behind the others
wait_by : (waiting : List StreamWord) (reg word : ℕ) (room : Bool) → nat_lt (length waiting) 16 ≡ room
    → length waiting + entry_in at_either_data (Some (Set reg word)) ≤ 16
    → waiting_with waiting (Some (Set reg word)) ≡ waiting ++ words_in (Some (Set reg word))
wait_by waiting reg word true r l = rw r refl
wait_by waiting reg word false r l =
    let full : 16 ≤ length waiting = grind (arith, nat_tests) in
    let none : words_in (Some (Set reg word)) ≡ [] = brings_none reg word _ _ refl refl (omega (arith, full, l)) in
    rw r (sym (append-nil waiting) ∙ ap (λ words. waiting ++ words) (sym none))

pub all_wait : (waiting : List StreamWord) (down : Option Down) → reset_in down ≡ 0 → length waiting + entry_in at_either_data down ≤ 16
    → waiting_with waiting down ≡ waiting ++ words_in down
all_wait waiting None r l = sym (append-nil waiting)
all_wait waiting (Some Reset) r l = absurd (omega (arith, r))
all_wait waiting (Some (Set reg word)) r l = wait_by waiting reg word _ refl l

-- a cycle calls the part with the word that it tells, and with no other
pub cycle_asks : (part : Option Behaviour) (s : StreamState) (now : ℕ) (down : Option Down)
    → (stream_cycle part s now down).unit.passed ≡ s.passed ++ map asked_by (option_to_list (stream_cycle part s now down).event)
unfolding ran unit_after
cycle_asks part s now down =
    let same : now + 0 ≡ now = omega arith in
    subst (λ t. (stream_cycle part s t down).unit.passed ≡ s.passed ++ map asked_by (option_to_list (stream_cycle part s t down).event)) same
    (asks_in_order part s now (λ t. down) 1)
