-- The watch that was added first.
use Rattle.std.proofs.Common.{◌≡◌, ℕ, zero, suc, ◌+◌, ◌<◌, ◌≤◌, List, [], ◌∷◌, length, drop, get_or, None, refl, arith, add-one}
use Rattle.std.specs.Option.{option_or}
use Rattle.bench_debug.specs.Stops.{first_met, met_by}
use Rattle.command_text.specs.declared.command.Command.{Command}

-- one more command
pub met_next : (earlier : List Command) (i : ℕ) (d : Command) (store : ℕ × ℕ) → i < length earlier
    → first_met (drop i earlier) store ≡ option_or (met_by store (get_or earlier i d)) (first_met (drop (i + 1) earlier) store)
unfolding first_met
met_next [] i d store h = absurd (grind arith)
met_next (c ∷ rest) zero d store h = refl
met_next (c ∷ rest) (suc i) d store h = let less : i < length rest = grind arith in rw (add-one (suc i)) (rw (add-one i) at (met_next rest i d store less))

-- no command is left
pub met_past : (earlier : List Command) (i : ℕ) (store : ℕ × ℕ) → length earlier ≤ i → first_met (drop i earlier) store ≡ None
unfolding first_met
met_past [] zero store h = refl
met_past [] (suc i) store h = refl
met_past (c ∷ rest) zero store h = absurd (grind arith)
met_past (c ∷ rest) (suc i) store h = let fewer : length rest ≤ i = grind arith in met_past rest i store fewer
