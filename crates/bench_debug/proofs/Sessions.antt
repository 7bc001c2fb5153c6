-- Commands, one after another.
use Rattle.std.proofs.Common.{◌≡◌, ℕ, ◌+◌, ◌<◌, List, [], ◌∷◌, ◌++◌, length, take, drop, get_or, Option, Result, Ok, Err, subst, refl, ap, sym, ◌∙◌, append_assoc, append-nil}
use Rattle.std.proofs.lemmas.List.{take_more, take-append-drop}
use Rattle.std.specs.Result.{IsErrAnd}
use Rattle.bench_shelf.specs.declared.sink.SinkFault.{SinkFault}
use Rattle.bench_shelf.specs.Sink.{Appending}
use Rattle.bench_shelf.proofs.Writing.{writes_exit, writes_then}
use Rattle.chip_whole.specs.Chip.{Board, ChipState}
use Rattle.bench_debug.specs.Session.{cycles_by, done_by, text_by}
use Rattle.command_text.specs.declared.command.Command.{Command}

-- the count after some commands and then others
cycles_join : (board : Board) (s : ChipState) (bound : ℕ) (earlier : List Command) (n : ℕ) (xs ys : List Command)
    → cycles_by board s bound earlier n (xs ++ ys) ≡ cycles_by board s bound (earlier ++ xs) (cycles_by board s bound earlier n xs) ys
unfolding cycles_by
cycles_join board s bound earlier n [] ys = ap (λ e. cycles_by board s bound e n ys) (sym (append-nil earlier))
cycles_join board s bound earlier n (c ∷ xs) ys =
    let m = (done_by board s bound earlier n c).cycles in
    cycles_join board s bound (earlier ++ c ∷ []) m xs ys
    ∙ ap (λ e. cycles_by board s bound e (cycles_by board s bound (earlier ++ c ∷ []) m xs) ys) (append_assoc earlier (c ∷ []) xs)

-- what some commands print and then others
text_join : (board : Board) (s : ChipState) (bound : ℕ) (earlier : List Command) (n : ℕ) (xs ys : List Command)
    → text_by board s bound earlier n (xs ++ ys)
    ≡ text_by board s bound earlier n xs ++ text_by board s bound (earlier ++ xs) (cycles_by board s bound earlier n xs) ys
unfolding cycles_by text_by
text_join board s bound earlier n [] ys = ap (λ e. text_by board s bound e n ys) (sym (append-nil earlier))
text_join board s bound earlier n (c ∷ xs) ys =
    let m = (done_by board s bound earlier n c).cycles in
    let here = (done_by board s bound earlier n c).text in
    let so_far = text_by board s bound (earlier ++ c ∷ []) m xs in
    let rest : List Command → List ℕ = λ e. text_by board s bound e (cycles_by board s bound (earlier ++ c ∷ []) m xs) ys in
    ap (λ t. here ++ t) (text_join board s bound (earlier ++ c ∷ []) m xs ys ∙ ap (λ e. so_far ++ rest e) (append_assoc earlier (c ∷ []) xs))
    ∙ sym (append_assoc here so_far (rest (earlier ++ c ∷ xs)))

-- one command more is counted
pub cycles_more : (board : Board) (s : ChipState) (bound : ℕ) (commands : List Command) (i : ℕ) (d : Command) → i < length commands
    → cycles_by board s bound [] 0 (take (i + 1) commands)
    ≡ (done_by board s bound (take i commands) (cycles_by board s bound [] 0 (take i commands)) (get_or commands i d)).cycles
unfolding cycles_by
cycles_more board s bound commands i d lt =
    ap (cycles_by board s bound [] 0) (take_more commands i d lt)
    ∙ cycles_join board s bound [] 0 (take i commands) (get_or commands i d ∷ [])

-- one command more prints
pub text_more : (board : Board) (s : ChipState) (bound : ℕ) (commands : List Command) (i : ℕ) (d : Command) → i < length commands
    → text_by board s bound [] 0 (take (i + 1) commands)
    ≡ text_by board s bound [] 0 (take i commands) ++ (done_by board s bound (take i commands) (cycles_by board s bound [] 0 (take i commands))
    (get_or commands i d)).text
unfolding text_by
text_more board s bound commands i d lt =
    ap (text_by board s bound [] 0) (take_more commands i d lt) ∙ text_join board s bound [] 0 (take i commands) (get_or commands i d ∷ [])
    ∙ ap (λ t. text_by board s bound [] 0 (take i commands) ++ t) (append-nil _)

-- what is printed so far is a beginning of the whole
pub text_rest : (board : Board) (s : ChipState) (bound : ℕ) (commands : List Command) (i : ℕ)
    → text_by board s bound [] 0 (take i commands) ++ text_by board s bound (take i commands) (cycles_by board s bound [] 0 (take i commands)) (drop i commands)
    ≡ text_by board s bound [] 0 commands
text_rest board s bound commands i =
    sym (text_join board s bound [] 0 (take i commands) (drop i commands)) ∙ ap (text_by board s bound [] 0) (take-append-drop i commands)

-- one command more was written
pub text_going : {a b c : Option (List ℕ)} {f g h : ℕ} {x y : Unit {0}} (board : Board) (s : ChipState) (bound : ℕ) (commands : List Command) (i : ℕ)
    (d : Command)
    → i < length commands → Appending a b f g (text_by board s bound [] 0 (take i commands)) (Ok x)
    → Appending b c g h (done_by board s bound (take i commands) (cycles_by board s bound [] 0 (take i commands)) (get_or commands i d)).text (Ok y)
    → Appending a c f h (text_by board s bound [] 0 (take (i + 1) commands)) (Ok y)
text_going {a = a} {c = c} {f = f} {h = h} {y = y} board s bound commands i d lt p q =
    subst (λ t. Appending a c f h t (Ok y)) (sym (text_more board s bound commands i d lt)) (writes_then (Ok y) p q)

-- the exit of a `?` in a command
pub text_exit : {a b c : Option (List ℕ)} {f g h : ℕ} {x : Unit {0}} {e : SinkFault} (board : Board) (s : ChipState) (bound : ℕ) (commands : List Command)
    (i : ℕ) (d : Command)
    (r : Result (Unit {0}) SinkFault) → i < length commands → Appending a b f g (text_by board s bound [] 0 (take i commands)) (Ok x)
    → Appending b c g h (done_by board s bound (take i commands) (cycles_by board s bound [] 0 (take i commands)) (get_or commands i d)).text (Err e)
    → IsErrAnd r (λ k. k ≡ e) → Appending a c f h (text_by board s bound [] 0 commands) r
text_exit {a = a} {c = c} {f = f} {h = h} {e = e} board s bound commands i d r lt p q at =
    subst (λ t. Appending a c f h t r) (text_rest board s bound commands (i + 1))
    (writes_exit (text_by board s bound (take (i + 1) commands) (cycles_by board s bound [] 0 (take (i + 1) commands)) (drop (i + 1) commands)) r at
    (subst (λ t. Appending a c f h t (Err e)) (sym (text_more board s bound commands i d lt)) (writes_then (Err e) p q)))

pub text_none : (board : Board) (s : ChipState) (bound : ℕ) (n : ℕ) → text_by board s bound [] n [] ≡ []
unfolding text_by
text_none board s bound n = refl

pub cycles_none : (board : Board) (s : ChipState) (bound : ℕ) (n : ℕ) → cycles_by board s bound [] n [] ≡ n
unfolding cycles_by
cycles_none board s bound n = refl
