-- Lines of events that are written one after another.
use Rattle.std.proofs.Common.{◌≡◌, ℕ, ◌+◌, ◌<◌, List, [], ◌++◌, length, take, drop, get_or, Option, Result, Ok, Err, ap, sym, ◌∙◌, subst}
use Rattle.std.specs.List.{flat_map}
use Rattle.std.specs.Result.{IsErrAnd}
use Rattle.std.proofs.lemmas.List.{flat_map_more, take_more, take-append-drop}
use Rattle.std.proofs.lemmas.Grind.{flat_map-append}
use Rattle.bench_shelf.specs.declared.sink.SinkFault.{SinkFault}
use Rattle.bench_shelf.specs.Sink.{Appending}
use Rattle.bench_shelf.proofs.Writing.{writes_then, writes_exit}

-- the exit of a `?` in a loop over the texts of a list
pub each_exit : {X : Type 0} {a b c : Option (List ℕ)} {f g h : ℕ} {x : Unit {0}} {e : SinkFault} (text : X → List ℕ) (items : List X) (i : ℕ) (d : X)
    (r : Result (Unit {0}) SinkFault) → i < length items → Appending a b f g (flat_map text (take i items)) (Ok x)
    → Appending b c g h (text (get_or items i d)) (Err e) → IsErrAnd r (λ d. d ≡ e) → Appending a c f h (flat_map text items) r
each_exit {a = a} {c = c} {f = f} {h = h} {e = e} text items i d r lt p q at =
    let so_far : flat_map text (take i items) ++ text (get_or items i d) ≡ flat_map text (take (i + 1) items)
    = flat_map_more text [] (take i items) (get_or items i d) ∙ ap (flat_map text) (sym (take_more items i d lt)) in
    let whole : (flat_map text (take i items) ++ text (get_or items i d)) ++ flat_map text (drop (i + 1) items) ≡ flat_map text items
    = ap (λ t. t ++ flat_map text (drop (i + 1) items)) so_far ∙ sym (flat_map-append text (take (i + 1) items) (drop (i + 1) items))
    ∙ ap (flat_map text) (take-append-drop (i + 1) items) in
    subst (λ t. Appending a c f h t r) whole (writes_exit (flat_map text (drop (i + 1) items)) r at (writes_then (Err e) p q))
