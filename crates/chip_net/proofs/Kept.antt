-- Events that are kept one after another.
use Rattle.std.proofs.Common.{◌≡◌, ◌<◌, ◌+◌, ℕ, length, take, get_or, List, [], ◌∷◌, ◌++◌, Option, sym, ap, ◌∙◌, append_assoc, append-nil}
use Rattle.std.specs.Prelude.{option_to_list}
use Rattle.std.proofs.lemmas.List.{take_more}
use Rattle.chip_base.specs.declared.event.Event.{Event}
use Rattle.chip_whole.specs.Chip.{events_of}

pub events_more : (told : List (Option Event)) (e : Option Event) → events_of (told ++ e ∷ []) ≡ events_of told ++ option_to_list e
events_more [] e = append-nil (option_to_list e)
events_more (x ∷ rest) e = ap (λ later. option_to_list x ++ later) (events_more rest e) ∙ sym (append_assoc (option_to_list x) (events_of rest) (option_to_list e))

pub events_step : (told : List (Option Event)) (i : ℕ) (d : Option Event) → i < length told
    → events_of (take (i + 1) told) ≡ events_of (take i told) ++ option_to_list (get_or told i d)
events_step told i d l = ap events_of (take_more told i d l) ∙ events_more (take i told) (get_or told i d)

-- an event more
pub kept_more : (old before new : List Event) (told : List (Option Event)) (i : ℕ) (d : Option Event) → i < length told
    → before ≡ old ++ events_of (take i told) → new ≡ before ++ option_to_list (get_or told i d) → new ≡ old ++ events_of (take (i + 1) told)
kept_more old before new told i d l a b =
    b ∙ ap (λ e. e ++ option_to_list (get_or told i d)) a ∙ append_assoc old (events_of (take i told)) (option_to_list (get_or told i d))
    ∙ ap (λ e. old ++ e) (sym (events_step told i d l))
