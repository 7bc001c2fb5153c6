-- What holds of each cycle of the stream link, and of its runs: laws over definitions.
use Rattle.std.specs.Prelude.{◌≡◌, ◌==◌, ◌<◌, ◌≤◌, ℕ, ◌+◌, ◌-◌, ◌%◌, Bool, true, false, List, [], ◌∷◌, ◌++◌, drop, length, map, nat_lt, Option, None, Some, IsSome, if◌then◌else◌}
use Rattle.bench_parts.specs.Behave.{Behaviour}
use Rattle.bench_parts.specs.declared.event.PartEvent.{PartEvent}
use Rattle.chip_base.specs.Entries.{CountsEntries}
use Rattle.chip_base.specs.Given.{Given}
use Rattle.chip_base.specs.Messages.{at_either_data, credit_in, reset_in}
use Rattle.chip_base.specs.Runs.{given_after, ran, unit_after, unit_step}
use Rattle.chip_base.specs.declared.event.Event.{Event}
use Rattle.chip_base.specs.declared.event.EventKind.{EventKind}
use Rattle.chip_base.specs.declared.event.EventKind.TheVariants.{Tx, Out, Word, Last, Fire}
use Rattle.chip_base.specs.declared.message.Down.{Down}
use Rattle.chip_base.specs.declared.message.Down.TheVariants.{Reset, Set}
use Rattle.stream_link.specs.StreamCycle.{link_event, part_event, reply_to, reply_up, stream_cycle}
use Rattle.stream_link.specs.StreamState.{StreamState}
use Rattle.stream_link.specs.declared.word.StreamWord.{StreamWord}

-- the word that a message brings, if it brings one
abbrev pub words_in : Option Down → List StreamWord
words_in None = []
words_in (Some Reset) = []
words_in (Some (Set reg word)) =
    if reg == 4 then record { word = word; last = false } ∷ [] else if reg == 8 then record { word = word; last = true } ∷ [] else []

-- what waits once a message has come: its word stands last, or is lost where sixteen wait; a Reset loses all
abbrev pub waiting_with : List StreamWord → Option Down → List StreamWord
waiting_with waiting None = waiting
waiting_with waiting (Some Reset) = []
waiting_with waiting (Some (Set reg word)) = if nat_lt (length waiting) 16 then waiting ++ words_in (Some (Set reg word)) else waiting

-- the first word that waits is passed: it is told, and the part is called with it once, in its turn, and its reply goes up
pub record PassesFirst (part : Option Behaviour) (passed : List PartEvent) (now : ℕ) (waiting : List StreamWord) (g : Given StreamState) : Type 0 where
  pub word : StreamWord
  pub rest : List StreamWord
  pub first : waiting ≡ word ∷ rest
  pub told : g.event ≡ Some (link_event now word)
  pub asked : g.unit.passed ≡ passed ++ part_event now word ∷ []
  pub replied : g.up ≡ Some (reply_up (reply_to part (passed ++ part_event now word ∷ [])))

-- what a cycle does to the words that wait
pub record PassesInOrder (part : Option Behaviour) (s : StreamState) (now : ℕ) (down : Option Down) (g : Given StreamState) : Type 0 where
  -- they wait in the order in which they came, and the first one leaves where a credit goes up
  pub order : g.unit.queue.waiting ≡ drop (credit_in g.up) (waiting_with s.queue.waiting down)
  pub passes : credit_in g.up ≡ 1 → PassesFirst part s.passed now (waiting_with s.queue.waiting down) g
  -- without a credit nothing is told, and the part isn't called
  pub rests : credit_in g.up ≡ 0 → (g.event ≡ None) × (g.unit.passed ≡ s.passed)

-- whether the unit is enabled once a message has come: a control word says it by its bit 0, and a Reset disables it
abbrev pub enabled_with : Bool → Option Down → Bool
enabled_with enabled None = enabled
enabled_with enabled (Some Reset) = false
enabled_with enabled (Some (Set reg word)) = if reg == 0 then word % 2 == 1 else enabled

-- in which cycles a word is passed, and how a gap runs down
pub record PassesAtOnce (s : StreamState) (down : Option Down) (g : Given StreamState) : Type 0 where
  -- nothing but a message enables the unit or disables it
  pub enabled : g.unit.queue.enabled ≡ enabled_with s.queue.enabled down
  -- where it is enabled, no gap is left and a word waits, one is passed in this very cycle
  pub passes : enabled_with s.queue.enabled down ≡ true → s.queue.gap ≡ 0 → 0 < length (waiting_with s.queue.waiting down) → IsSome g.event
  -- none is passed where it is disabled, nor while a gap lasts
  pub disabled : enabled_with s.queue.enabled down ≡ false → g.event ≡ None
  pub in_gap : 0 < s.queue.gap → g.event ≡ None
  -- a word begins a gap of three cycles; without one a gap has a cycle less, whether the unit is enabled or not
  pub begins : IsSome g.event → g.unit.queue.gap ≡ 3
  pub runs_down : reset_in down ≡ 0 → g.event ≡ None → g.unit.queue.gap ≡ s.queue.gap - 1
  -- a Reset clears it
  pub cleared : reset_in down ≡ 1 → g.unit.queue.gap ≡ 0

-- a word that found room is counted in the unit until its credit goes up; exactly a Reset is answered
abbrev pub CountsWaiting : StreamState → Option Down → Given StreamState → Type 0
CountsWaiting s down g = CountsEntries at_either_data (length s.queue.waiting) down (length g.unit.queue.waiting) g.up

-- an event of the unit as one of a part
abbrev pub is_last : EventKind → Bool
is_last Tx = false
is_last Out = false
is_last Word = false
is_last Last = true
is_last Fire = false

abbrev pub asked_by : Event → PartEvent
asked_by e = record { cycle = e.cycle; word = e.value; last = is_last e.kind }

-- over cycles one after another, the part is called once with each word that is told, in their order, and with nothing else
abbrev pub AsksInOrder : Option Behaviour → Type 0
AsksInOrder part = (s : StreamState) (start : ℕ) (downs : ℕ → Option Down) (n : ℕ)
    → (unit_after (stream_cycle part) s start downs n).passed ≡ s.passed ++ map asked_by (ran (unit_step (stream_cycle part)) s start downs n).told

-- after a word that is passed in the cycle n of a run
pub record PacesAfter (part : Option Behaviour) (s : StreamState) (start : ℕ) (downs : ℕ → Option Down) (n : ℕ) : Type 0 where
  -- none is passed in the next three, whatever comes but a Reset
  pub apart : (k : ℕ) → 0 < k → k < 4 → ((j : ℕ) → 0 < j → j ≤ k → reset_in (downs (start + (n + j))) ≡ 0)
      → (given_after (stream_cycle part) s start downs (n + k)).event ≡ None
  -- and one is in the fourth, where more wait and no message comes
  pub follows : 0 < length (given_after (stream_cycle part) s start downs n).unit.queue.waiting
      → ((j : ℕ) → 0 < j → j ≤ 4 → downs (start + (n + j)) ≡ None) → IsSome (given_after (stream_cycle part) s start downs (n + 4)).event

-- two words are four cycles apart at the least, unless a Reset comes between them (it clears the gap), and no more where nothing holds the second up
abbrev pub KeepsPace : Option Behaviour → Type 0
KeepsPace part = (s : StreamState) (start : ℕ) (downs : ℕ → Option Down) (n : ℕ) (e : Event)
    → (given_after (stream_cycle part) s start downs n).event ≡ Some e → PacesAfter part s start downs n
