-- A law over definitions: the order of events and of issues.
use Rattle.std.specs.Prelude.{◌≡◌, ◌<◌, ◌⊎◌, ℕ, List, [], ◌∷◌}
use Rattle.chip_base.specs.declared.event.Event.{Event}
use Rattle.chip_base.specs.declared.hart.IssueRecord.{IssueRecord}

-- of things that come in a cycle and have a place in it
module _ {A : Type 0} (cycle place : A → ℕ) where
  -- one stands before another: in an earlier cycle, or in the same cycle at a lower place
  abbrev pub Precedes : A → A → Type 0
  Precedes a b = (cycle a < cycle b) ⊎ ((cycle a ≡ cycle b) × (place a < place b))

  -- each precedes the next one; so a place has at most one in a cycle
  abbrev pub AreOrdered : List A → Type 0
  AreOrdered [] = Unit {0}
  AreOrdered (a ∷ []) = Unit {0}
  AreOrdered (a ∷ b ∷ rest) = Precedes a b × AreOrdered (b ∷ rest)

  -- each came before this cycle
  abbrev pub ArePast : ℕ → List A → Type 0
  ArePast now [] = Unit {0}
  ArePast now (a ∷ rest) = (cycle a < now) × ArePast now rest

  -- those of the cycles before this one, in their order
  pub record AreOrderedBefore (now : ℕ) (all : List A) : Type 0 where
    pub order : AreOrdered all
    pub past : ArePast now all

-- events of the cycles before this one, by cycle and then by unit; so a unit has at most one event in a cycle
abbrev pub AreOrderedEvents : ℕ → List Event → Type 0
AreOrderedEvents = AreOrderedBefore (λ (e : Event). e.cycle) (λ (e : Event). e.unit)

-- issues of the cycles before this one, by cycle and then by hart; so a hart issues at most one instruction in a cycle
abbrev pub AreOrderedIssues : ℕ → List IssueRecord → Type 0
AreOrderedIssues = AreOrderedBefore (λ (r : IssueRecord). r.cycle) (λ (r : IssueRecord). r.hart)
