-- The issues of a cycle come behind those before it, by hart.
use Rattle.std.proofs.Common.{◌≡◌, ℕ, suc, List, ◌++◌, Option, None, Some, subst, sym, ap, ◌∙◌, append_assoc}
use Rattle.std.specs.Prelude.{option_to_list}
use Rattle.chip_base.specs.declared.hart.IssueRecord.{IssueRecord}
use Rattle.chip_base.specs.declared.message.Up.{Up}
use Rattle.chip_hub.proofs.Numbers.{AreByHart, AreNumbered, IssuedAt, issues_by_hart}
use Rattle.chip_hub.specs.Observed.{hub_issues}
use Rattle.chip_hub.specs.State.{HubState}
use Rattle.chip_whole.proofs.Orders.{EndBefore, IsAt, two_come}

-- issues in order, all before this hart's place in this cycle
abbrev pub IssueBefore : ℕ → ℕ → List IssueRecord → Type 0
IssueBefore = EndBefore (λ (r : IssueRecord). r.cycle) (λ (r : IssueRecord). r.hart)

is_at : (hart now : ℕ) (issued : Option IssueRecord) → IssuedAt hart now issued → IsAt (λ (r : IssueRecord). r.cycle) (λ (r : IssueRecord). r.hart) hart now issued
is_at hart now None h = tt
is_at hart now (Some r) h = h

pub issues_next : (s : HubState) (now : ℕ) (ups : List (Option Up)) (issues : List IssueRecord) → AreNumbered s → IssueBefore now 0 issues
    → IssueBefore (suc now) 0 (issues ++ hub_issues s now ups)
issues_next s now ups issues n h =
    let here : AreByHart now (hub_issues s now ups) = issues_by_hart s now ups n in
    let all : issues ++ hub_issues s now ups ≡ issues ++ option_to_list here.first ++ option_to_list here.second
    = ap (λ later. issues ++ later) here.are ∙ sym (append_assoc issues (option_to_list here.first) (option_to_list here.second)) in
    subst (IssueBefore (suc now) 0) (sym all)
    (two_come _ _ now issues here.first here.second (is_at 0 now here.first here.of_hart_0) (is_at 1 now here.second here.of_hart_1) h)
