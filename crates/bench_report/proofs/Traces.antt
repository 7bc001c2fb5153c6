-- The lines of the latest issues, from the oldest of them on.
use Rattle.std.proofs.Common.{◌≡◌, ◌≤◌, ◌<◌, ℕ, zero, suc, ◌+◌, ◌-◌, inl, inr, List, [], ◌∷◌, ◌++◌, length, reverse, drop, get_or, Option, None, Some, Result, Ok, subst, ap, sym, ◌∙◌, arith, append_assoc, append-nil}
use Rattle.std.specs.Prelude.{option_to_list, slice_get}
use Rattle.std.proofs.lemmas.List.{drop_all, drop_more, get_or-reverse, length-reverse}
use Rattle.std.proofs.lemmas.Grind.{flat_map-append}
use Rattle.std.proofs.lemmas.Bool.{cases_lt}
use Rattle.std.proofs.lemmas.Bool.Decides.{nat_tests}
use Rattle.std.proofs.lemmas.Option.{slice_get-get_or, slice_get_past}
use Rattle.circular_buffer.specs.Buffer.{keep_last}
use Rattle.soc_words.specs.Text.{joined_below}
use Rattle.bench_shelf.specs.declared.sink.SinkFault.{SinkFault}
use Rattle.bench_shelf.specs.Sink.{Appending}
use Rattle.bench_shelf.proofs.Writing.{writes_begin}
use Rattle.soc_words.proofs.Texts.{joined_below-zero, joined_below-more}
use Rattle.chip_base.specs.declared.hart.IssueRecord.{IssueRecord}
use Rattle.chip_hub.specs.Views.{issue_view}
use Rattle.trace_text.specs.Lines.{trace_text}
use Rattle.bench_report.specs.Report.{issue_text_at, trace_lines_text}

-- the line of the issue of this place among the latest `count`
abbrev pub oldest_first : ℕ → List IssueRecord → ℕ → List ℕ
oldest_first count issues number = issue_text_at issues (count - 1 - number)

-- the line of an issue that is shown was written
pub writes_issue : {a b : Option (List ℕ)} {f g : ℕ} {r : Result (Unit {0}) SinkFault} (issues : List IssueRecord) (back : ℕ) (issue : IssueRecord)
    → Some issue ≡ issue_view issues back → Appending a b f g (trace_text issue) r → Appending a b f g (issue_text_at issues back) r
writes_issue {a = a} {b = b} {f = f} {g = g} {r = r} issues back issue e p =
    subst (λ t. Appending a b f g t r) (sym (append-nil (trace_text issue)) ∙ ap (λ o. trace_lines_text (option_to_list o)) e) p

-- nothing was written for one that isn't
pub writes_no_issue : {a : Option (List ℕ)} {f : ℕ} (issues : List IssueRecord) (back : ℕ) (x : Unit {0})
    → None ≡ issue_view issues back → Appending a a f f (issue_text_at issues back) (Ok x)
writes_no_issue {a = a} {f = f} issues back x e =
    subst (λ t. Appending a a f f t (Ok x)) (ap (λ o. trace_lines_text (option_to_list o)) e) (writes_begin a f x)

kept_view : (issues : List IssueRecord) (n : ℕ) → n < 1000 → issue_view issues n ≡ slice_get (reverse issues) n
kept_view issues n kept = grind (arith, nat_tests)

issue_there : (d : IssueRecord) (issues : List IssueRecord) (n : ℕ) → n < 1000 → n < length issues
    → issue_view issues n ≡ Some (get_or issues (length issues - (n + 1)) d)
issue_there d issues n kept within =
    let long = length-reverse issues in
    let place : length issues - 1 - n ≡ length issues - (n + 1) = omega arith in
    kept_view issues n kept ∙ slice_get-get_or (reverse issues) n d (omega (arith, long, within))
    ∙ ap Some (get_or-reverse issues n d within ∙ ap (λ k. get_or issues k d) place)

-- one issue more, where there is one
one_there : (d : IssueRecord) (issues : List IssueRecord) (n : ℕ) → n < 1000 → n < length issues
    → issue_text_at issues n ++ trace_lines_text (keep_last n issues) ≡ trace_lines_text (keep_last (n + 1) issues)
one_there d issues n kept within =
    let first : IssueRecord = get_or issues (length issues - (n + 1)) d in
    let next : length issues - (n + 1) + 1 ≡ length issues - n = omega (arith, within) in
    ap (λ o. trace_lines_text (option_to_list o) ++ trace_lines_text (keep_last n issues)) (issue_there d issues n kept within)
    ∙ sym (flat_map-append trace_text (first ∷ []) (keep_last n issues))
    ∙ ap trace_lines_text (sym (drop_more issues (length issues - (n + 1)) d (omega (arith, within)) ∙ ap (λ k. first ∷ drop k issues) next))

-- and where there is none
none_there : (issues : List IssueRecord) (n : ℕ) → n < 1000 → length issues ≤ n
    → issue_text_at issues n ++ trace_lines_text (keep_last n issues) ≡ trace_lines_text (keep_last (n + 1) issues)
none_there issues n kept past =
    let long = length-reverse issues in
    let all : length issues - n ≡ length issues - (n + 1) = omega (arith, past) in
    ap (λ o. trace_lines_text (option_to_list o) ++ trace_lines_text (keep_last n issues))
    (kept_view issues n kept ∙ slice_get_past (reverse issues) n (omega (arith, long, past))) ∙ ap (λ k. trace_lines_text (drop k issues)) all

one_more : (issues : List IssueRecord) (n : ℕ) → n < 1000
    → issue_text_at issues n ++ trace_lines_text (keep_last n issues) ≡ trace_lines_text (keep_last (n + 1) issues)
one_more [] n kept = none_there [] n kept (omega arith)
one_more (d ∷ rest) n kept = elim (cases_lt n (length (d ∷ rest))) [
  | inl within ↦ one_there d (d ∷ rest) n kept within
  | inr past ↦ none_there (d ∷ rest) n kept past
]

-- the first lines, and the issues that are still to come
so_far : (issues : List IssueRecord) (count n : ℕ) → count ≤ 1000 → n ≤ count
    → joined_below (oldest_first count issues) n ++ trace_lines_text (keep_last (count - n) issues) ≡ trace_lines_text (keep_last count issues)
so_far issues count zero most within =
    let whole : count - 0 ≡ count = omega arith in
    ap (λ t. t ++ trace_lines_text (keep_last (count - 0) issues)) (joined_below-zero (oldest_first count issues))
    ∙ ap (λ k. trace_lines_text (keep_last k issues)) whole
so_far issues count (suc n) most within =
    let same : suc n ≡ n + 1 = omega arith in
    let back : count - 1 - n ≡ count - suc n = omega arith in
    let next : count - suc n + 1 ≡ count - n = omega (arith, within) in
    ap (λ t. t ++ trace_lines_text (keep_last (count - suc n) issues))
    (ap (joined_below (oldest_first count issues)) same ∙ joined_below-more (oldest_first count issues) n)
    ∙ append_assoc (joined_below (oldest_first count issues) n) (issue_text_at issues (count - 1 - n)) (trace_lines_text (keep_last (count - suc n) issues))
    ∙ ap (λ k. joined_below (oldest_first count issues) n ++ (issue_text_at issues k ++ trace_lines_text (keep_last (count - suc n) issues))) back
    ∙ ap (λ t. joined_below (oldest_first count issues) n ++ t) (one_more issues (count - suc n) (omega (arith, most, within)))
    ∙ ap (λ k. joined_below (oldest_first count issues) n ++ trace_lines_text (keep_last k issues)) next
    ∙ so_far issues count n most (omega (arith, within))

-- the lines of the latest `count` issues
pub all_shown : (issues : List IssueRecord) (count : ℕ) → count ≤ 1000
    → joined_below (oldest_first count issues) count ≡ trace_lines_text (keep_last count issues)
all_shown issues count most =
    let none : length issues - (count - count) ≡ length issues = omega arith in
    sym (append-nil (joined_below (oldest_first count issues) count))
    ∙ ap (λ xs. joined_below (oldest_first count issues) count ++ trace_lines_text xs)
    (sym (ap (λ k. drop k issues) none ∙ drop_all (length issues) issues (omega arith))) ∙ so_far issues count count most (omega arith)
