use Rattle.std.proofs.Common.{◌+◌, ◌≤◌, length, drop, sym, ap, ◌∙◌, arith}
use Rattle.std.specs.Option.{option_or}
use Rattle.bench_debug.specs.Stops.{first_met}
use Rattle.bench_debug.proofs.FirstMet.{met_next, met_past}
use Rattle.bench_debug.proofs.stops.first_met.Goals as goal

pub returns-in-Some : goal.returns-in-Some
returns-in-Some c =
    let i = c.loop-command.command-index in
    sym (c.loop-command.invariant ∙ met_next c.args.earlier.now i _ c.args.store c.loop-command-test.true
    ∙ ap (λ o. option_or o (first_met (drop (i + 1) c.args.earlier.now) c.args.store)) (sym c.met_by.ensures ∙ c.in-Some.is))

pub loop-command-preserved : goal.loop-command-preserved
loop-command-preserved c =
    let i = c.loop-command.command-index in
    c.loop-command.invariant ∙ met_next c.args.earlier.now i _ c.args.store c.loop-command-test.true
    ∙ ap (λ o. option_or o (first_met (drop (i + 1) c.args.earlier.now) c.args.store)) (sym c.met_by.ensures ∙ c.in_default.is)

pub returns : goal.returns
returns c =
    let past : length c.args.earlier.now ≤ c.loop-command.command-index = omega (arith, c.loop-command-test.false) in
    sym (c.loop-command.invariant ∙ met_past c.args.earlier.now c.loop-command.command-index c.args.store past)
