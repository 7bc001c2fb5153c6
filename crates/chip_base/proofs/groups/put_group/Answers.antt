use Rattle.std.proofs.Common.{◌≡◌, ◌∙◌, ◌+◌, lit<, rules, arith, map, drop, length, length-append, ◌∷◌, [], sym, Some, None}
use Rattle.std.specs.Prelude.{option_and_then}
use Rattle.std.proofs.lemmas.Iterator.Consumers.{YieldsList-turn, YieldsList-end}
use Rattle.std.proofs.lemmas.Iterator.Splits.{YieldsList-from_str_split}
use Rattle.std.proofs.lemmas.Grind.{common_steps}
use Rattle.chip_base.specs.Groups.{pieces}
use Rattle.chip_base.specs.UnitTable.{lane_named}
use Rattle.chip_base.specs.Placing.{put, put_all}
use Rattle.chip_base.proofs.Places.{put_name, put_no_name}
use Rattle.chip_base.proofs.groups.put_group.Goals as goal
use Rattle.chip_base.proofs.groups.put_group.Goals.{In-Some}

-- the names that are left begin with this one
left : (c : In-Some) → put_all (map (λ x. (x, c.args.group)) (drop (length c.loop-name.yielded) (pieces 44 c.args.names.now))) c.loop-name.places
    ≡ option_and_then (put_all (map (λ x. (x, c.args.group)) (drop (length c.loop-name.yielded + 1) (pieces 44 c.args.names.now)))) (put c.args.group (lane_named c.in-Some.name.now) c.loop-name.places)
left c =
    let road = YieldsList-from_str_split {s = c.into_iter-name-iterator.result} 44 c.args.names.now (lit< tt) (search rules) (search rules) (search rules) in
    let turn = YieldsList-turn road c.loop-name.yielded c.loop-name.name-iterator c.loop-name.yielded_by c.next.result c.next.new.self c.in-Some.name c.in-Some.is c.next.ensures.steps in
    put_name c.args.group (pieces 44 c.args.names.now) (length c.loop-name.yielded) c.in-Some.name.now c.loop-name.places turn.0 turn.1

pub returns-in_err-places-clause-value : goal.returns-in_err-places-clause-value
returns-in_err-places-clause-value c =
    let refused : put c.args.group (lane_named c.in-Some.name.now) c.loop-name.places ≡ None = sym c.put_lane.ensures.value ∙ c.in_err-places.was in
    c.from_residual.ensures ∙ sym (rw refused at (left (goal.at.returns-in_err-places-clause-value c).In-Some)) ∙ c.loop-name.invariant.rest

pub loop-name-preserved : goal.loop-name-preserved
loop-name-preserved c =
    let done : put c.args.group (lane_named c.in-Some.name.now) c.loop-name.places ≡ Some c.in_ok-places.places = sym c.put_lane.ensures.value ∙ c.in_ok-places.was in
    let one_more = length-append c.loop-name.yielded (c.in-Some.name ∷ []) in
    record {
      rest = rw one_more (sym (rw done at (left (goal.at.loop-name-preserved c).In-Some)) ∙ c.loop-name.invariant.rest);
      more = grind (arith, common_steps, c.in_ok-places.ensures.counts);
    }

pub returns-clause-value : goal.returns-clause-value
returns-clause-value c =
    let road = YieldsList-from_str_split {s = c.into_iter-name-iterator.result} 44 c.args.names.now (lit< tt) (search rules) (search rules) (search rules) in
    let end = YieldsList-end road c.loop-name.yielded c.loop-name.name-iterator c.loop-name.yielded_by c.next.result c.next.new.self c.in-None.is c.next.ensures.steps in
    sym (put_no_name c.args.group (pieces 44 c.args.names.now) (length c.loop-name.yielded) c.loop-name.places end.1) ∙ c.loop-name.invariant.rest
