use Rattle.std.proofs.Common.{◌+◌, ap, arith, length, sym, subst, ◌∙◌}
use Rattle.delay_line.specs.Queue.{ArriveIn, Flow, left_after}
use Rattle.delay_line.proofs.Arrival.{arrives_on_time, same_places}
use Rattle.delay_line.proofs.Places.{put_behind, room, stays_none, stays_some, stepped_none, stepped_some}
use Rattle.delay_line.proofs.link.DelayLine.step.Goals as goal

pub push_back_reserved-requires : goal.push_back_reserved-requires
push_back_reserved-requires g c =
    let free = room c.self.inside.cycle c.self.inside.delay c.self.inside.queue.items c.self.invariant.0 c.self.invariant.3 in
    let same = ap length c.take_arrived.ensures.items in
    omega (arith, free, same, c.self.invariant.2, c.take_arrived.ensures.capacity)

pub invariant_of-self : goal.invariant_of-self
invariant_of-self g c = (
  c.self.invariant.0,
  c.self.invariant.1,
  omega (arith, c.self.invariant.2, c.take_arrived.ensures.capacity, c.push_back_reserved.ensures.capacity),
  subst (ArriveIn (c.self.inside.cycle + 1) (c.self.inside.cycle + 1 + c.self.inside.delay))
      (sym (put_behind c.self.inside.cycle c.from.result c.self.inside.delay c.push_back_reserved.new.self.items c.take_arrived.new.queue.items
      (left_after c.self.inside.queue.items c.self.inside.cycle) c.in-Some.msg c.push_back_reserved.ensures.items c.take_arrived.ensures.items c.from.ensures))
      (stays_some c.self.inside.cycle c.self.inside.delay c.self.inside.queue.items c.in-Some.msg c.self.invariant.0 c.self.invariant.3),
)

pub invariant_of-self-in_default : goal.invariant_of-self-in_default
invariant_of-self-in_default g c = (
  c.self.invariant.0,
  c.self.invariant.1,
  omega (arith, c.self.invariant.2, c.take_arrived.ensures.capacity),
  subst (ArriveIn (c.self.inside.cycle + 1) (c.self.inside.cycle + 1 + c.self.inside.delay)) (sym c.take_arrived.ensures.items)
      (stays_none c.self.inside.cycle c.self.inside.delay c.self.inside.queue.items c.self.invariant.0 c.self.invariant.3),
)

pub returns-in-Some-clause-link : goal.returns-in-Some-clause-link
returns-in-Some-clause-link g c =
    stepped_some c.self.inside.cycle c.self.inside.delay c.self.inside.queue.items c.push_back_reserved.new.self.items c.args.self.now c.args.sent c.in-Some.msg
    c.self.invariant.0 c.self.invariant.3 c.self.view_is c.in-Some.is
    (put_behind c.self.inside.cycle c.from.result c.self.inside.delay c.push_back_reserved.new.self.items c.take_arrived.new.queue.items
    (left_after c.self.inside.queue.items c.self.inside.cycle) c.in-Some.msg c.push_back_reserved.ensures.items c.take_arrived.ensures.items c.from.ensures)

pub returns-in-Some-clause-places : goal.returns-in-Some-clause-places
returns-in-Some-clause-places g c =
    ap (λ (f : Flow g.row.M.Denot). length f.places) (returns-in-Some-clause-link g c) ∙ same_places c.args.self.now.places c.args.sent

pub returns-in-Some-clause-on_time : goal.returns-in-Some-clause-on_time
returns-in-Some-clause-on_time g c = arrives_on_time c.args.self.now c.args.sent

pub returns-in_default-clause-link : goal.returns-in_default-clause-link
returns-in_default-clause-link g c =
    stepped_none c.self.inside.cycle c.self.inside.delay c.self.inside.queue.items c.take_arrived.new.queue.items c.args.self.now c.args.sent
    c.self.invariant.0 c.self.invariant.3 c.self.view_is c.in_default.is c.take_arrived.ensures.items

pub returns-in_default-clause-places : goal.returns-in_default-clause-places
returns-in_default-clause-places g c =
    ap (λ (f : Flow g.row.M.Denot). length f.places) (returns-in_default-clause-link g c) ∙ same_places c.args.self.now.places c.args.sent

pub returns-in_default-clause-on_time : goal.returns-in_default-clause-on_time
returns-in_default-clause-on_time g c = arrives_on_time c.args.self.now c.args.sent
