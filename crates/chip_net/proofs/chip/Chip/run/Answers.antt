use Rattle.std.proofs.Common.{◌≡◌, ◌++◌, sym, ap, ◌∙◌, refl, append_assoc, append-nil, arith}
use Rattle.chip_whole.specs.Chip.{events_of}
use Rattle.chip_whole.proofs.Runs.{after_more, after_zero}
use Rattle.chip_net.proofs.chip.Chip.run.Goals as goal

pub loop-init : goal.loop-init
loop-init g c = record {
  state = λ board s h. rw after_zero h;
  events = λ board s h. rw (after_zero, c.clear.ensures.items, append-nil) refl;
  now = omega arith;
}

pub loop-preserved : goal.loop-preserved
loop-preserved g c = record {
  state = λ board s h. rw after_more (c.step-told.ensures.state board _ (c.loop.invariant.state board s h));
  events = λ board s h.
      let before = c.loop.invariant.events board s h in
      let here = c.step-told.ensures.told board _ (c.loop.invariant.state board s h) in
      let kept : c.step-told.new.self.events.items ≡ c.loop.self.events.items = ap (λ v. v.items) c.step-told.ensures.kept in
      let added : c.keep_all.new.events.items ≡ c.loop.self.events.items ++ events_of c.step-told.result
      = c.in_ok-keep_all.ensures ∙ ap (λ e. e ++ events_of c.step-told.result) kept in
      ap (λ x. x.events) (after_more board s c.loop.counter) ∙ here ∙ ap (λ e. e ++ events_of c.step-told.result) before
      ∙ append_assoc s.events c.loop.self.events.items (events_of c.step-told.result) ∙ ap (λ e. s.events ++ e) (sym added);
  now = omega arith;
}
