use Rattle.std.proofs.Common.{◌≤◌, length, arith, sym, subst}
use Rattle.std.proofs.lemmas.List.{take_all}
use Rattle.bench_shelf.proofs.Writing.{writes_begin}
use Rattle.chip_net.specs.contracts.chip.ChipStanding.TheImpl.{ghosts}
use Rattle.chip_whole.specs.Chip.{after}
use Rattle.chip_whole.proofs.Runs.{after_zero}
use Rattle.bench_debug.proofs.Sessions.{cycles_more, cycles_none, text_exit, text_going, text_none}
use Rattle.bench_debug.proofs.session.obey_all.Goals as goal

pub loop-i-init : goal.loop-i-init
loop-i-init g c = record {
  state = λ board s h. rw (cycles_none board s c.args.bound 0, after_zero board s) h;
  bound = c.requires.bound;
  writes = λ board s h. rw (text_none board s c.args.bound 0) (writes_begin _ _ _);
}

pub returns-in_err-obey-clause-text : goal.returns-in_err-obey-clause-text
returns-in_err-obey-clause-text g c board s h =
    text_exit board s c.args.bound c.args.commands.now c.loop-i.i _ c.from_residual.result c.loop-i-test.true (c.loop-i.invariant.writes board s h)
    (c.in_err-obey.ensures.text board s _ (c.loop-i.invariant.state board s h)) c.from_residual.ensures.1

pub loop-i-preserved : goal.loop-i-preserved
loop-i-preserved g c = record {
  state = λ board s h.
      subst (λ m. (ghosts (g.dyn-1.0, g.dyn-1.1, g.dyn-1.2)).stands board c.obey.new.chip (after board s m))
      (sym (cycles_more board s c.args.bound c.args.commands.now c.loop-i.i _ c.loop-i-test.true)) (c.in_ok-obey.ensures.state board s _
      (c.loop-i.invariant.state board s h));
  bound = c.in_ok-obey.ensures.bound;
  writes = λ board s h.
      text_going board s c.args.bound c.args.commands.now c.loop-i.i _ c.loop-i-test.true (c.loop-i.invariant.writes board s h)
      (c.in_ok-obey.ensures.text board s _ (c.loop-i.invariant.state board s h));
}

pub returns-clause-text : goal.returns-clause-text
returns-clause-text g c board s h =
    let past : length c.args.commands.now ≤ c.loop-i.i = omega (arith, c.loop-i-test.false) in
    rw (take_all c.loop-i.i c.args.commands.now past) at (c.loop-i.invariant.writes board s h)

pub returns-clause-state : goal.returns-clause-state
returns-clause-state g c board s h =
    let past : length c.args.commands.now ≤ c.loop-i.i = omega (arith, c.loop-i-test.false) in
    rw (take_all c.loop-i.i c.args.commands.now past) at (c.loop-i.invariant.state board s h)
