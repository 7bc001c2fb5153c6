use Rattle.std.proofs.Common.{List, ◌∷◌, [], ◌++◌, sym, refl, arith, subst}
use Rattle.boot_monitor.proofs.Taking.{word-ends, word-goes}
use Rattle.boot_monitor.specs.Actions.{Action, settled}
use Rattle.boot_monitor.specs.Gathers.{after_payload}
use Rattle.boot_monitor.specs.Phases.{IsIn, from_of, mind_of}
use Rattle.boot_monitor.specs.declared.phases.Phase.TheVariants.{Storing}
use Rattle.boot_monitor.proofs.phases.MonitorState.took_payload.Goals as goal

pub returns-then-tally-eq0-clause-is_in : goal.returns-then-tally-eq0-clause-is_in
returns-then-tally-eq0-clause-is_in c = λ bytes h.
    let todo : List Action = after_payload (from_of c.args.source) c.args.self.tally.count c.args.self.tally.size in
    subst (λ n. IsIn n (settled c.args.self.room c.args.self.ctrl todo (mind_of c.args.self (bytes ++ c.args.byte ∷ []))))
    (sym c.at.ensures)
    (word-ends (record c.args.self { phase = Storing c.args.source; tally = c.with-tally.result }) c.args.self.room c.args.self.ctrl
    (mind_of c.args.self (bytes ++ c.args.byte ∷ [])) refl refl (from_of c.args.source) c.args.self.tally.count c.args.self.tally.size
    refl c.with-tally.ensures.count (c.with-tally.ensures.size (omega (arith, c.with-tally.ensures.count, c.requires.loading.from)))
    (omega (arith, c.with-tally.ensures.count, c.if-tally-eq0.true)) (c.with-tally.ensures.counts bytes h))

pub returns-else-tally-eq0-clause-is_in : goal.returns-else-tally-eq0-clause-is_in
returns-else-tally-eq0-clause-is_in c = λ bytes h.
    let todo : List Action = after_payload (from_of c.args.source) c.args.self.tally.count c.args.self.tally.size in
    subst (λ n. IsIn n (settled c.args.self.room c.args.self.ctrl todo (mind_of c.args.self (bytes ++ c.args.byte ∷ []))))
    (sym c.at-else-tally-eq0.ensures)
    (word-goes (record c.args.self { phase = c.awaiting_payload.result; tally = c.with-tally.result }) c.args.self.room c.args.self.ctrl
    (mind_of c.args.self (bytes ++ c.args.byte ∷ [])) refl refl (from_of c.args.source) c.args.self.tally.count c.args.self.tally.size
    (c.awaiting_payload.ensures.same c.args.self.ctrl c.with-tally.result.count c.with-tally.result.size)
    c.with-tally.ensures.count (c.with-tally.ensures.size (omega (arith, c.with-tally.ensures.count, c.requires.loading.from)))
    (omega (arith, c.with-tally.ensures.count, c.if-tally-eq0.false)) (c.with-tally.ensures.counts bytes h))
