use Rattle.std.proofs.Common.{List, ◌∷◌, [], ◌++◌, sym, refl, arith, subst}
use Rattle.boot_monitor.proofs.Taking.{header-ends, header-goes}
use Rattle.boot_monitor.specs.Actions.{Action, settled}
use Rattle.boot_monitor.specs.Gathers.{after_header}
use Rattle.boot_monitor.specs.Phases.{IsIn, from_of, mind_of}
use Rattle.boot_monitor.proofs.phases.MonitorState.took_header.Goals as goal

pub returns-then-tally-eq12-clause-is_in : goal.returns-then-tally-eq12-clause-is_in
returns-then-tally-eq12-clause-is_in c = λ bytes h.
    header-ends c.took_whole_header.result c.args.self.room c.args.self.ctrl (mind_of c.args.self (bytes ++ c.args.byte ∷ [])) (from_of c.args.source) c.args.self.tally.count
    (omega (arith, c.with-tally.ensures.count, c.if-tally-eq12.true))
    (c.took_whole_header.ensures.is_in (bytes ++ c.args.byte ∷ []) (c.with-tally.ensures.counts bytes h))

pub returns-else-tally-eq12-clause-is_in : goal.returns-else-tally-eq12-clause-is_in
returns-else-tally-eq12-clause-is_in c = λ bytes h.
    let todo : List Action = after_header (from_of c.args.source) c.args.self.tally.count in
    subst (λ n. IsIn n (settled c.args.self.room c.args.self.ctrl todo (mind_of c.args.self (bytes ++ c.args.byte ∷ []))))
    (sym c.at.ensures)
    (header-goes (record c.args.self { phase = c.awaiting_header.result; tally = c.with-tally.result }) c.args.self.room c.args.self.ctrl
    (mind_of c.args.self (bytes ++ c.args.byte ∷ [])) refl refl (from_of c.args.source) c.args.self.tally.count
    (c.awaiting_header.ensures.same c.args.self.ctrl c.with-tally.result.count c.with-tally.result.size)
    c.with-tally.ensures.count c.requires.few (omega (arith, c.with-tally.ensures.count, c.if-tally-eq12.false)) (c.with-tally.ensures.counts bytes h))
