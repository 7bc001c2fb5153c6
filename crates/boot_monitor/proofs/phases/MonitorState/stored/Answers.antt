use Rattle.std.proofs.Common.{ℕ, ◌+◌, ◌-◌, List, sym, refl, arith, subst}
use Rattle.std.specs.Prelude.{◌/◌}
use Rattle.boot_monitor.proofs.Taking.{words-end, words-go}
use Rattle.boot_monitor.specs.Actions.{Action, settled}
use Rattle.boot_monitor.specs.Gathers.{gathers_words}
use Rattle.boot_monitor.specs.Phases.{IsIn, from_of, mind_of}
use Rattle.boot_monitor.proofs.phases.MonitorState.stored.Goals as goal

pub returns-then-self-clause-is_in : goal.returns-then-self-clause-is_in
returns-then-self-clause-is_in c = λ bytes h.
    words-end c.took_whole_payload.result c.args.self.room c.args.self.ctrl (mind_of c.args.self bytes) (from_of c.args.source) c.args.self.tally.count c.args.self.tally.size
    c.if-self.true (c.took_whole_payload.ensures.is_in bytes h)

pub returns-else-self-clause-is_in : goal.returns-else-self-clause-is_in
returns-else-self-clause-is_in c = λ bytes h.
    let left : ℕ = (12 + c.args.self.tally.size - c.args.self.tally.count) / 4 in
    let todo : List Action = gathers_words (from_of c.args.source) (c.args.self.tally.count - 12) left in
    subst (λ n. IsIn n (settled c.args.self.room c.args.self.ctrl todo (mind_of c.args.self bytes))) (sym c.at.ensures)
    (words-go (record c.args.self { phase = c.awaiting_payload.result }) c.args.self.room c.args.self.ctrl (mind_of c.args.self bytes) refl refl (from_of c.args.source)
    (c.awaiting_payload.ensures.same c.args.self.ctrl c.args.self.tally.count c.args.self.tally.size)
    (omega (arith, c.requires.storing.from)) (omega (arith, c.requires.storing.to, c.if-self.false)) c.requires.storing.word c.requires.storing.whole h)
