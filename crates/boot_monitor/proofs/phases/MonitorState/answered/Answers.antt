use Rattle.boot_monitor.proofs.Replies.{counted-in, moves, taken, turns}
use Rattle.boot_monitor.specs.Phases.{mind_of}
use Rattle.boot_monitor.specs.declared.phases.Phase.TheVariants.{Storing}
use Rattle.boot_monitor.proofs.phases.MonitorState.answered.Goals as goal

pub returns-in-Storing-clause-is_in : goal.returns-in-Storing-clause-is_in
returns-in-Storing-clause-is_in c = λ s h.
    taken c.args.self c.stored.result s c.args.word (Storing c.in-Storing.source) h c.in-Storing.is
    (c.stored.ensures.is_in s.mind.bytes (counted-in c.args.self s (Storing c.in-Storing.source) h c.in-Storing.is tt))

pub returns-in-Enabling-clause-goes : goal.returns-in-Enabling-clause-goes
returns-in-Enabling-clause-goes c =
    moves c.args.self c.at.result c.next_in_talk.result c.at.ensures c.requires.sound c.next_in_talk.ensures.started c.next_in_talk.ensures.ready
    (c.next_in_talk.ensures.counted c.args.self.room c.args.self.tally.count c.args.self.tally.size c.requires.sound.counted)

pub returns-in-Enabling-clause-is_in : goal.returns-in-Enabling-clause-is_in
returns-in-Enabling-clause-is_in c = λ s h.
    turns c.args.self c.at.result s c.args.word c.next_in_talk.result c.at.ensures h
    (c.next_in_talk.ensures.same c.args.self.room c.args.self.ctrl c.args.self.tally.count c.args.self.tally.size (mind_of c.args.self s.mind.bytes)) c.next_in_talk.ensures.coming

pub returns-in_default-clause-goes : goal.returns-in_default-clause-goes
returns-in_default-clause-goes c =
    moves c.args.self c.at-in_default.result c.next_phase.result c.at-in_default.ensures c.requires.sound c.next_phase.ensures.started c.next_phase.ensures.ready
    (c.next_phase.ensures.counted c.args.self.room c.args.self.tally.count c.args.self.tally.size c.requires.sound.counted)

pub returns-in_default-clause-is_in : goal.returns-in_default-clause-is_in
returns-in_default-clause-is_in c = λ s h.
    turns c.args.self c.at-in_default.result s c.args.word c.next_phase.result c.at-in_default.ensures h
    (c.next_phase.ensures.same c.args.self.room c.args.self.ctrl c.args.self.tally.count c.args.self.tally.size (mind_of c.args.self s.mind.bytes) c.requires.sound.counted) c.next_phase.ensures.coming
