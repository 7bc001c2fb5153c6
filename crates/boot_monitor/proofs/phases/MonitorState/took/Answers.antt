use Rattle.std.proofs.Common.{◌∙◌, ap}
use Rattle.boot_monitor.proofs.Replies.{counted-in, taken}
use Rattle.boot_monitor.specs.declared.phases.Phase.TheVariants.{Taking}
use Rattle.boot_monitor.specs.declared.phases.Purpose.TheVariants.{Command, Header, Payload}
use Rattle.boot_monitor.proofs.phases.MonitorState.took.Goals as goal

pub returns-in-Command-clause-is_in : goal.returns-in-Command-clause-is_in
returns-in-Command-clause-is_in c = λ s h.
    taken c.args.self c.commanded.result s c.args.word (Taking Command) h (c.requires.taking ∙ ap Taking c.in-Command.is) (c.commanded.ensures.is_in c.args.self.room)

pub returns-in-Header-clause-is_in : goal.returns-in-Header-clause-is_in
returns-in-Header-clause-is_in c = λ s h.
    let e = c.requires.taking ∙ ap Taking c.in-Header.is in
    taken c.args.self c.took_header.result s c.args.word (Taking Header) h e (c.took_header.ensures.is_in s.mind.bytes (counted-in c.args.self s (Taking Header) h e tt))

pub returns-in-Payload-clause-is_in : goal.returns-in-Payload-clause-is_in
returns-in-Payload-clause-is_in c = λ s h.
    let e = c.requires.taking ∙ ap Taking c.in-Payload.is in
    taken c.args.self c.took_payload.result s c.args.word (Taking Payload) h e (c.took_payload.ensures.is_in s.mind.bytes (counted-in c.args.self s (Taking Payload) h e tt))
