use Rattle.std.proofs.Common.{sym, subst}
use Rattle.boot_monitor.proofs.Requests.{admits, asks-next, mine, room-is}
use Rattle.boot_monitor.specs.Standing.{Stands, given_by}
use Rattle.boot_monitor.proofs.monitor.Monitor.act.Goals as goal

pub returns-clause-answer : goal.returns-clause-answer
returns-clause-answer c = λ room ctrl given h.
    let stands = c.replied-self-inside.ensures.stands room ctrl given (subst (λ m. Stands m room ctrl given) (sym c.self.view_is) h) in
    (stands, asks-next c.replied-self-inside.result c.request.result room ctrl (given_by given c.args.reply) stands c.request.ensures.asked)

pub returns-clause-mine : goal.returns-clause-mine
returns-clause-mine c = λ room ctrl given request h e.
    let stands = c.replied-self-inside.ensures.stands room ctrl given (subst (λ m. Stands m room ctrl given) (sym c.self.view_is) h) in
    mine c.replied-self-inside.result c.request.result room ctrl (given_by given c.args.reply) request stands c.replied-self-inside.ensures.sound
    (asks-next c.replied-self-inside.result c.request.result room ctrl (given_by given c.args.reply) stands c.request.ensures.asked) e

pub returns-clause-admitted : goal.returns-clause-admitted
returns-clause-admitted c = λ room ctrl dmem given request h e.
    let stands = c.replied-self-inside.ensures.stands room ctrl given (subst (λ m. Stands m room ctrl given) (sym c.self.view_is) h) in
    admits room dmem request (room-is c.replied-self-inside.result room ctrl (given_by given c.args.reply) stands c.replied-self-inside.ensures.sound)
    (mine c.replied-self-inside.result c.request.result room ctrl (given_by given c.args.reply) request stands c.replied-self-inside.ensures.sound
    (asks-next c.replied-self-inside.result c.request.result room ctrl (given_by given c.args.reply) stands c.request.ensures.asked) e)
