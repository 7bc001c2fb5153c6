use Rattle.std.proofs.Common.{◌+◌, List, ◌∙◌, ap, add-one, sym, subst, drop}
use Rattle.image_tool.specs.Image.{bytes_of}
use Rattle.boot_monitor.proofs.Replies.{counted-in, reached, taken}
use Rattle.boot_monitor.specs.Actions.{Action, answered, send}
use Rattle.boot_monitor.specs.Errands.{frame_rest, lead, words_left}
use Rattle.boot_monitor.specs.Phases.{IsCounted, IsIn, mind_of, todo_in}
use Rattle.boot_monitor.specs.declared.phases.Phase.TheVariants.{Answering}
use Rattle.boot_monitor.specs.declared.phases.Transfer.TheVariants.{HeaderByte, Lead, PayloadByte, WordByte}
use Rattle.boot_monitor.proofs.phases.MonitorState.transferred.Goals as goal

pub returns-in-Lead-clause-is_in : goal.returns-in-Lead-clause-is_in
returns-in-Lead-clause-is_in c = λ s h.
    let p = Answering (Lead c.in-Lead.frame c.in-Lead.errand c.in-Lead.place) in
    let e = c.requires.answering ∙ ap Answering c.in-Lead.is in
    let about = subst (λ p. IsCounted p c.args.self.room c.args.self.tally.count c.args.self.tally.size) e c.requires.sound.counted in
    let todo : List Action = todo_in p c.args.self.ctrl c.args.self.tally.count c.args.self.tally.size in
    taken c.args.self c.at.result s c.args.word p h e
    (subst (λ n. IsIn n (answered c.args.self.room c.args.self.ctrl todo (mind_of c.args.self s.mind.bytes) c.args.word))
    (sym c.at.ensures)
    (reached c.args.self c.leading.result _ s.mind.bytes c.args.self.room c.args.self.ctrl
    (c.leading.ensures.same c.args.self.ctrl c.args.self.room c.args.self.tally.count c.args.self.tally.size about
    ∙ ap (λ n. send (drop n (lead c.in-Lead.frame c.in-Lead.errand)) (frame_rest c.in-Lead.frame c.in-Lead.errand c.args.self.tally.size)) (add-one c.in-Lead.place))
    c.leading.ensures.started c.leading.ensures.ready (λ r. counted-in c.args.self s p h e (c.leading.ensures.coming r))))

pub returns-in-HeaderByte-clause-is_in : goal.returns-in-HeaderByte-clause-is_in
returns-in-HeaderByte-clause-is_in c = λ s h.
    let e = c.requires.answering ∙ ap Answering c.in-HeaderByte.is in
    taken c.args.self c.took_header.result s c.args.word (Answering HeaderByte) h e
    (c.took_header.ensures.is_in s.mind.bytes (counted-in c.args.self s (Answering HeaderByte) h e tt))

pub returns-in-PayloadByte-clause-is_in : goal.returns-in-PayloadByte-clause-is_in
returns-in-PayloadByte-clause-is_in c = λ s h.
    let e = c.requires.answering ∙ ap Answering c.in-PayloadByte.is in
    taken c.args.self c.took_payload.result s c.args.word (Answering PayloadByte) h e
    (c.took_payload.ensures.is_in s.mind.bytes (counted-in c.args.self s (Answering PayloadByte) h e tt))

pub returns-in-WordByte-clause-is_in : goal.returns-in-WordByte-clause-is_in
returns-in-WordByte-clause-is_in c = λ s h.
    let p = Answering (WordByte c.in-WordByte.page c.in-WordByte.index c.in-WordByte.sent c.in-WordByte.place) in
    let e = c.requires.answering ∙ ap Answering c.in-WordByte.is in
    let todo : List Action = todo_in p c.args.self.ctrl c.args.self.tally.count c.args.self.tally.size in
    taken c.args.self c.at-in-WordByte.result s c.args.word p h e
    (subst (λ n. IsIn n (answered c.args.self.room c.args.self.ctrl todo (mind_of c.args.self s.mind.bytes) c.args.word))
    (sym c.at-in-WordByte.ensures)
    (reached c.args.self c.wording.result _ s.mind.bytes c.args.self.room c.args.self.ctrl
    (c.wording.ensures.same c.args.self.ctrl c.args.self.tally.count c.args.self.tally.size
    ∙ ap (λ n. send (drop n (bytes_of c.in-WordByte.sent)) (words_left c.in-WordByte.page (c.in-WordByte.index + 1))) (add-one c.in-WordByte.place))
    c.wording.ensures.started c.wording.ensures.ready (λ r. elim (c.wording.ensures.coming r) [ ])))
