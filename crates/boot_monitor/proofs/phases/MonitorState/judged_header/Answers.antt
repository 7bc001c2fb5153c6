use Rattle.std.proofs.Common.{◌≡◌, ◌∙◌, true, false, sym, refl, arith, subst}
use Rattle.image_tool.specs.Image.{is_allowed}
use Rattle.boot_monitor.proofs.Judging.{bad-signature, bad-size, good-header, headed, part-none, refused-goes}
use Rattle.boot_monitor.specs.Actions.{head}
use Rattle.boot_monitor.specs.Phases.{IsIn, from_of, mind_of}
use Rattle.boot_monitor.specs.declared.phases.Text.TheVariants.{BadSignature, BadSize}
use Rattle.boot_monitor.proofs.phases.MonitorState.judged_header.Goals as goal

pub returns-then-self-ne-SIGNATURE-clause-goes : goal.returns-then-self-ne-SIGNATURE-clause-goes
returns-then-self-ne-SIGNATURE-clause-goes c =
    refused-goes c.args.self c.refused.result BadSignature c.refused.ensures c.requires.size (part-none c.args.self.tally.part c.args.self.tally.count c.requires.part c.requires.count) (omega arith) tt

pub returns-then-self-ne-SIGNATURE-clause-is_in : goal.returns-then-self-ne-SIGNATURE-clause-is_in
returns-then-self-ne-SIGNATURE-clause-is_in c = λ bytes h.
    bad-signature c.args.self c.refused.result c.args.self.room c.args.self.ctrl (mind_of c.args.self bytes) (from_of c.args.source) c.refused.ensures h c.requires.count
    c.if-self-ne-SIGNATURE.true

pub returns-then-not-has_room-clause-goes : goal.returns-then-not-has_room-clause-goes
returns-then-not-has_room-clause-goes c =
    refused-goes c.args.self c.refused-then-not-has_room.result BadSize c.refused-then-not-has_room.ensures c.requires.size (part-none c.args.self.tally.part c.args.self.tally.count c.requires.part c.requires.count) (omega arith) tt

pub returns-then-not-has_room-clause-is_in : goal.returns-then-not-has_room-clause-is_in
returns-then-not-has_room-clause-is_in c = λ bytes h.
    let allowed : is_allowed c.args.self.room c.args.self.tally.size ≡ false = sym c.has_room.ensures ∙ c.if-not-has_room.true in
    bad-size c.args.self c.refused-then-not-has_room.result c.args.self.room c.args.self.ctrl (mind_of c.args.self bytes) (from_of c.args.source)
    c.refused-then-not-has_room.ensures h c.requires.count c.if-self-ne-SIGNATURE.false allowed

pub returns-else-not-has_room-clause-is_in : goal.returns-else-not-has_room-clause-is_in
returns-else-not-has_room-clause-is_in c = λ bytes h.
    let allowed : is_allowed c.args.self.room c.args.self.tally.size ≡ true = sym c.has_room.ensures ∙ c.if-not-has_room.false in
    subst (λ n. IsIn n (head c.args.self.room c.args.self.ctrl (from_of c.args.source) (mind_of c.args.self bytes))) (sym c.at.ensures)
    (good-header (record c.args.self { phase = c.beginning_payload.result }) c.args.self.room c.args.self.ctrl (mind_of c.args.self bytes) (from_of c.args.source)
    (c.beginning_payload.ensures.same c.args.self.ctrl c.args.self.room c.args.self.tally.count c.args.self.tally.size
    (headed c.args.self.room c.args.self.tally.count c.args.self.tally.size c.requires.count allowed))
    refl refl h c.requires.count c.if-self-ne-SIGNATURE.false allowed)
