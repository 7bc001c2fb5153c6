use Rattle.std.proofs.Common.{◌-◌, ◌^◌, ◌∙◌, Ok, ap, sym}
use Rattle.text_fields.specs.Fields.{after_field}
use Rattle.text_fields.specs.Numbers.{number_of}
use Rattle.script_text.specs.ScriptLine.{or_fault}
use Rattle.script_text.specs.declared.script_fault.ScriptKind.TheVariants as kind
use Rattle.script_text.proofs.LineSteps.{a_number, no_number}
use Rattle.script_text.proofs.script_line.number_field.Goals as goal

pub returns-then-is_empty : goal.returns-then-is_empty
returns-then-is_empty c = no_number c.args.text.now c.is_empty.result c.is_empty.ensures c.if-is_empty.true

pub returns-in-Some : goal.returns-in-Some
returns-in-Some c = ap (λ r. Ok (c.in-Some.value, r)) c.after_field.ensures
    ∙ ap (λ o. or_fault kind.Number o (after_field c.args.text.now)) (sym c.in-Some.is)
    ∙ a_number c.args.text.now c.number.result c.is_empty.result c.is_empty.ensures c.if-is_empty.false
    (c.number.ensures.value ∙ ap (number_of 10 (2 ^ 32 - 1)) c.field.ensures)

pub returns-in-None : goal.returns-in-None
returns-in-None c = ap (λ o. or_fault kind.Number o (after_field c.args.text.now)) (sym c.in-None.is)
    ∙ a_number c.args.text.now c.number.result c.is_empty.result c.is_empty.ensures c.if-is_empty.false
    (c.number.ensures.value ∙ ap (number_of 10 (2 ^ 32 - 1)) c.field.ensures)
