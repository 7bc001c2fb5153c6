use Rattle.std.proofs.Common.{◌∙◌}
use Rattle.trace_text.proofs.Parcels.{no_equivalent}
use Rattle.trace_text.proofs.instruction.instruction_of_parcel.Goals as goal

pub returns-in_err-expand : goal.returns-in_err-expand
returns-in_err-expand c = c.from_residual.ensures ∙ no_equivalent c.args.half c.in_err-expand.ensures.value
