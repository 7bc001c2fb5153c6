use Rattle.boot_gate.proofs.Gates.{gated}
use Rattle.boot_gate.proofs.Held.{has_blocks, holds_images}
use Rattle.boot_gate.proofs.Splits.{splits_once}
use Rattle.boot_gate.proofs.laws.gate.Goals as goal

pub returns-clause-items : goal.returns-clause-items
returns-clause-items c = splits_once

pub returns-clause-images : goal.returns-clause-images
returns-clause-images c = holds_images

pub returns-clause-blocks : goal.returns-clause-blocks
returns-clause-blocks c = has_blocks

pub returns-clause-gated : goal.returns-clause-gated
returns-clause-gated c = gated
