use Rattle.std.proofs.Common.{◌≡◌, ◌<◌, ◌^◌, ◌∙◌, None, ap, arith, drop, length, sym}
use Rattle.std.proofs.lemmas.List.{length-drop}
use Rattle.image_tool.specs.FirstFault.{image_fault}
use Rattle.image_tool.specs.Image.{IsImage, size_of}
use Rattle.image_tool.proofs.ImageLemmas.{image_from_none, size_of-image_of}
use Rattle.image_tool.proofs.judging.check.Goals as goal

pub returns-in-None-clause-accepted : goal.returns-in-None-clause-accepted
returns-in-None-clause-accepted c =
    let bytes = c.args.bytes.now in
    let none : image_fault c.args.room bytes ≡ None = sym c.first_fault.ensures ∙ c.in-None.is in
    let image : IsImage c.args.room bytes (drop 12 bytes) = image_from_none c.args.room bytes (λ i _. omega (arith, c.type_inv.bytes i)) none in
    let fits : length (drop 12 bytes) < 2 ^ 32 = omega (arith, length-drop 12 bytes) in
    (image, c.word_at.ensures ∙ (ap size_of image.1 ∙ size_of-image_of (drop 12 bytes) fits), c.word_at.ensures)
