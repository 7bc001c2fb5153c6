use Rattle.std.proofs.Common.{◌∙◌, ap, arith}
use Rattle.spi_flash.specs.Flash.{byte_of, cells_of, erased}
use Rattle.spi_flash.proofs.Ranges.{erases}
use Rattle.spi_flash.proofs.array.Array.erase.Goals as goal

pub returns : goal.returns
returns c =
    erases c.args.size c.args.address c.self.inside.kept.items c.fill.new.kept.items c.min-start.result c.min-end.result (omega arith) c.requires.size
    (omega arith) (omega arith) c.fill.ensures.bytes ∙ ap (λ cells. cells_of (erased c.args.size c.args.address (byte_of cells))) c.self.view_is
