use Rattle.std.proofs.Common.{◌∙◌, ap, arith}
use Rattle.spi_flash.specs.Flash.{byte_of, cells_of, programmed}
use Rattle.spi_flash.proofs.Ranges.{programs}
use Rattle.spi_flash.proofs.array.Array.program.Goals as goal

pub returns : goal.returns
returns c =
    programs c.args.address c.args.page.now c.self.inside.kept.items c.keep_to.new.kept.items c.clear_bits.new.kept.items (omega arith)
    c.keep_to.ensures.bytes c.clear_bits.ensures.bytes ∙ ap (λ cells. cells_of (programmed c.args.address c.args.page.now (byte_of cells))) c.self.view_is
