use Rattle.std.proofs.Common.{◌∙◌, ap, sym, refl, arith, subst}
use Rattle.std.specs.Str.{IsUtf8}
use Rattle.chip_base.specs.Settings.{values_of}
use Rattle.script_text.specs.ChipFile.{chip_of}
use Rattle.script_text.proofs.ChipBack.{read_back}
use Rattle.script_text.proofs.ChipRound.{in_ones, in_steps, round_list}
use Rattle.script_text.proofs.ChipUtf8.{chip_utf8}
use Rattle.script_text.proofs.chip_printing.print_chip.Goals as goal

pub returns-in-Ok-clause-reads : goal.returns-in-Ok-clause-reads
returns-in-Ok-clause-reads c =
    let a = c.args.setup.now in
    let text = c.in-Ok.ensures in
    ap chip_of text ∙ round_list a.clock a.imem a.dmem a.prescaler a.baud a.flash a.delay a.lanes a.delays
    (in_ones 1 4294967295 a.clock a.clock_from a.clock_to) (in_steps 4096 1048576 4096 a.imem a.imem_from a.imem_to a.imem_pages)
    (in_steps 4096 1048576 4096 a.dmem a.dmem_from a.dmem_to a.dmem_pages) (in_ones 0 7 a.prescaler (omega arith) a.prescaler_to)
    (in_ones 0 1023 a.baud (omega arith) a.baud_to) (values_of a) refl

pub returns-in-Ok-clause-utf8 : goal.returns-in-Ok-clause-utf8
returns-in-Ok-clause-utf8 c =
    let a = c.args.setup.now in
    subst IsUtf8 (sym c.in-Ok.ensures)
    (chip_utf8 (values_of a) (omega (arith, a.clock_to)) (omega (arith, a.imem_to)) (omega (arith, a.dmem_to)) (omega (arith, a.prescaler_to)) (omega (arith, a.baud_to)) a.delays)

pub returns-in-Ok-clause-reads_back : goal.returns-in-Ok-clause-reads_back
returns-in-Ok-clause-reads_back c = read_back c.in-Ok.out.items (values_of c.args.setup.now) (returns-in-Ok-clause-utf8 c) (returns-in-Ok-clause-reads c)
