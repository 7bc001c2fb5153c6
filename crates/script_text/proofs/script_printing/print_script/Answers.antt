use Rattle.script_text.proofs.ScriptRound.{printed_round}
use Rattle.script_text.proofs.script_printing.print_script.Goals as goal

pub returns-in-Ok-clause-reads : goal.returns-in-Ok-clause-reads
returns-in-Ok-clause-reads c =
    let p = c.as_slice-pins in
    let u = c.as_slice-uart0 in
    let v = c.as_slice-uart1 in
    printed_round c.in-Ok.out.items c.args.script.now p.result.now u.result.now v.result.now c.in-Ok.ensures.text p.ensures.value u.ensures.value v.ensures.value
    p.ensures.valid u.ensures.valid v.ensures.valid c.in-Ok.ensures.bytes0 c.in-Ok.ensures.bytes1
