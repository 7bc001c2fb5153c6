use Rattle.std.proofs.Common.{sym, ap, ◌∙◌, arith, ◌+◌, ◌%◌, ◌≤◌, length, ◌<◌, ◌/◌}
use Rattle.soc_bus.specs.Access.{width_bytes}
use Rattle.soc_bus.specs.Memory.{value_in}
use Rattle.soc_bus.proofs.Bytes.{has_bytes, in_word, slice_bytes_of}
use Rattle.soc_bus.proofs.word_parts.read.Goals as goal

pub returns : goal.returns
returns c =
    let at = c.args.at in
    let room : at % 4 + width_bytes c.args.width ≤ 4 = in_word c.args.width at c.requires.aligned in
    let within : at / 4 < length c.args.words.now = omega (arith, has_bytes c.args.width) in
    let same = slice_bytes_of c.args.words.now (at / 4) (at % 4) at (width_bytes c.args.width) (omega arith) within room in
    record {
      below = c.part.ensures.below;
      value = c.part.ensures.value ∙ sym (ap (value_in c.args.width) same);
      bytes = c.part.ensures.bytes ∙ sym same;
    }
