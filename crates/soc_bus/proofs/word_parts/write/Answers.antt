use Rattle.std.proofs.Common.{arith, ◌≡◌, ◌+◌, ◌%◌, ◌≤◌, length, ◌<◌, ◌/◌}
use Rattle.soc_bus.specs.Access.{width_bytes}
use Rattle.soc_bus.specs.Memory.{low_bytes}
use Rattle.soc_bus.proofs.Bytes.{has_bytes, in_word, length_low_bytes, set_bytes_of}
use Rattle.soc_bus.proofs.word_parts.write.Goals as goal

pub returns : goal.returns
returns c =
    let at = c.args.at in
    let n : length (low_bytes c.args.width c.args.value) ≡ width_bytes c.args.width = length_low_bytes c.args.width c.args.value in
    let room : at % 4 + width_bytes c.args.width ≤ 4 = in_word c.args.width at c.requires.aligned in
    let within : at / 4 < length c.args.words.now = omega (arith, has_bytes c.args.width) in
    set_bytes_of c.args.words.now (at / 4) (at % 4) at c.changed.result (low_bytes c.args.width c.args.value) (omega arith) within (omega arith)
    (rw (c.bytes.ensures, c.to_le_bytes-bytes.ensures) at c.changed.ensures)
