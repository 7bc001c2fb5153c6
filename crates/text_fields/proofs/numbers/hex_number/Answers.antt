use Rattle.std.proofs.Common.{arith, length}
use Rattle.text_fields.proofs.HexNumbers.{digits_fit}
use Rattle.text_fields.proofs.numbers.hex_number.Goals as goal

pub overflow_mul-value : goal.overflow_mul-value
overflow_mul-value c =
    let loop = c.loop-byte in
    let fits = digits_fit loop.value 0 loop.byte-index (length c.args.text.now) loop.invariant.small (omega arith) c.loop-byte-test.true (omega arith) in
    omega (arith, fits)

pub overflow_add-value : goal.overflow_add-value
overflow_add-value c =
    let loop = c.loop-byte in
    let small = c.in-Some.ensures.bound in
    let fits = digits_fit loop.value c.in-Some.digit loop.byte-index (length c.args.text.now) loop.invariant.small small c.loop-byte-test.true (omega arith) in
    omega (arith, fits)
